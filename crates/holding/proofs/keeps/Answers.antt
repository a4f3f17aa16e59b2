-- `holding::keeps` meets its contract: so far no room begins before the furthest room before it ends, and the lines of all runs are known.
use mathlib.Core.Path.{ap, subst, ◌∙◌}
use Prim.Native.Nat.{suc, ◌+◌}
use lib.ListN.{get_or}
use native.Mathlib.Omega.{arith}
use Rattle.record.specs.Triple.{Triple}
use Rattle.record.specs.Record.{triple_in}
use Rattle.record.specs.TripleNumber.{triple_of, group_triple}
use Rattle.steps.specs.Turn.{Says}
use Rattle.sizes.specs.Direction.{across, upward}
use Rattle.placing.specs.Room.{HasRoom}
use Rattle.holding.proofs.Holding.{honoured_all, all_honoured, holding_begun, holding_fits, broken_across, broken_upward, holding_turn, holding_end}
use Rattle.holding.proofs.keeps.Goals as goal
use Rattle.holding.proofs.keeps.Goals.{After-turn_of-turn}

-- what it has been told of its triple
told : (e : After-turn_of-turn) → Says (triple_in e.args.body.now (suc (suc e.loop-k.k))) e.turn_of-turn.result
told e = subst (λ (u : Triple). Says u e.turn_of-turn.result) (ap triple_of e.group.ensures.0 ∙ group_triple e.args.body.now e.loop-k.k) e.turn_of-turn.ensures

fits : (e : After-turn_of-turn) → HasRoom e.loop-k.runs.below e.loop-k.runs.above e.turn_of-turn.result
fits e =
    holding_fits e.args.body.now e.args.widths.now e.args.heights.now e.args.x.now e.args.y.now e.requires.sizes.0 e.loop-k.invariant (omega arith) e.turn_of-turn.result (told e)

pub turn-ends-requires : goal.turn-ends-requires
turn-ends-requires c = (omega arith, fits (goal.at.turn-ends-requires c).After-turn_of-turn)

pub loop-k-init : goal.loop-k-init
loop-k-init c =
    let n = c.at-lines.ensures in
    holding_begun c.args.body.now c.args.widths.now c.args.heights.now c.args.x.now c.args.y.now c.requires.sizes.0 n.0 n.1 n.2 n.3 c.end_of-right.ensures c.end_of-top.ensures

pub returns-then-from-ends : goal.returns-then-from-ends
returns-then-from-ends c =
    let n = c.turn-ends.ensures in
    let e = n.left 0 ∙ (λ i. get_or (n.stored.0 i) (c.loop-k.runs.below + c.turn_of-turn.result.rises) 0) in
    λ honours. broken_across c.args.body.now c.args.widths.now c.args.heights.now c.args.x.now c.args.y.now c.requires.sizes.0 c.loop-k.invariant (omega arith) c.turn_of-turn.result (told (goal.at.returns-then-from-ends c).After-turn_of-turn)
    {from = c.from.result} (omega arith) (omega (arith, e, c.if-from-ends.true)) (all_honoured c.args.body.now c.args.widths.now c.args.heights.now c.args.x.now c.args.y.now honours across)

pub returns-then-from-ends-2 : goal.returns-then-from-ends-2
returns-then-from-ends-2 c =
    let n = c.turn-ends.ensures in
    let e = n.bottom 0 ∙ (λ i. get_or (n.stored.3 i) (c.loop-k.runs.above + c.turn_of-turn.result.falls) 0) in
    λ honours. broken_upward c.args.body.now c.args.widths.now c.args.heights.now c.args.x.now c.args.y.now c.requires.sizes.0 c.loop-k.invariant (omega arith) c.turn_of-turn.result (told (goal.at.returns-then-from-ends-2 c).After-turn_of-turn)
    {from = c.from-in-loop-k.result} (omega arith) (omega (arith, e, c.if-from-ends-2.true)) (all_honoured c.args.body.now c.args.widths.now c.args.heights.now c.args.x.now c.args.y.now honours upward)

pub loop-k-preserved : goal.loop-k-preserved
loop-k-preserved c =
    let n = c.turn-ends.ensures in
    holding_turn c.args.body.now c.args.widths.now c.args.heights.now c.args.x.now c.args.y.now c.requires.sizes.0 c.loop-k.invariant (omega arith) c.turn_of-turn.result (told (goal.at.loop-k-preserved c).After-turn_of-turn)
    c.from.result c.from-in-loop-k.result
    n.stored.0 n.stored.1 n.stored.2 n.stored.3 n.counted.0 n.counted.1 (n.left 0) (n.bottom 0) (n.beside 0) (n.under 0)
    (omega arith) (omega arith) c.if-from-ends.false c.if-from-ends-2.false
    (omega (arith, c.max-right.ensures, c.end_of.ensures)) (omega (arith, c.max-top.ensures, c.end_of-in-loop-k.ensures))

pub returns : goal.returns
returns c =
    honoured_all c.args.body.now c.args.widths.now c.args.heights.now c.args.x.now c.args.y.now (holding_end c.args.body.now c.args.widths.now c.args.heights.now c.args.x.now c.args.y.now c.requires.sizes.0 c.loop-k.invariant (omega (arith, c.requires.sizes.0.some)))
