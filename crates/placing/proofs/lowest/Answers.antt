-- `placing::lowest` meets its contract: so far each room starts where the furthest room before it ends, and the lines of all runs are known.
use mathlib.Core.Path.{refl, ap, subst, ◌∙◌}
use Prim.Native.Nat.{suc, ◌+◌}
use lib.ListN.{get_or}
use native.Mathlib.Omega.{arith}
use Rattle.record.specs.Triple.{Triple}
use Rattle.record.specs.Record.{triple_in}
use Rattle.record.specs.TripleNumber.{triple_of, group_triple}
use Rattle.steps.specs.Turn.{Says}
use Rattle.placing.specs.Room.{HasRoom}
use Rattle.placing.proofs.Lowering.{lowering_begun, lowering_fits, left_small, bottom_small, lowering_turn, lowering_end}
use Rattle.placing.proofs.lowest.Goals as goal
use Rattle.placing.proofs.lowest.Goals.{After-turn_of-turn}

-- what it has been told of its triple
told : (e : After-turn_of-turn) → Says (triple_in e.args.body.now (suc (suc e.loop-k.k))) e.turn_of-turn.result
told e = subst (λ (u : Triple). Says u e.turn_of-turn.result) (ap triple_of e.group.ensures.0 ∙ group_triple e.args.body.now e.loop-k.k) e.turn_of-turn.ensures

fits : (e : After-turn_of-turn) → HasRoom e.loop-k.runs.below e.loop-k.runs.above e.turn_of-turn.result
fits e =
    lowering_fits e.args.body.now e.args.widths.now e.args.heights.now e.requires.sizes.0 e.args.x.now e.args.y.now e.requires.places.0 e.requires.places.1
    e.loop-k.invariant (omega arith) e.turn_of-turn.result (told e)

pub turn-ends-requires : goal.turn-ends-requires
turn-ends-requires c = (omega arith, fits (goal.at.turn-ends-requires c).After-turn_of-turn)

pub loop-k-init : goal.loop-k-init
loop-k-init c =
    let n = c.at-lines.ensures in
    lowering_begun c.args.body.now c.args.widths.now c.args.heights.now c.requires.sizes.0 c.args.x.now c.args.y.now c.requires.places.0 c.requires.places.1 n.0 n.1 n.2 n.3 refl refl (omega arith) (omega arith)

pub overflow_add-ends : goal.overflow_add-ends
overflow_add-ends c =
    let s = left_small c.args.body.now c.args.widths.now c.args.heights.now c.requires.sizes.0 c.args.x.now c.args.y.now c.requires.places.0 c.requires.places.1 c.loop-k.invariant (omega arith) c.turn_of-turn.result (told (goal.at.overflow_add-ends c).After-turn_of-turn) (λ i. omega (arith, c.type_inv.widths i)) (λ i. omega (arith, c.type_inv.heights i)) in
    let e = c.turn-ends.ensures.left 0 ∙ (λ i. get_or (c.turn-ends.ensures.stored.0 i) (c.loop-k.runs.below + c.turn_of-turn.result.rises) 0) in
    omega (arith, s, e)

pub overflow_add-ends-in-loop-k : goal.overflow_add-ends-in-loop-k
overflow_add-ends-in-loop-k c =
    let s = bottom_small c.args.body.now c.args.widths.now c.args.heights.now c.requires.sizes.0 c.args.x.now c.args.y.now c.requires.places.0 c.requires.places.1 c.loop-k.invariant (omega arith) c.turn_of-turn.result (told (goal.at.overflow_add-ends-in-loop-k c).After-turn_of-turn) (λ i. omega (arith, c.type_inv.widths i)) (λ i. omega (arith, c.type_inv.heights i)) in
    let e = c.turn-ends.ensures.bottom 0 ∙ (λ i. get_or (c.turn-ends.ensures.stored.3 i) (c.loop-k.runs.above + c.turn_of-turn.result.falls) 0) in
    omega (arith, s, e)

pub loop-k-preserved : goal.loop-k-preserved
loop-k-preserved c =
    let n = c.turn-ends.ensures in
    lowering_turn c.args.body.now c.args.widths.now c.args.heights.now c.requires.sizes.0 c.args.x.now c.args.y.now c.requires.places.0 c.requires.places.1
    c.loop-k.invariant (omega arith) c.turn_of-turn.result (told (goal.at.loop-k-preserved c).After-turn_of-turn)
    n.stored.0 n.stored.1 n.stored.2 n.stored.3 n.counted.0 n.counted.1 (n.left 0) (n.bottom 0) (n.beside 0) (n.under 0)
    (omega (arith, c.max-right.ensures)) (omega (arith, c.max-top.ensures))

pub returns : goal.returns
returns c =
    let (across, upward) = lowering_end c.args.body.now c.args.widths.now c.args.heights.now c.requires.sizes.0 c.args.x.now c.args.y.now
    c.requires.places.0 c.requires.places.1 c.loop-k.invariant (omega (arith, c.requires.sizes.0.some)) in
    record { across = across; upward = upward }
