-- `forward::walk` meets its contract. Between two turns Counted holds, of the sizes, and Placed on either side, of the positions; they also say what one more turn leaves.
use Rattle.std.proofs.Common.{◌≡◌, refl, sym, ap, subst, ◌∙◌, ℕ, suc, ◌+◌, ◌-◌, ◌≤◌, ◌<◌, List, get_or, arith, rules}
use Rattle.bits.specs.Bit.{group_at}
use Rattle.record.specs.Triple.{Triple}
use Rattle.record.specs.Walk.{missing, counts, step, walk}
use Rattle.record.specs.Way.{up, down}
use Rattle.record.specs.Record.{triple_in}
use Rattle.record.specs.TripleNumber.{triple_of, group_triple}
use Rattle.steps.specs.Stack.{either}
use Rattle.steps.specs.Turn.{Says}
use Rattle.forward.proofs.Count.{counted_first, size_few, walk_next, meets, small, turned}
use Rattle.forward.proofs.Starts.{placed_first, placed_next}
use Rattle.steps.specs.Table.{unpacked_next, missing_on}
use Rattle.forward.proofs.walk.Goals as goal
use Rattle.forward.proofs.walk.Goals.{After-chosen, After-chosen-over, After-group-triple, After-turn_of-turn, In_ok-after}

-- the turn's triple
read : (body : List ℕ) (k r : ℕ) → r ≡ group_at body k → triple_of r ≡ triple_in body (suc (suc k))
read body k r e = ap triple_of e ∙ group_triple body k

more : (g : After-group-triple) → g.loop-k.k < 254
more g = omega arith

-- how many runs there are at a turn
few : (g : After-group-triple) → g.loop-k.runs.below + g.loop-k.runs.above < 254
few g = omega (arith, more g, g.loop-k.invariant.sizes.few)

-- what the table says of it
goes : (e : In_ok-after) → step (triple_in e.args.body.now (suc (suc e.loop-k.k))) e.loop-k.runs.below e.loop-k.runs.above ≡ counts e.in_ok-after.after.below e.in_ok-after.after.above
goes e = sym (e.in_ok-after.ensures ∙ ap (λ (u : Triple). step u e.loop-k.runs.below e.loop-k.runs.above) (read e.args.body.now e.loop-k.k e.group-triple.result e.group-triple.ensures.0))

-- what the turn has been told of it
told : (e : After-turn_of-turn) → Says (triple_in e.args.body.now (suc (suc e.loop-k.k))) e.turn_of-turn.result
told e = subst (λ (u : Triple). Says u e.turn_of-turn.result) (read e.args.body.now e.loop-k.k e.group-triple.result e.group-triple.ensures.0) e.turn_of-turn.ensures

-- what is on top of the two stacks, as it was chosen
under_is : (e : After-chosen-over) → e.chosen-under.result ≡ either e.turn_of-turn.result.rises e.loop-k.size (get_or e.loop-k.below e.loop-k.runs.below 0)
under_is e = e.chosen-under.ensures ∙ ap (either e.turn_of-turn.result.rises e.loop-k.size) e.from.ensures

over_is : (e : After-chosen-over) → e.chosen-over.result ≡ either e.turn_of-turn.result.falls e.loop-k.size (get_or e.loop-k.above e.loop-k.runs.above 0)
over_is e = e.chosen-over.ensures ∙ ap (either e.turn_of-turn.result.falls e.loop-k.size) e.from-in-loop-k.ensures

-- the sizes fit in bytes
fit : (e : After-chosen) → e.loop-k.k < 254 → step (triple_in e.args.body.now (suc (suc e.loop-k.k))) e.loop-k.runs.below e.loop-k.runs.above ≡ counts e.in_ok-after.after.below e.in_ok-after.after.above
    → Says (triple_in e.args.body.now (suc (suc e.loop-k.k))) e.turn_of-turn.result
    → e.chosen-under.result ≡ either e.turn_of-turn.result.rises e.loop-k.size (get_or e.loop-k.below e.loop-k.runs.below 0)
    → e.chosen-over.result ≡ either e.turn_of-turn.result.falls e.loop-k.size (get_or e.loop-k.above e.loop-k.runs.above 0)
    → 1 + e.chosen-labels_below.result + e.chosen.result ≤ 255
fit e more goes told under over = small e.loop-k.invariant.sizes more goes e.turn_of-turn.result told under over e.chosen-labels_below.ensures e.chosen.ensures

pub loop-k-init : goal.loop-k-init
loop-k-init c = record {
  sizes = counted_first (triple_in c.args.body.now) c.args.notes.now.lower _ _ (search rules) refl refl;
  lefts = placed_first (triple_in c.args.body.now) down c.args.left.now _ (search rules) refl refl;
  bottoms = placed_first (triple_in c.args.body.now) up c.args.bottom.now _ (search rules) refl refl;
  unpacked = record { size = search rules; at = λ i h. absurd (omega arith) };
}

-- the run that the triple needs is missing, then and at the end
pub returns-in_err-after-clause-counts : goal.returns-in_err-after-clause-counts
returns-in_err-after-clause-counts c =
    let g = (goal.at.returns-in_err-after-clause-counts c).After-group-triple in
    let t = triple_in c.args.body.now in
    let n = c.args.n in
    let k = c.loop-k.k in
    let rest : (k + 1) + (n - 1 - (k + 1)) ≡ n - 1 = omega arith in
    let lacks : walk t (k + 1) ≡ missing =
    walk_next c.loop-k.invariant.sizes (more g)
    ∙ ap (λ (u : Triple). step u c.loop-k.runs.below c.loop-k.runs.above) (sym (read c.args.body.now k c.group-triple.result c.group-triple.ensures.0))
    ∙ sym c.in_err-after.ensures in
    rw c.from_residual.ensures (sym (ap (walk t) (sym rest) ∙ missing_on t (k + 1) (n - 1 - (k + 1)) lacks))

pub overflow_cast-below : goal.overflow_cast-below
overflow_cast-below c = omega (arith, size_few c.loop-k.invariant.sizes (more (goal.at.overflow_cast-below c).After-group-triple))

pub overflow_cast-above : goal.overflow_cast-above
overflow_cast-above c = omega (arith, size_few c.loop-k.invariant.sizes (more (goal.at.overflow_cast-above c).After-group-triple))

pub overflow_add-size : goal.overflow_add-size
overflow_add-size c =
    let at = goal.at.overflow_add-size c in
    omega (
      arith,
      small c.loop-k.invariant.sizes (more at.After-group-triple) (goes at.In_ok-after) c.turn_of-turn.result (told at.After-turn_of-turn)
          (under_is at.After-chosen-over) (over_is at.After-chosen-over) c.chosen-labels_below.ensures refl,
    )

pub overflow_add-size-in-loop-k : goal.overflow_add-size-in-loop-k
overflow_add-size-in-loop-k c =
    let at = goal.at.overflow_add-size-in-loop-k c in
    omega (arith, fit at.After-chosen (more at.After-group-triple) (goes at.In_ok-after) (told at.After-turn_of-turn) (under_is at.After-chosen-over) (over_is at.After-chosen-over))

pub overflow_cast-notes : goal.overflow_cast-notes
overflow_cast-notes c =
    let at = goal.at.overflow_cast-notes c in
    omega (arith, fit at.After-chosen (more at.After-group-triple) (goes at.In_ok-after) (told at.After-turn_of-turn) (under_is at.After-chosen-over) (over_is at.After-chosen-over))

pub loop-k-preserved : goal.loop-k-preserved
loop-k-preserved c =
    let at = goal.at.loop-k-preserved c in
    let now = c.loop-k.invariant in
    let further = more at.After-group-triple in
    let room : c.loop-k.runs.below + c.loop-k.runs.above < 254 = few at.After-group-triple in
    let goes = goes at.In_ok-after in
    let next = meets now.sizes further goes in
    let says = told at.After-turn_of-turn in
    record {
      sizes = turned now.sizes further goes c.turn_of-turn.result says (under_is at.After-chosen-over) (over_is at.After-chosen-over)
          c.chosen-labels_below.ensures c.chosen.ensures;
      lefts = placed_next now.lefts further (omega arith) _ _ says.rises_is next.0;
      bottoms = placed_next now.bottoms further (omega arith) _ _ says.falls_is next.1;
      unpacked = unpacked_next c.group-triple.result now.unpacked further c.group-triple.ensures.1 (read c.args.body.now c.loop-k.k c.group-triple.result c.group-triple.ensures.0);
    }
