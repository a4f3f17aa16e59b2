-- `backward::walk` meets its contract. Between two turns hold Left of Back, for the labels, and EndsAt of Ends, for the ends; what is written from the back is Written.
use Rattle.std.proofs.Common.{◌≡◌, ap, subst, ◌∙◌, ℕ, suc, ◌+◌, ◌-◌, ◌≤◌, ◌<◌, arith}
use Rattle.std.proofs.Math.ListN.{set}
use Rattle.record.specs.Record.{triple_in}
use Rattle.record.specs.Triple.{Triple}
use Rattle.record.specs.Decode.{label_of}
use Rattle.steps.specs.Stack.{either}
use Rattle.steps.specs.Turn.{Says}
use Rattle.backward.proofs.Back.{Left, left_first, label_is, label_small, Turned, turned}
use Rattle.backward.proofs.Ends.{EndsAt, ends_first, ends_turned, ends_small, written_first, written_on}
use Rattle.backward.proofs.walk.Goals as goal
use Rattle.backward.proofs.walk.Goals.{After-chosen, After-from, After-from-2, After-turn_of-turn, In-loop-i}

-- ---- a turn, at the index before i, as far as it has come
-- room for one more on the stacks
room_below : (e : In-loop-i) → e.loop-i.runs.below + 1 < 255
room_below e = omega (arith, e.loop-i.invariant.left.few, e.loop-i-test.true, e.requires.accepted.1)

room_above : (e : In-loop-i) → e.loop-i.runs.above + 1 < 255
room_above e = omega (arith, e.loop-i.invariant.left.few, e.loop-i-test.true, e.requires.accepted.1)

-- what it writes fits in bytes
label_few : (e : After-from) → e.loop-i.lowest + e.from.result < 256
label_few e =
    label_small e.loop-i.invariant.left e.requires.accepted.3 e.requires.accepted.1 e.args.notes.now.lower e.requires.noted.1 e.from.ensures

-- what its triple says, as it was noted
says : (e : After-turn_of-turn) → Says (triple_in e.args.body.now (suc (suc (e.loop-i.i - 1 - 1)))) e.turn_of-turn.result
says e =
    let noted = e.requires.noted.0.at (e.loop-i.i - 1 - 1) (omega (arith, e.loop-i.invariant.left.within, e.loop-i-test.true)) in
    subst (λ (u : Triple). Says u e.turn_of-turn.result) noted.1 e.turn_of-turn.ensures

-- what it leaves of the runs
turn : (e : After-chosen) → Says (triple_in e.args.body.now (suc (suc (e.loop-i.i - 1 - 1)))) e.turn_of-turn.result
    → let l = e.loop-i in
    let label = l.lowest + e.from.result in
    let w = e.turn_of-turn.result in
    Turned (triple_in e.args.body.now) e.args.n (l.i - 1) (set l.below (l.runs.below + 1) l.lowest) (set l.above (l.runs.above + 1) label)
    (l.runs.below + w.below) (l.runs.above + w.above) (e.chosen.result + w.falls) w
turn e says =
    let w = e.turn_of-turn.result in
    turned e.loop-i.invariant.left e.requires.accepted.3 e.requires.accepted.1 e.args.notes.now.lower e.requires.noted.1 e.from.ensures (omega (arith, e.loop-i-test.true)) says
    (e.chosen-low.ensures ∙ ap (either w.below e.loop-i.lowest) e.from-in-loop-i.ensures)
    (e.chosen-high.ensures ∙ ap (either w.above (e.loop-i.lowest + e.from.result)) e.from-in-loop-i-2.ensures)
    e.chosen.ensures

-- ---- after the last turn: what held between two turns holds at the earliest index
last : (e : After-from-2) → e.loop-i.i ≡ suc e.args.earliest
last e = omega (arith, e.loop-i-test.false, e.loop-i.invariant.more)

last_index : (e : After-from-2) → e.loop-i.i - 1 ≡ e.args.earliest
last_index e = omega (arith, last e)

last_left : (e : After-from-2)
    → Left (triple_in e.args.body.now) e.args.n e.args.earliest e.loop-i.below e.loop-i.above e.loop-i.runs.below e.loop-i.runs.above e.loop-i.lowest
last_left e =
    let l = e.loop-i in
    subst (λ (i : ℕ). Left (triple_in e.args.body.now) e.args.n i l.below l.above l.runs.below l.runs.above l.lowest) (last_index e) l.invariant.left

last-label : (e : After-from-2)
    → let label = e.loop-i.lowest + e.from-2.result in
    (label < 256) × (label ≡ label_of (triple_in e.args.body.now) e.args.n (suc e.args.earliest))
last-label e =
    let left = last_left e in (
      label_small left e.requires.accepted.3 e.requires.accepted.1 e.args.notes.now.lower e.requires.noted.1 e.from-2.ensures,
      label_is left e.requires.accepted.3 e.requires.accepted.1 e.args.notes.now.lower e.requires.noted.1 e.from-2.ensures,
    )

pub loop-i-init : goal.loop-i-init
loop-i-init c =
    let t = triple_in c.args.body.now in
    let some : 1 ≤ c.args.n = omega (arith, c.requires.accepted.0) in
    record {
      left = left_first t c.args.n some;
      ends = ends_first t c.args.n some;
      written = written_first t c.args.n c.args.labels.now c.args.right.now c.args.top.now;
      more = c.requires.accepted.0;
    }

pub overflow_add-label : goal.overflow_add-label
overflow_add-label c = record { fits = omega (arith, label_few c) }

pub overflow_cast-labels : goal.overflow_cast-labels
overflow_cast-labels c = record { fits = label_few c }

pub overflow_cast-right : goal.overflow_cast-right
overflow_cast-right c = omega (arith, ends_small (triple_in c.args.body.now) c.args.n (c.loop-i.i - 1) c.loop-i.invariant.ends, c.requires.accepted.1)

pub overflow_cast-top : goal.overflow_cast-top
overflow_cast-top c = omega (arith, ends_small (triple_in c.args.body.now) c.args.n (c.loop-i.i - 1) c.loop-i.invariant.ends, c.requires.accepted.1)

pub overflow_cast-below : goal.overflow_cast-below
overflow_cast-below c = record { fits = omega (arith, label_few (goal.at.overflow_cast-below c).After-from) }

pub overflow_cast-above : goal.overflow_cast-above
overflow_cast-above c = record { fits = label_few (goal.at.overflow_cast-above c).After-from }

pub overflow_cast-tops : goal.overflow_cast-tops
overflow_cast-tops c = omega (arith, ends_small (triple_in c.args.body.now) c.args.n (c.loop-i.i - 1) c.loop-i.invariant.ends, c.requires.accepted.1)

pub overflow_cast-rights : goal.overflow_cast-rights
overflow_cast-rights c = omega (arith, ends_small (triple_in c.args.body.now) c.args.n (c.loop-i.i - 1) c.loop-i.invariant.ends, c.requires.accepted.1)

pub overflow_add-lowest : goal.overflow_add-lowest
overflow_add-lowest c = record { fits = omega (arith, (turn (goal.at.overflow_add-lowest c).After-chosen (says (goal.at.overflow_add-lowest c).After-turn_of-turn)).lowest_small) }

pub overflow_sub-runs : goal.overflow_sub-runs
overflow_sub-runs c = (turn (goal.at.overflow_sub-runs c).After-chosen (says (goal.at.overflow_sub-runs c).After-turn_of-turn)).enough_below

pub overflow_sub-runs-in-loop-i : goal.overflow_sub-runs-in-loop-i
overflow_sub-runs-in-loop-i c = (turn (goal.at.overflow_sub-runs-in-loop-i c).After-chosen (says (goal.at.overflow_sub-runs-in-loop-i c).After-turn_of-turn)).enough_above

pub loop-i-preserved : goal.loop-i-preserved
loop-i-preserved c =
    let at = goal.at.loop-i-preserved c in
    let l = c.loop-i in
    let i = l.i - 1 in
    let w = c.turn_of-turn.result in
    let more : 0 < i = omega (arith, c.loop-i-test.true) in
    let left = l.invariant.left in
    let ends = l.invariant.ends in
    let says = says at.After-turn_of-turn in
    let turn = turn at.After-chosen says in
    let label = label_is left c.requires.accepted.3 c.requires.accepted.1 c.args.notes.now.lower c.requires.noted.1 c.from.ensures in
    record {
      left = turn.after;
      ends = ends_turned (triple_in c.args.body.now) c.args.n i ends (room_below at.In-loop-i) (room_above at.In-loop-i) more left.within says turn.enough_below turn.enough_above
          (c.chosen-end_up.ensures ∙ ap (either w.falls i) c.from-in-loop-i-3.ensures)
          (c.chosen-end_right.ensures ∙ ap (either w.rises i) c.from-in-loop-i-4.ensures);
      written = written_on c.requires.room.0 c.requires.room.1 c.requires.room.2 l.invariant.written (omega arith) left.within ends label;
      more = omega (arith, c.loop-i-test.true);
    }

pub overflow_add-label-2 : goal.overflow_add-label-2
overflow_add-label-2 c = record { fits = omega (arith, (last-label c).0) }

pub overflow_cast-labels-2 : goal.overflow_cast-labels-2
overflow_cast-labels-2 c = record { fits = (last-label c).0 }

pub overflow_cast-right-2 : goal.overflow_cast-right-2
overflow_cast-right-2 c = omega (arith, ends_small (triple_in c.args.body.now) c.args.n (c.loop-i.i - 1) c.loop-i.invariant.ends, c.requires.accepted.1)

pub overflow_cast-top-2 : goal.overflow_cast-top-2
overflow_cast-top-2 c = omega (arith, ends_small (triple_in c.args.body.now) c.args.n (c.loop-i.i - 1) c.loop-i.invariant.ends, c.requires.accepted.1)

pub returns : goal.returns
returns c =
    let l = c.loop-i in
    let e = (goal.at.returns c).After-from-2 in
    let ends = subst (λ (i : ℕ). EndsAt (triple_in c.args.body.now) c.args.n i l.tops l.rights l.runs.below l.runs.above l.end_up l.end_right) (last_index e) l.invariant.ends in
    written_on c.requires.room.0 c.requires.room.1 c.requires.room.2 l.invariant.written (last e) c.requires.accepted.0 ends (last-label e).1
