-- `relating::relations` meets its contract: so far it is known which rooms of the second group a room of the first stands before, and the
-- lines of all runs are known.
use mathlib.Core.Logic.{inl, inr}
use mathlib.Core.Path.{◌≡◌, refl, ap, subst, ◌∙◌}
use mathlib.Core.List.{List}
use Prim.Native.Nat.{ℕ, suc, ◌+◌, ◌<◌}
use native.Mathlib.Omega.{arith}
use native.Mathlib.Numerals.{add-one}
use Rattle.finite.specs.Marks.{Marks, marks_le}
use Rattle.record.specs.Triple.{Triple}
use Rattle.record.specs.Record.{triple_in}
use Rattle.record.specs.TripleNumber.{triple_of, group_triple}
use Rattle.steps.specs.Turn.{Says}
use Rattle.sizes.specs.Direction.{across, upward}
use Rattle.placing.specs.Room.{HasRoom}
use Rattle.groups.specs.Group.{Member}
use Rattle.relating.proofs.Meeting.{Ends, both_bit, ends_chosen, meeting_begun, meeting_fits, meeting_turn, meeting_end}
use Rattle.relating.proofs.relations.Goals as goal
use Rattle.relating.proofs.relations.Goals.{After-turn_of-turn}

-- what it has been told of its triple
told : (e : After-turn_of-turn) → Says (triple_in e.args.body.now (suc (suc e.loop-k.k))) e.turn_of-turn.result
told e = subst (λ (u : Triple). Says u e.turn_of-turn.result) (ap triple_of e.group.ensures.0 ∙ group_triple e.args.body.now e.loop-k.k) e.turn_of-turn.ensures

-- the walk ends at the last position
goes_on : {last end left below : ℕ} (k : ℕ) → Ends last end left below → k + 1 < end → end ≡ last
goes_on k (inl same) next = same
goes_on k (inr (none, left, below)) next = absurd (omega arith)

-- so there is a next room
more : (e : After-turn_of-turn) → suc e.loop-k.k < e.args.n
more e = omega (arith, e.loop-k-test.true, goes_on e.loop-k.k e.loop-k.invariant.1 e.loop-k-test.true, e.requires)

fits : (e : After-turn_of-turn) → HasRoom e.loop-k.runs.below e.loop-k.runs.above e.turn_of-turn.result
fits e =
    meeting_fits e.args.body.now e.args.first.now e.args.second.now e.args.n e.requires.0 e.loop-k.invariant.0 (more e) e.turn_of-turn.result (told e)

-- whether the next room is of a group
here : (group : List ℕ) (k : ℕ) {bit : ℕ} → Marks bit (Member group (suc (k + 1))) → Marks bit (Member group (suc (suc k)))
here group k {bit} marks = subst (λ (j : ℕ). Marks bit (Member group (suc j))) (add-one k) marks

pub turn-ends-requires : goal.turn-ends-requires
turn-ends-requires c = (omega arith, fits (goal.at.turn-ends-requires c).After-turn_of-turn)

pub loop-k-init : goal.loop-k-init
loop-k-init c =
    let n = c.at-lines.ensures in
    (meeting_begun c.args.body.now c.args.first.now c.args.second.now c.args.n c.requires.0 n.0 n.1 n.2 n.3 c.member-right.ensures, inl refl)

pub loop-k-preserved : goal.loop-k-preserved
loop-k-preserved c =
    let n = c.turn-ends.ensures in
    let m = meeting_turn c.args.body.now c.args.first.now c.args.second.now c.args.n c.requires.0 c.loop-k.invariant.0 (more (goal.at.loop-k-preserved c).After-turn_of-turn) c.turn_of-turn.result (told (goal.at.loop-k-preserved c).After-turn_of-turn)
    (here c.args.first.now c.loop-k.k c.member-one.ensures) (here c.args.second.now c.loop-k.k c.member-other.ensures)
    n.stored.0 n.stored.1 n.stored.2 n.stored.3 n.counted.0 n.counted.1 (n.left 0) (n.bottom 0) (n.beside 0) (n.under 0) in
    (m, ends_chosen c.args.last c.loop-k.end _ _ c.from.result (omega arith) (goes_on c.loop-k.k c.loop-k.invariant.1 c.loop-k-test.true) (marks_le m.met_left) (marks_le m.met_below) c.chosen-end.ensures)

pub chosen-end-requires : goal.chosen-end-requires
chosen-end-requires c =
    let n = c.turn-ends.ensures in
    let m = meeting_turn c.args.body.now c.args.first.now c.args.second.now c.args.n c.requires.0 c.loop-k.invariant.0 (more (goal.at.chosen-end-requires c).After-turn_of-turn) c.turn_of-turn.result (told (goal.at.chosen-end-requires c).After-turn_of-turn)
    (here c.args.first.now c.loop-k.k c.member-one.ensures) (here c.args.second.now c.loop-k.k c.member-other.ensures)
    n.stored.0 n.stored.1 n.stored.2 n.stored.3 n.counted.0 n.counted.1 (n.left 0) (n.bottom 0) (n.beside 0) (n.under 0) in
    omega (arith, both_bit (marks_le m.met_left) (marks_le m.met_below))

pub returns : goal.returns
returns c =
    let m = c.loop-k.invariant.0 in
    let done = c.loop-k.invariant.1 in
    record {
      left = meeting_end c.args.body.now c.args.first.now c.args.second.now c.args.n c.requires.0 across m.met_left m.turned.more c.requires.2
          (elim done [ inl same ↦ inl (omega (arith, c.loop-k-test.false)) | inr (none, left, below) ↦ inr left ]) c.requires.3;
      below = meeting_end c.args.body.now c.args.first.now c.args.second.now c.args.n c.requires.0 upward m.met_below m.turned.more c.requires.2
          (elim done [ inl same ↦ inl (omega (arith, c.loop-k-test.false)) | inr (none, left, below) ↦ inr below ]) c.requires.3;
    }
