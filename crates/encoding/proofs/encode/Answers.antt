-- `encoding::encode` meets its contract. Between two turns the labels passed are those of Passed, which also says when a label is turned
-- away and what the next turn leaves. The turns go in eights: 8m + i triples are set.
use mathlib.Core.Path.{◌≡◌, ◌∙◌, subst}
use Prim.Native.Nat.{ℕ, ◌+◌, ◌-◌, ◌*◌, ◌<◌}
use native.Mathlib.Omega.{arith}
use borrow.Author.Rules.{rules}
use lib.ListN.{length, get_or}
use Rattle.finite.specs.Decide.{told, told_not}
use Rattle.record.specs.TripleNumber.{triple_of}
use Rattle.record.specs.TripleSet.{TripleSet}
use Rattle.marks.specs.Seen.{mark_of, with_label}
use Rattle.encoding.proofs.Passed.{passed_as, passed_first, passed_all}
use Rattle.encoding.proofs.Turn.{Turn, Taken, turn_of_lem}
use Rattle.encoding.proofs.encode.Goals as goal
use Rattle.encoding.proofs.encode.Goals.{After-index-at, After-mark_of-first_bit, After-set_triple, Else-past_runs}

-- the turn, where the list does not end
turn : (c : After-index-at)
    → Turn c.args.labels.now (8 * c.loop-m.m + c.loop-i.i) c.loop-i.seen c.loop-i.below c.loop-i.above c.loop-i.runs_below c.loop-i.runs_above
    c.loop-i.last.0 c.loop-i.«record» (get_or c.args.labels.now (8 * c.loop-m.m + c.loop-i.i + 1) 0)
turn c =
    let more : 8 * c.loop-m.m + c.loop-i.i + 1 < length c.args.labels.now = omega (arith, c.if-next-n.false, c.loop-i.invariant.within) in
    turn_of_lem c.loop-i.invariant more c.requires.count.1 c.requires.inside

-- the marks beside the label, as they are read when it is marked
marked : (c : After-mark_of-first_bit)
    → let label = get_or c.args.labels.now (8 * c.loop-m.m + c.loop-i.i + 1) 0 in
    let seen = with_label c.loop-i.seen label in
    (c.mark_of-first_bit.result ≡ mark_of seen (label + 1)) × (c.mark_of-second_bit.result ≡ mark_of seen (label - 1))
marked c = (
  c.mark_of-first_bit.ensures.0 ∙ (λ j. mark_of (c.mark-in-loop-i.ensures.is j) (c.index-at.ensures.0 j + 1)),
  c.mark_of-second_bit.ensures.0 ∙ (λ j. mark_of (c.mark-in-loop-i.ensures.is j) (c.index-at.ensures.0 j - 1)),
)

-- the triple is set at the next position
triple_set : (c : After-set_triple)
    → TripleSet c.loop-i.«record» c.set_triple.new.record (8 * c.loop-m.m + c.loop-i.i + 2)
    (triple_of (4 * c.mark_of-first_bit.result + 2 * c.mark_of-second_bit.result + c.from-third_bit.result))
triple_set c =
    subst (λ (number : ℕ). TripleSet c.loop-i.«record» c.set_triple.new.record (8 * c.loop-m.m + c.loop-i.i + 2) (triple_of number))
    c.triple_number-triple.ensures.0 c.set_triple.ensures

-- the label is taken
taken : (c : Else-past_runs)
    → let label = get_or c.args.labels.now (8 * c.loop-m.m + c.loop-i.i + 1) 0 in
    let seen = with_label c.loop-i.seen label in
    Turn c.args.labels.now (8 * c.loop-m.m + c.loop-i.i) c.loop-i.seen c.loop-i.below c.loop-i.above c.loop-i.runs_below c.loop-i.runs_above
    c.loop-i.last.0 c.loop-i.«record» label
    → (c.mark_of-first_bit.result ≡ mark_of seen (label + 1)) × (c.mark_of-second_bit.result ≡ mark_of seen (label - 1))
    → Taken c.args.labels.now (8 * c.loop-m.m + c.loop-i.i) c.loop-i.seen c.loop-i.below c.loop-i.above c.loop-i.runs_below c.loop-i.runs_above
    c.loop-i.last.0 c.loop-i.«record» label c.mark_of-first_bit.result c.mark_of-second_bit.result c.from-third_bit.result
taken c turn marked =
    turn.take (told_not c.if-past_runs.false c.past_runs.ensures) (told_not c.if-mark.false c.mark-in-loop-i.ensures.was)
    c.mark_of-first_bit.result c.mark_of-second_bit.result c.from-third_bit.result marked.0 marked.1 c.from-third_bit.ensures

pub loop-m-init : goal.loop-m-init
loop-m-init c =
    rw c.mark.ensures.is
    (passed_first c.args.labels.now c.args.«record».now c.requires.count.0 c.requires.count.1 c.requires.zero)

pub loop-i-init : goal.loop-i-init
loop-i-init c = passed_as c.loop-m.invariant (omega arith)

pub returns-then-next-n : goal.returns-then-next-n
returns-then-next-n c = passed_all c.loop-i.invariant (omega (arith, c.if-next-n.true)) c.requires.count.1 c.requires.inside

pub returns-then-mark : goal.returns-then-mark
returns-then-mark c = (turn (goal.at.returns-then-mark c).After-index-at).away_seen (told c.if-mark.true c.mark-in-loop-i.ensures.was)

pub overflow_sub-at : goal.overflow_sub-at
overflow_sub-at c = omega (arith, c.index-at.ensures, (turn (goal.at.overflow_sub-at c).After-index-at).low)

pub returns-then-past_runs : goal.returns-then-past_runs
returns-then-past_runs c =
    (turn (goal.at.returns-then-past_runs c).After-index-at).away_past (told c.if-past_runs.true c.past_runs.ensures)

pub runs_after-runs_below-requires : goal.runs_after-runs_below-requires
runs_after-runs_below-requires c =
    let at = goal.at.runs_after-runs_below-requires c in
    let t = turn at.After-index-at in
    ((taken c t (marked at.After-mark_of-first_bit)).enough_below, omega (arith, t.room_below), omega arith)

pub runs_after-runs_above-requires : goal.runs_after-runs_above-requires
runs_after-runs_above-requires c =
    let at = goal.at.runs_after-runs_above-requires c in
    let t = turn at.After-index-at in
    ((taken at.Else-past_runs t (marked at.After-mark_of-first_bit)).enough_above, omega (arith, t.room_above), search rules)

pub loop-i-preserved : goal.loop-i-preserved
loop-i-preserved c =
    let at = goal.at.loop-i-preserved c in
    let next =
    (taken at.Else-past_runs (turn at.After-index-at) (marked at.After-mark_of-first_bit)).after c.runs_after-runs_below.result
    c.runs_after-runs_above.result c.set_triple.new.record c.runs_after-runs_below.ensures c.runs_after-runs_above.ensures
    (triple_set at.After-set_triple) in
    rw c.mark-in-loop-i.ensures.is (passed_as next (omega arith))

pub loop-m-preserved : goal.loop-m-preserved
loop-m-preserved c = passed_as c.loop-i.invariant (omega arith)

pub returns : goal.returns
returns c = passed_all c.loop-m.invariant (omega (arith, c.loop-m.invariant.within)) c.requires.count.1 c.requires.inside
