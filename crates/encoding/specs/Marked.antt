-- The marks of the labels so far: which of them stand at an earlier position.
use Rattle.std.specs.Prelude.{List, ◌≡◌, ℕ, zero, suc, get_or}
use Rattle.std.proofs.Common.{zero-le, arith}
use Rattle.bits.specs.Bit.{bit}
use Rattle.finite.specs.Decide.{holds}
use Rattle.finite.specs.Marks.{Marks, marks_same, marks_yes, marks_no}
use Rattle.record.specs.Labels.{label_at}
use Rattle.record.specs.Triple.{Earlier}
use Rattle.marks.specs.Seen.{mark_of, seen_after, Among}
use Rattle.marks.specs.M110.{m110_marked_iff_among}

-- the marks of the first k labels of a list
abbrev pub seen_of : (labels : List ℕ) (k : ℕ) → List ℕ
seen_of labels k = seen_after (λ i. get_or labels i 0) k

-- a label is marked exactly if it stands at one of these positions
pub marked_earlier : (labels : List ℕ) (k x : ℕ) → Marks (mark_of (seen_of labels k) x) (Earlier (label_at labels) x (suc k))
marked_earlier labels k x = marks_same (m110_marked_iff_among (λ i. get_or labels i 0) k x) there back
  where
    there : Among (λ i. get_or labels i 0) k x → Earlier (label_at labels) x (suc k)
    there (i, l, h, e) = (suc i, omega arith, omega arith, e)

    back : Earlier (label_at labels) x (suc k) → Among (λ i. get_or labels i 0) k x
    back (zero, l, h, e) = absurd (omega arith)
    back (suc i, l, h, e) = (i, zero-le, omega arith, e)

-- a mark is the bit of the test that it decides
pub mark_bit : {A : Type 0} {m : ℕ} → Marks m A → (d : Dec A) → m ≡ bit (holds d)
unfolding holds
mark_bit marks (yes a) = marks_yes marks a
mark_bit marks (no n) = marks_no marks n
