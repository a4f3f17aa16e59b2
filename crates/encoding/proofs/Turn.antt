-- One turn of the pass with its numbers as the code has them: w is the label read, and the marks beside it are the triple's first and second bit.
use mathlib.Core.List.{List}
use mathlib.Core.Logic.{◌≢◌}
use mathlib.Core.Path.{◌≡◌, sym, subst, ◌∙◌}
use Prim.Native.Nat.{ℕ, ◌+◌, ◌-◌, ◌*◌, ◌≤◌, ◌<◌}
use native.Mathlib.Omega.{arith}
use native.Mathlib.Numerals.{add-one}
use lib.Dec.{ltb}
use Rattle.std.specs.Int.{from_bool}
use lib.ListN.{length, get_or, set}
use Rattle.record.specs.declared.Label.{Label}
use Rattle.record.specs.Labels.{LabelOutside}
use Rattle.record.specs.Barred.{Baxter}
use Rattle.record.specs.Triple.{triple_at}
use Rattle.record.specs.TripleNumber.{triple_of}
use Rattle.record.specs.TripleSet.{TripleSet}
use Rattle.encoding.specs.Encoded.{PastRuns}
use Rattle.marks.specs.Seen.{mark_of, with_label}
use Rattle.encoding.proofs.Stack.{label_in}
use Rattle.encoding.proofs.Passed.{Passed, label, first_bit_lem, second_bit, third_bit, away_past, away_seen, enough_below, enough_above, taken_passed}

-- a label that is taken, with the three bits of its triple
pub record Taken (labels : List ℕ) (k : ℕ) (seen : List ℕ) (below above : List Label) (p q last : ℕ) (written : List ℕ) (w first second third : ℕ) : Type 0 where
  pub enough_below : second ≤ p + (1 - third)
  pub enough_above : first ≤ q + third
  pub after : (p-after q-after : ℕ) (written_after : List ℕ) → p-after + second ≡ p + (1 - third) → q-after + first ≡ q + third
      → TripleSet written written_after (k + 2) (triple_of (4 * first + 2 * second + third))
      → Passed labels (k + 1) (with_label seen w) (set below (p + 1) (record { 0 = last })) (set above (q + 1) (record { 0 = last })) p-after q-after w written_after

pub record Turn (labels : List ℕ) (k : ℕ) (seen : List ℕ) (below above : List Label) (p q last : ℕ) (written : List ℕ) (w : ℕ) : Type 0 where
  pub low : 1 ≤ w
  pub high : w ≤ 255
  pub room_below : p + 1 < 255
  pub room_above : q + 1 < 255
  pub away_past : PastRuns w (label_in below p) (label_in above q) → ¬ Baxter labels
  pub away_seen : mark_of seen w ≡ 1 → ¬ Baxter labels
  pub take : ¬ PastRuns w (label_in below p) (label_in above q) → mark_of seen w ≢ 1
      → (first second third : ℕ) → first ≡ mark_of (with_label seen w) (w + 1) → second ≡ mark_of (with_label seen w) (w - 1) → third ≡ from_bool (ltb w last)
      → Taken labels k seen below above p q last written w first second third

pub turn_of_lem : {labels : List ℕ} {k : ℕ} {seen : List ℕ} {below above : List Label} {p q last : ℕ} {written : List ℕ} → Passed labels k seen below above p q last written
    → k + 1 < length labels → length labels ≤ 255 → ¬ LabelOutside labels → Turn labels k seen below above p q last written (get_or labels (k + 1) 0)
unfolding triple_at
turn_of_lem {labels} {k} {seen} {below} {above} {p} {q} {last} {written} s more few inside = subst (λ (i : ℕ). Turn labels k seen below above p q last written (get_or labels i 0)) (sym (add-one k)) record {
  low = (label s more few inside).0;
  high = (label s more few inside).1;
  room_below = omega (arith, s.few);
  room_above = omega (arith, s.few);
  away_past = away_past s more few inside;
  away_seen = away_seen s more few inside;
  take = λ clear new first second third f g t. record {
    enough_below = rw (t ∙ third_bit s more few inside, g ∙ second_bit s more few inside) (enough_below s more few inside clear new);
    enough_above = rw (t ∙ third_bit s more few inside, f ∙ first_bit_lem s more few inside) (enough_above s more few inside clear new);
    after = rw (t ∙ third_bit s more few inside, g ∙ second_bit s more few inside, f ∙ first_bit_lem s more few inside, add-one k) (taken_passed s more few inside clear new);
  };
}
