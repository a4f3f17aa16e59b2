-- What M-110 asks of the marks: "Prove that after any number of labels a label's bit is 1 exactly if the label is among them."
use Rattle.std.specs.Prelude.{List, ◌≢◌, ◌≡◌, refl, ℕ, zero, suc, ◌*◌, ◌/◌, ◌%◌, ◌^◌, ◌<◌, length, get_or, set}
use Rattle.std.proofs.Common.{inl, inr, sym, ◌∙◌, arith, add-one, length-set, get_or-set_same, get_or-set_other}
use Rattle.std.specs.Int.Bits.{bit_or, or_zero_r}
use Rattle.std.proofs.lemmas.Nat.{or_lt}
use Rattle.std.proofs.lemmas.List.{length-replicate}
use Rattle.std.proofs.Math.Pow.{pow-lt}
use Rattle.finite.specs.BitTable.{digit_put, digit_kept, digit_none, zeros_at}
use Rattle.finite.specs.Decide.{eq_or_ne}
use Rattle.finite.specs.Marks.{Marks, none_yet, marks_more}
use Rattle.marks.specs.Seen.{mark_of, with_label, seen_after, Among}

-- there are always 32 of them
pub seen_long : (row : ℕ → ℕ) (k : ℕ) → length (seen_after row k) ≡ 32
unfolding seen_after
seen_long row zero = length-replicate {A = ℕ} 32 0
seen_long row (suc k) = length-set (seen_after row k) (row k % 32) _ ∙ seen_long row k

-- a label that is marked has its bit 1, and every other bit is as it was
module _ (seen : List ℕ) (long : length seen ≡ 32) (label : ℕ) where
  inside : label % 32 < length seen
  inside = omega arith

  pub m110_label_marked : mark_of (with_label seen label) label ≡ 1
  m110_label_marked = digit_put 1 (omega arith) seen (label % 32) (label / 32) inside ∙ or_one (mark_of seen label) (omega arith)
    where
      or_one : (a : ℕ) → a < 2 → bit_or a 1 ≡ 1
      or_one zero h = refl
      or_one (suc zero) h = refl
      or_one (suc (suc a)) h = absurd (omega arith)

  pub m110_others_stay : (other : ℕ) → other ≢ label → mark_of (with_label seen label) other ≡ mark_of seen other
  m110_others_stay other differ =
      digit_kept 1 (omega arith) seen (label % 32) (label / 32) inside (other % 32) (other / 32) (λ (e, f). differ (omega arith))

-- after any number of labels a label's bit is 1 exactly if the label is among them; else it is 0
pub m110_marked_iff_among : (row : ℕ → ℕ) (k label : ℕ) → Marks (mark_of (seen_after row k) label) (Among row k label)
unfolding seen_after
m110_marked_iff_among row zero label = inr (digit_none 32 (label % 32) (label / 32), none_yet (λ i. row i ≡ label))
m110_marked_iff_among row (suc k) label = elim (eq_or_ne (row k) label) [
  | inl same ↦ rw (← add-one k, ← same, digit_put 1 (omega arith) seen (row k % 32) (row k / 32) (inside seen long (row k)))
      (marks_more (λ i. row i ≡ row k) k (mark_of seen (row k)) 1 (m110_marked_iff_among row k (row k)) (inl (refl, refl)))
  | inr other ↦ rw (← add-one k, m110_others_stay seen long (row k) label (λ e. other (sym e)), ← or_zero_r (mark_of seen label))
      (marks_more (λ i. row i ≡ label) k (mark_of seen label) 0 (m110_marked_iff_among row k label) (inr (refl, other)))
]
  where
    seen : List ℕ
    seen = seen_after row k

    long : length seen ≡ 32
    long = seen_long row k

-- the bit of a label is one of its byte's
bit_in_byte : (label : ℕ) → label < 256 → 2 ^ (label / 32) < 2 ^ 8
bit_in_byte label h = pow-lt {i = label / 32} {j = 8} (omega arith)

-- for labels 0 to 255 the marks are 32 bytes
pub m110_32_bytes : (row : ℕ → ℕ) → ((i : ℕ) → row i < 256) → (k : ℕ)
    → (length (seen_after row k) ≡ 32) × ((j : ℕ) → get_or (seen_after row k) j 0 < 256)
unfolding seen_after
m110_32_bytes row labels zero = (length-replicate {A = ℕ} 32 0, λ j. omega (arith, zeros_at 32 j))
m110_32_bytes row labels (suc k) = (seen_long row (suc k), bytes (m110_32_bytes row labels k).1)
  where
    at : ℕ
    at = row k % 32

    byte : ℕ
    byte = bit_or (get_or (seen_after row k) at 0) (1 * 2 ^ (row k / 32))

    bytes : ((j : ℕ) → get_or (seen_after row k) j 0 < 256) → (j : ℕ) → get_or (set (seen_after row k) at byte) j 0 < 256
    bytes before j = elim (eq_or_ne j at) [
      | inl e ↦ rw (e, get_or-set_same (seen_after row k) at byte 0 (omega (arith, seen_long row k)))
          (or_lt 8 _ _ (before at) (omega (arith, bit_in_byte (row k) (labels k))))
      | inr ne ↦ rw (get_or-set_other (seen_after row k) at j byte 0 ne) (before j)
    ]
