-- The length of a tidy text. Each label takes its digits and the byte after them; the labels of a sound list are 1 to n, each once,
-- so their count alone tells the length: two bytes for each, one more for each above 9, and one more for each above 99.
use Rattle.std.specs.Prelude.{List, [], ◌∷◌, ◌++◌, ◌≡◌, refl, ltb, take}
use Rattle.std.proofs.Common.{append-nil, append_assoc, inl, inr, ◌∙◌, lt-ltb, le-ltb, take-suc}
use Rattle.std.proofs.Math.Path.{sym, ap}
use Prim.Native.Nat.{ℕ, zero, suc, ◌+◌, ◌-◌, ◌*◌, ◌/◌, ◌%◌, ◌≤◌, ◌<◌}
use Rattle.std.proofs.Math.Decide.{dec_lt}
use native.Mathlib.Omega.{arith}
use Rattle.std.proofs.Math.ListN.{length, get_or, length-append}
use Rattle.std.proofs.Math.Seq.{take-length}
use Rattle.finite.specs.Decide.{le_or_lt}
use Rattle.finite.specs.Sum.{sum}
use Rattle.finite.specs.SumBelow.{sum_none, sum_next}
use Rattle.finite.specs.Count.{sum_reordered}
use Rattle.bits.specs.Bit.{bit}
use Rattle.digits.specs.Decimal.{space, newline, digit, decimal, field}
use Rattle.digits.specs.Digits.{decimal_one, decimal_two, decimal_three}
use Rattle.record.specs.Labels.{label_at, EachOnce}
use Rattle.record.specs.Judged.{Sound}
use Rattle.record.proofs.Demand2.{sound→baxter}
use Rattle.labeltext.specs.Tidy.{tidy_rest, tidy_line, tidy_text}

-- the length of the tidy text of the labels 1 to n, in whatever order
abbrev pub tidy_size : (n : ℕ) → ℕ
tidy_size n = 2 * n + (n - 9) + (n - 99)

-- ---- a label and the byte after it
module _ (label : ℕ) where
  -- how many tens and hundreds digits there are: 1 or 0
  abbrev pub tens : ℕ
  tens = bit (ltb 9 label)

  abbrev pub hundreds : ℕ
  hundreds = bit (ltb 99 label)

  -- one, two or three digits
  pub data Digits : Type 0 where
    one : label < 10 → tens ≡ 0 → hundreds ≡ 0 → decimal label ≡ digit label ∷ [] → Digits
    two : tens ≡ 1 → hundreds ≡ 0 → label / 10 < 10 → decimal label ≡ digit (label / 10) ∷ digit (label % 10) ∷ [] → Digits
    three : tens ≡ 1 → hundreds ≡ 1 → decimal label ≡ digit (label / 10 / 10) ∷ digit (label / 10 % 10) ∷ digit (label % 10) ∷ []
        → Digits

  pub digits : label < 1000 → Digits
  digits h = elim (dec_lt label 10) [
    | yes low ↦
        one low (rw (le-ltb 9 label (omega arith)) refl) (rw (le-ltb 99 label (omega arith)) refl) (decimal_one label low)
    | no more ↦ elim (dec_lt label 100) [
      | yes low ↦
          two (rw (lt-ltb 9 label (omega arith)) refl) (rw (le-ltb 99 label (omega arith)) refl) (omega arith)
          (decimal_two label (omega arith) low)
      | no high ↦
          three (rw (lt-ltb 9 label (omega arith)) refl) (rw (lt-ltb 99 label (omega arith)) refl)
          (decimal_three label (omega arith) h)
    ]
  ]

  -- how many bytes they take
  abbrev pub field_size : ℕ
  field_size = 2 + tens + hundreds

  pub field_size_lem : label < 1000 → length (field label space) ≡ field_size
  field_size_lem h = go (digits h)
    where
      size : length (field label space) ≡ length (decimal label) + 1
      size = length-append (decimal label) (space ∷ [])

      go : Digits → length (field label space) ≡ field_size
      go (one low t u e) = omega (arith, size, ap length e)
      go (two t u low e) = omega (arith, size, ap length e)
      go (three t u e) = omega (arith, size, ap length e)

-- ---- each label with a space after it
abbrev pub fields : List ℕ → List ℕ
fields [] = []
fields (label ∷ labels) = field label space ++ fields labels

pub fields_append : (labels more : List ℕ) → fields (labels ++ more) ≡ fields labels ++ fields more
fields_append [] more = refl
fields_append (label ∷ labels) more =
    ap (λ (l : List ℕ). field label space ++ l) (fields_append labels more)
    ∙ sym (append_assoc (field label space) (fields labels) (fields more))

-- those of the first k labels, and the next one
pub fields_next : (labels : List ℕ) (k : ℕ) → k < length labels
    → fields (take (suc k) labels) ≡ fields (take k labels) ++ field (get_or labels k 0) space
fields_next labels k h =
    ap fields (take-suc labels k 0 h) ∙ fields_append (take k labels) (get_or labels k 0 ∷ [])
    ∙ ap (λ (l : List ℕ). fields (take k labels) ++ l) (append-nil (field (get_or labels k 0) space))

-- they are the tidy text but for its last byte
rest_fields : (labels : List ℕ) → tidy_rest labels ++ (space ∷ []) ≡ space ∷ fields labels
unfolding tidy_rest
rest_fields [] = refl
rest_fields (label ∷ labels) = ap (λ (l : List ℕ). space ∷ l) (
    append_assoc (decimal label) (tidy_rest labels) (space ∷ [])
    ∙ ap (λ (l : List ℕ). decimal label ++ l) (rest_fields labels)
    ∙ sym (append_assoc (decimal label) (space ∷ []) (fields labels))
    )

pub line_fields : (labels : List ℕ) → 1 ≤ length labels → tidy_line labels ++ (space ∷ []) ≡ fields labels
unfolding tidy_line
line_fields [] some = absurd (omega arith)
line_fields (label ∷ labels) some =
    append_assoc (decimal label) (tidy_rest labels) (space ∷ [])
    ∙ ap (λ (l : List ℕ). decimal label ++ l) (rest_fields labels)
    ∙ sym (append_assoc (decimal label) (space ∷ []) (fields labels))

pub fields_size : (labels : List ℕ) → 1 ≤ length labels → length (fields labels) ≡ length (tidy_text labels)
fields_size labels some =
    let line = tidy_line labels in
    omega (arith, ap length (line_fields labels some), length-append line (space ∷ []), length-append line (newline ∷ []))

-- ---- the bytes that the labels 1 to n take
-- the label after n is one more above a number, or it is not
above_next : (number n : ℕ) → suc n - number ≡ (n - number) + bit (ltb number (suc n))
above_next number n = elim (le_or_lt (suc n) number) [
  | inl h ↦ rw (le-ltb number (suc n) h) (omega arith)
  | inr h ↦ rw (lt-ltb number (suc n) h) (omega arith)
]

sizes_sum : (n : ℕ) → sum (λ v. field_size (suc v)) 0 n ≡ tidy_size n
sizes_sum zero = sum_none _
sizes_sum (suc n) = omega (arith, sizes_sum n, sum_next (λ v. field_size (suc v)) n, above_next 9 n, above_next 99 n)

-- ---- labels that are 1 to n, each once
module _ (labels : List ℕ) (each : EachOnce (label_at labels) (length labels)) (few : length labels < 1000) where
  inside : (i : ℕ) → i < length labels → (1 ≤ get_or labels i 0) × (get_or labels i 0 ≤ length labels)
  inside i h = each.range (suc i) (omega arith) h

  -- a label less 1: a number below n, as the sums have them
  lower : ℕ → ℕ
  lower i = get_or labels i 0 - 1

  -- the first k labels take the sum of their sizes
  sized : (k : ℕ) → k ≤ length labels → length (fields (take k labels)) ≡ sum (λ i. field_size (suc (lower i))) 0 k
  unfolding lower
  sized zero h = sym (sum_none _)
  sized (suc k) h =
      let label = get_or labels k 0 in
      let is : suc (lower k) ≡ label = omega (arith, inside k h) in
      omega (
        arith,
        sized k (omega arith),
        sum_next (λ i. field_size (suc (lower i))) k,
        ap field_size is,
        ap length (fields_next labels k h),
        length-append (fields (take k labels)) (field label space),
        field_size_lem label (omega (arith, inside k h)),
      )

  lower_below : (i : ℕ) → i < length labels → lower i < length labels
  unfolding lower
  lower_below i h = omega (arith, inside i h)

  lower_once : (i j : ℕ) → i < length labels → j < length labels → lower i ≡ lower j → i ≡ j
  unfolding lower
  lower_once i j h k e =
      let same : get_or labels i 0 ≡ get_or labels j 0 = omega (arith, inside i h, inside j k) in
      omega (arith, each.once (suc i) (suc j) (omega arith) h (omega arith) k same)

  -- the length of their tidy text
  pub tidy_size_lem : 1 ≤ length labels → length (tidy_text labels) ≡ tidy_size (length labels)
  tidy_size_lem some =
      sym (fields_size labels some) ∙ ap (λ (l : List ℕ). length (fields l)) (sym (take-length labels))
      ∙ sized (length labels) (omega arith)
      ∙ sum_reordered (λ v. field_size (suc v)) lower (length labels) lower_below lower_once
      ∙ sizes_sum (length labels)

-- so the count of a sound list tells how long its tidy text is
pub sound_tidy_size : (labels : List ℕ) → Sound labels → length (tidy_text labels) ≡ tidy_size (length labels)
sound_tidy_size labels s =
    let (b, some, few) = sound→baxter labels s in
    tidy_size_lem labels b.each_once (omega arith) some
