-- A word of three bytes has their bits one after another, so its eight groups are those that the list has from the first of them on.
use mathlib.Core.List.{List}
use mathlib.Core.Logic.{inl, inr}
use mathlib.Core.Path.{◌≡◌, ap, ◌∙◌}
use Prim.Native.Nat.{ℕ, zero, suc, ◌+◌, ◌-◌, ◌*◌, ◌/◌, ◌%◌, ◌≤◌, ◌<◌}
use native.Mathlib.Omega.{arith}
use lib.ListN.{length, get_or, get_or-eq_default}
use Rattle.finite.specs.Decide.{le_or_lt}
use Rattle.bits.specs.Bit.{bit, bit_in, bit_at, group_at}
use Rattle.bits.proofs.Pack.{bit_at_byte}
use Rattle.bits.specs.Eight.{EightGroups}
use Rattle.bits.proofs.Digit.{digit, digit_of_quotient, digit_of_remainder, three_digits}
use Rattle.bits.proofs.WordGroup.{bit_of_digit}

-- bit i of a byte is its digit 7 - i
bit_is : (byte i : ℕ) → bit (bit_in byte i) ≡ digit byte (7 - i)
unfolding bit_in
bit_is byte i = bit_of_digit (digit byte (7 - i)) (omega arith)

module _ (xs : List ℕ) (m : ℕ) (small-middle : get_or xs (3 * m + 1) 0 < 256) (small_low : get_or xs (3 * m + 2) 0 < 256) where
  -- the three bytes in one word
  abbrev pub word : ℕ
  word = get_or xs (3 * m) 0 * 65536 + get_or xs (3 * m + 1) 0 * 256 + get_or xs (3 * m + 2) 0

  in_byte : (j i : ℕ) → i < 8 → bit (bit_at xs (8 * j + i)) ≡ digit (get_or xs j 0) (7 - i)
  in_byte j i h = ap bit (bit_at_byte xs j i h) ∙ bit_is (get_or xs j 0) i

  high : (i : ℕ) → i < 8 → digit (get_or xs (3 * m) 0) (7 - i) ≡ digit word (23 - i)
  high i h =
      let e : get_or xs (3 * m) 0 ≡ word / 65536 = omega arith in
      let d : 16 + (7 - i) ≡ 23 - i = omega arith in
      ap (λ (x : ℕ). digit x (7 - i)) e ∙ digit_of_quotient word 16 (7 - i) ∙ ap (digit word) d

  middle : (i : ℕ) → i < 8 → digit (get_or xs (3 * m + 1) 0) (7 - i) ≡ digit word (15 - i)
  middle i h =
      let e : get_or xs (3 * m + 1) 0 ≡ word / 256 % 256 = omega arith in
      let d : 8 + (7 - i) ≡ 15 - i = omega arith in
      ap (λ (x : ℕ). digit x (7 - i)) e ∙ digit_of_remainder (word / 256) 8 (7 - i) (omega arith) ∙ digit_of_quotient word 8 (7 - i) ∙ ap (digit word) d

  low : (i : ℕ) → i < 8 → digit (get_or xs (3 * m + 2) 0) (7 - i) ≡ digit word (7 - i)
  low i h =
      let e : get_or xs (3 * m + 2) 0 ≡ word % 256 = omega arith in
      ap (λ (x : ℕ). digit x (7 - i)) e ∙ digit_of_remainder word 8 (7 - i) (omega arith)

  -- bit 24m + i of the list is digit 23 - i of the word
  bit_in_word : (i : ℕ) → i < 24 → bit (bit_at xs (24 * m + i)) ≡ digit word (23 - i)
  bit_in_word i h = elim (le_or_lt 8 i) [
    | inr l ↦ let e : 24 * m + i ≡ 8 * (3 * m) + i = omega arith in ap (λ (b : ℕ). bit (bit_at xs b)) e ∙ in_byte (3 * m) i l ∙ high i l
    | inl g ↦ elim (le_or_lt 16 i) [
      | inr l ↦
          let e : 24 * m + i ≡ 8 * (3 * m + 1) + (i - 8) = omega arith in
          let d : 15 - (i - 8) ≡ 23 - i = omega arith in
          ap (λ (b : ℕ). bit (bit_at xs b)) e ∙ in_byte (3 * m + 1) (i - 8) (omega arith) ∙ middle (i - 8) (omega arith) ∙ ap (digit word) d
      | inl l ↦
          let e : 24 * m + i ≡ 8 * (3 * m + 2) + (i - 16) = omega arith in
          let d : 7 - (i - 16) ≡ 23 - i = omega arith in
          ap (λ (b : ℕ). bit (bit_at xs b)) e ∙ in_byte (3 * m + 2) (i - 16) (omega arith) ∙ low (i - 16) (omega arith) ∙ ap (digit word) d
    ]
  ]

  at_digit : (b i j : ℕ) → i < 24 → b ≡ 24 * m + i → i + j ≡ 23 → bit (bit_at xs b) ≡ digit word j
  at_digit b i j h e d =
      let f : 23 - i ≡ j = omega arith in
      ap (λ (b : ℕ). bit (bit_at xs b)) e ∙ bit_in_word i h ∙ ap (digit word) f

  pub eight_groups : EightGroups xs m word
  unfolding group_at
  eight_groups i h =
      let k = 8 * m + i in
      let first = at_digit (3 * k) (3 * i) (21 - 3 * i + 2) (omega arith) (omega arith) (omega arith) in
      let second = at_digit (3 * k + 1) (3 * i + 1) (21 - 3 * i + 1) (omega arith) (omega arith) (omega arith) in
      let third = at_digit (3 * k + 2) (3 * i + 2) (21 - 3 * i) (omega arith) (omega arith) (omega arith) in
      rw (first, second, third) (three_digits word (21 - 3 * i))

-- ---- where one byte is left or two: the last byte counts if it is the second
module _ (xs : List ℕ) (m last : ℕ) (inside : 3 * m < length xs) (is : last ≡ get_or xs (length xs - 1) 0) (small : last < 256) where
  past : (j : ℕ) → length xs ≤ j → get_or xs j 0 ≡ 0
  past j h = get_or-eq_default xs 0 h

  pub product_small : (left : ℕ) → left ≤ 2 → last * 256 * (left - 1) ≤ 65280
  product_small zero h = omega arith
  product_small (suc zero) h = omega arith
  product_small (suc (suc zero)) h = omega arith
  product_small (suc (suc (suc left))) h = absurd (omega arith)

  pub last_bytes : (left : ℕ) → left ≡ length xs - 3 * m → left ≤ 2
      → (get_or xs (3 * m + 1) 0 * 256 ≡ last * 256 * (left - 1)) × (get_or xs (3 * m + 1) 0 < 256) × (get_or xs (3 * m + 2) 0 ≡ 0)
  last_bytes zero e h = absurd (omega arith)
  last_bytes (suc zero) e h =
      let second = past (3 * m + 1) (omega arith) in
      (omega arith, omega arith, past (3 * m + 2) (omega arith))
  last_bytes (suc (suc zero)) e h =
      let at : 3 * m + 1 ≡ length xs - 1 = omega arith in
      let second = ap (λ (j : ℕ). get_or xs j 0) at in
      (omega arith, omega arith, past (3 * m + 2) (omega arith))
  last_bytes (suc (suc (suc left))) e h = absurd (omega arith)
