-- A table of bits, in words: bit j of word i, counted from the low end. Setting one bit sets it and no other. With words of w bits the bit
-- of v may be number v % w of word v / w.
use Rattle.std.specs.Prelude.{◌≡◌, refl, ◌≢◌, List, ℕ, zero, suc, ◌+◌, ◌-◌, ◌*◌, ◌/◌, ◌%◌, ◌^◌, ◌≤◌, ◌<◌, length, get_or, set, replicate}
use Rattle.std.proofs.Common.{sym, ap, ◌∙◌, inl, inr, zero-le, div-add-mod', mul_assoc, mul-le-mul_right, arith, length-set, pow-add, pow_pos, get_or-set_same, get_or-set_other}
use Rattle.std.proofs.Math.Nat.{div-eq_of_lt}
use Rattle.std.proofs.Math.Decide.{ℕ_discrete}
use Rattle.std.specs.Int.Bits.{bit_and, bit_or, or_add_and, or_zero_r, shifted_even}
use Rattle.std.proofs.lemmas.Nat.Bits.{and_high}
use Rattle.std.proofs.lemmas.Nat.{and_shr, and_mod, or_shr, or_mod, shl-shr}
use Rattle.std.proofs.Math.Pow.{pow-lt}
use Rattle.finite.specs.Decide.{le_or_lt, eq_or_ne, stable}
use Rattle.finite.specs.Search.{Some, dec_some}

-- the binary digit of n that is worth 2 ^ j
abbrev pub digit : (n j : ℕ) → ℕ
digit n j = n / 2 ^ j % 2

abbrev pub digit_of : (words : List ℕ) (i j : ℕ) → ℕ
digit_of words i j = digit (get_or words i 0) j

-- with a bit put to bit j of word i
abbrev pub with_digit : (words : List ℕ) (i j bit : ℕ) → List ℕ
with_digit words i j bit = set words i (bit_or (get_or words i 0) (bit * 2 ^ j))

abbrev pub bit_of : (w : ℕ) (words : List ℕ) (v : ℕ) → ℕ
bit_of w words v = digit_of words (v / w) (v % w)

-- with a bit put to that of v
abbrev pub with_bit : (w : ℕ) (words : List ℕ) (v bit : ℕ) → List ℕ
with_bit w words v bit = with_digit words (v / w) (v % w) bit

pub length_with_bit : (w : ℕ) (words : List ℕ) (v bit : ℕ) → length (with_bit w words v bit) ≡ length words
length_with_bit w words v bit = length-set words (v / w) (bit_or (get_or words (v / w) 0) (bit * 2 ^ (v % w)))

-- ---- digits of numbers
pub digit_zero : (j : ℕ) → digit 0 j ≡ 0
digit_zero j = ap (λ (x : ℕ). x % 2) (div-eq_of_lt (pow_pos j))

pub digit_and : (a b j : ℕ) → digit (bit_and a b) j ≡ bit_and (digit a j) (digit b j)
digit_and a b j = ap (λ (x : ℕ). x % 2) (and_shr a b j) ∙ and_mod (a / 2 ^ j) (b / 2 ^ j) 1

digit_or : (a b j : ℕ) → digit (bit_or a b) j ≡ bit_or (digit a j) (digit b j)
digit_or a b j = ap (λ (x : ℕ). x % 2) (or_shr a b j) ∙ or_mod (a / 2 ^ j) (b / 2 ^ j) 1

-- a digit set by an or adds what it is worth, except where it was set already
pub or_digit : (x j : ℕ) → bit_or x (1 * 2 ^ j) + digit x j * 2 ^ j ≡ x + 1 * 2 ^ j
or_digit x j =
    let one : 2 ^ (1 + j) - 2 ^ j ≡ 1 * 2 ^ j = omega (arith, pow-add 2 1 j) in
    ap (λ (y : ℕ). bit_or x (1 * 2 ^ j) + y) (sym (and_high x 1 j) ∙ ap (bit_and x) one) ∙ or_add_and x (1 * 2 ^ j)

-- a byte that is not 0 has a digit that is not
pub some_digit : (x : ℕ) → x < 256 → x ≢ 0 → Some (λ i. digit x i ≡ 1) 0 8
some_digit x small not = stable (dec_some (λ i. digit x i ≡ 1) (λ i. ℕ_discrete (digit x i) 1) 0 8) (λ none. not (zero_is none))
  where
    off : ¬ Some (λ i. digit x i ≡ 1) 0 8 → (i : ℕ) → i < 8 → digit x i ≡ 0
    off none i h = let one : digit x i ≢ 1 = λ e. none (i, zero-le, h, e) in omega arith

    zero_is : ¬ Some (λ i. digit x i ≡ 1) 0 8 → x ≡ 0
    zero_is none =
        let a : x ≡ 2 * (x / 2) = let o = off none 0 (omega arith) in omega arith in
        let b : x / 2 ≡ 2 * (x / 4) = let o = off none 1 (omega arith) in omega arith in
        let c : x / 4 ≡ 2 * (x / 8) = let o = off none 2 (omega arith) in omega arith in
        let d : x / 8 ≡ 2 * (x / 16) = let o = off none 3 (omega arith) in omega arith in
        let e : x / 16 ≡ 2 * (x / 32) = let o = off none 4 (omega arith) in omega arith in
        let f : x / 32 ≡ 2 * (x / 64) = let o = off none 5 (omega arith) in omega arith in
        let g : x / 64 ≡ 2 * (x / 128) = let o = off none 6 (omega arith) in omega arith in
        let h : x / 128 ≡ 2 * (x / 256) = let o = off none 7 (omega arith) in omega arith in
        let k : x / 256 ≡ 0 = omega arith in
        omega (arith, a, b, c, d, e, f, g, h, k)

same_quotient_and_remainder : (u v w : ℕ) → u / w ≡ v / w → u % w ≡ v % w → u ≡ v
same_quotient_and_remainder u v w e f = sym (div-add-mod' u w) ∙ (λ j. e j * w + f j) ∙ div-add-mod' v w

-- zeros, as a list, have zero at each place
pub zeros_at : (n i : ℕ) → get_or {A = ℕ} (replicate n 0) i 0 ≡ 0
zeros_at zero i = refl
zeros_at (suc n) zero = refl
zeros_at (suc n) (suc i) = zeros_at n i

-- and as a table no bit set
pub digit_none : (n i j : ℕ) → digit_of (replicate n 0) i j ≡ 0
digit_none n i j = ap (λ (x : ℕ). digit x j) (zeros_at n i) ∙ digit_zero j

pub bit_none : (w n v : ℕ) → bit_of w (replicate n 0) v ≡ 0
bit_none w n v = digit_none n (v / w) (v % w)

module _ (bit : ℕ) (small : bit ≤ 1) where
  digit_here : (k : ℕ) → digit (bit * 2 ^ k) k ≡ bit
  digit_here k = ap (λ (x : ℕ). x % 2) (shl-shr bit k) ∙ omega arith

  digit_above : (d j : ℕ) → digit (bit * 2 ^ (suc d + j)) j ≡ 0
  digit_above d j =
      ap (λ (x : ℕ). digit x j) (split d j) ∙ ap (λ (x : ℕ). x % 2) (shl-shr (bit * 2 ^ suc d) j) ∙ shifted_even bit d
    where
      split : (d j : ℕ) → bit * 2 ^ (suc d + j) ≡ bit * 2 ^ suc d * 2 ^ j
      split d j = ap (λ (x : ℕ). bit * x) (pow-add 2 (suc d) j) ∙ sym (mul_assoc bit (2 ^ suc d) (2 ^ j))

  digit_below : (k j : ℕ) → k < j → digit (bit * 2 ^ k) j ≡ 0
  digit_below k j h =
      let less : bit * 2 ^ k < 2 ^ j = omega (arith, mul-le-mul_right (2 ^ k) small, pow-lt h) in
      ap (λ (x : ℕ). x % 2) (div-eq_of_lt less)

  digit_other : (k j : ℕ) → k ≢ j → digit (bit * 2 ^ k) j ≡ 0
  digit_other k j differ = elim (le_or_lt k j) [
    | inl h ↦ digit_below k j (omega arith)
    | inr h ↦
        let e : suc (k - j - 1) + j ≡ k = omega arith in
        ap (λ (x : ℕ). digit (bit * 2 ^ x) j) (sym e) ∙ digit_above (k - j - 1) j
  ]

  module _ (words : List ℕ) (i j : ℕ) (inside : i < length words) where
    abbrev word : ℕ
    word = get_or words i 0

    pub digit_put : digit_of (with_digit words i j bit) i j ≡ bit_or (digit_of words i j) bit
    digit_put =
        ap (λ (x : ℕ). digit x j) (get_or-set_same words i (bit_or word (bit * 2 ^ j)) 0 inside)
        ∙ digit_or word (bit * 2 ^ j) j ∙ ap (bit_or (digit word j)) (digit_here j)

    pub digit_kept : (h l : ℕ) → ¬ ((h ≡ i) × (l ≡ j)) → digit_of (with_digit words i j bit) h l ≡ digit_of words h l
    digit_kept h l differ = elim (eq_or_ne h i) [
      | inr other ↦ ap (λ (x : ℕ). digit x l) (get_or-set_other words i h (bit_or word (bit * 2 ^ j)) 0 other)
      | inl same ↦
          ap (λ (at : ℕ). digit (get_or (with_digit words i j bit) at 0) l) same
          ∙ ap (λ (x : ℕ). digit x l) (get_or-set_same words i (bit_or word (bit * 2 ^ j)) 0 inside)
          ∙ digit_or word (bit * 2 ^ j) l ∙ ap (bit_or (digit word l)) (digit_other j l (λ e. differ (same, sym e)))
          ∙ or_zero_r (digit word l) ∙ ap (λ (at : ℕ). digit (get_or words at 0) l) (sym same)
    ]

  module _ (w : ℕ) (words : List ℕ) (v : ℕ) (inside : v / w < length words) where
    pub bit_put : bit_of w (with_bit w words v bit) v ≡ bit_or (bit_of w words v) bit
    bit_put = digit_put words (v / w) (v % w) inside

    pub bit_kept : (u : ℕ) → u ≢ v → bit_of w (with_bit w words v bit) u ≡ bit_of w words u
    bit_kept u differ =
        digit_kept words (v / w) (v % w) inside (u / w) (u % w) (λ (e, f). differ (same_quotient_and_remainder u v w e f))
