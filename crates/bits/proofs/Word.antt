-- A word over the bytes of a list. Its high byte has the word's bits 0 to 7 and its low byte the bits 8 to 15, so a list shows a word where
-- the bytes that are in use are the word's quotient and remainder by 256; a store of these two changes no other bit.
use mathlib.Core.List.{List}
use mathlib.Core.Logic.{◌≢◌, inl, inr}
use mathlib.Core.Path.{◌≡◌, ap, ◌∙◌}
use Prim.Native.Nat.{ℕ, ◌+◌, ◌-◌, ◌*◌, ◌/◌, ◌%◌, ◌≤◌, ◌<◌}
use native.Mathlib.Omega.{arith}
use borrow.Author.Tests.{lt-ltb, le-ltb}
use lib.Bits.{bit_and, bit_or, and_le_r, and_mask, or_shifted}
use lib.Dec.{eqb}
use lib.ListN.{length, get_or, set, length-set}
use lib.Seq.{get_or-set_same, get_or-set_other}
use Rattle.finite.specs.Decide.{le_or_lt, eq_or_ne}
use Rattle.bits.specs.Bit.{bit_in, bit_at, Bytes}
use Rattle.bits.proofs.Pack.{bit_at_byte}
use Rattle.bits.specs.Word.{bit_of_word, reach, Shows, Stored}
use Rattle.bits.proofs.Digit.{digit_of_quotient, digit_of_remainder}

-- ---- the bits in use
reach_two : (lowest : ℕ) → lowest < 8 → reach lowest ≡ 16
unfolding reach
reach_two lowest h = simp (lt-ltb lowest 8 h)

reach_one : (lowest : ℕ) → 8 ≤ lowest → reach lowest ≡ 8
unfolding reach
reach_one lowest h = simp (le-ltb lowest 8 h)

pub in_reach : (lowest i : ℕ) → i + lowest < 16 → i < reach lowest
in_reach lowest i h = elim (le_or_lt 8 lowest) [
  | inl l ↦ omega (arith, reach_one lowest l)
  | inr l ↦ omega (arith, reach_two lowest l)
]

pub reach_small : (lowest : ℕ) → reach lowest ≤ 16
reach_small lowest = elim (le_or_lt 8 lowest) [ inl l ↦ omega (arith, reach_one lowest l) | inr l ↦ omega (arith, reach_two lowest l) ]

-- ---- a masked word
pub masked_fits : (n m k : ℕ) → m < k → bit_and n m < k
masked_fits n m k h = omega (arith, and_le_r n m)

-- ---- a list shows a word
bit_of_high : (word i : ℕ) → i < 8 → bit_in (word / 256) i ≡ bit_of_word word i
unfolding bit_in bit_of_word
bit_of_high word i h =
    let e : 8 + (7 - i) ≡ 15 - i = omega arith in
    rw (← e) (ap (λ (n : ℕ). eqb n 1) (digit_of_quotient word 8 (7 - i)))

bit_of_low : (word i : ℕ) → 8 ≤ i → i < 16 → bit_in (word % 256) (i - 8) ≡ bit_of_word word i
unfolding bit_in bit_of_word
bit_of_low word i g h =
    let e : 7 - (i - 8) ≡ 15 - i = omega arith in
    rw e (ap (λ (n : ℕ). eqb n 1) (digit_of_remainder word 8 (15 - i) (omega arith)))

shows : (xs : List ℕ) (at lowest word : ℕ) → get_or xs at 0 ≡ word / 256 → (lowest < 8 → get_or xs (at + 1) 0 ≡ word % 256) → Shows xs at lowest word
shows xs at lowest word high low i h = elim (le_or_lt 8 i) [
  | inl g ↦ elim (le_or_lt 8 lowest) [
    | inl l ↦ absurd (omega (arith, reach_one lowest l))
    | inr l ↦
        let e : 8 * at + i ≡ 8 * (at + 1) + (i - 8) = omega arith in
        let small : i < 16 = omega (arith, reach_small lowest) in
        rw e (bit_at_byte xs (at + 1) (i - 8) (omega arith) ∙ ap (λ (byte : ℕ). bit_in byte (i - 8)) (low l) ∙ bit_of_low word i g small)
  ]
  | inr l ↦ bit_at_byte xs at i l ∙ ap (λ (byte : ℕ). bit_in byte i) high ∙ bit_of_high word i l
]

-- the word of two bytes, as the code writes it
joined : (high low : ℕ) → high < 256 → low < 256 → bit_or (high * 256 % 65536) low ≡ high * 256 + low
joined high low g h =
    let e : high * 256 % 65536 ≡ high * 256 = omega arith in
    rw e (or_shifted high 8 low h)

pub shows_two : (xs : List ℕ) (at lowest high low : ℕ) → get_or xs at 0 ≡ high → high < 256 → get_or xs (at + 1) 0 ≡ low → low < 256
    → Shows xs at lowest (bit_or (high * 256 % 65536) low)
shows_two xs at lowest high low e g f h = rw (joined high low g h) (shows xs at lowest (high * 256 + low) (omega arith) (λ l. omega arith))

pub shows_one : (xs : List ℕ) (at lowest high : ℕ) → get_or xs at 0 ≡ high → high < 256 → 8 ≤ lowest → Shows xs at lowest (high * 256 % 65536)
shows_one xs at lowest high e g l = shows xs at lowest (high * 256 % 65536) (omega arith) (λ h. absurd (omega arith))

-- ---- a byte is stored
bit_other : (xs : List ℕ) (at byte i : ℕ) → i / 8 ≢ at → bit_at (set xs at byte) i ≡ bit_at xs i
unfolding bit_at
bit_other xs at byte i ne = rw (get_or-set_other xs at (i / 8) byte 0 ne)

bytes_set : (xs : List ℕ) (at byte : ℕ) → at < length xs → byte < 256 → Bytes xs → Bytes (set xs at byte)
bytes_set xs at byte fits small all i = elim (eq_or_ne i at) [
  | inl e ↦ rw (e, get_or-set_same xs at byte 0 fits) small
  | inr ne ↦ rw (get_or-set_other xs at i byte 0 ne) (all i)
]

module _ (xs : List ℕ) (at lowest word : ℕ) (word_fits : word < 65536) where
  pub stored_one : at < length xs → 8 ≤ lowest → Stored xs (set xs at (word / 256)) at lowest word
  stored_one fits l = record {
    shows = shows (set xs at (word / 256)) at lowest word (get_or-set_same xs at (word / 256) 0 fits) (λ g. absurd (omega arith));
    others = λ i out. bit_other xs at (word / 256) i (λ e. elim out [ inl o ↦ omega arith | inr o ↦ omega (arith, reach_one lowest l) ]);
    long = length-set xs at (word / 256);
    bytes = bytes_set xs at (word / 256) fits (omega arith);
  }

  pub stored_two : at + 1 < length xs → lowest < 8 → Stored xs (set (set xs at (word / 256)) (at + 1) (bit_and word 255)) at lowest word
  stored_two fits l = rw (and_mask word 8) record {
    shows = shows after at lowest word
        (get_or-set_other once (at + 1) at (word % 256) 0 (omega arith) ∙ get_or-set_same xs at (word / 256) 0 (omega arith))
        (λ g. get_or-set_same once (at + 1) (word % 256) 0 fits_after);
    others = λ i out. bit_other once (at + 1) (word % 256) i (λ e. elim out [ inl o ↦ omega arith | inr o ↦ omega (arith, reach_two lowest l) ])
        ∙ bit_other xs at (word / 256) i (λ e. elim out [ inl o ↦ omega arith | inr o ↦ omega (arith, reach_two lowest l) ]);
    long = length-set once (at + 1) (word % 256) ∙ length-set xs at (word / 256);
    bytes = λ all. bytes_set once (at + 1) (word % 256) fits_after (omega arith) (bytes_set xs at (word / 256) (omega arith) (omega arith) all);
  }
    where
      once : List ℕ
      once = set xs at (word / 256)

      after : List ℕ
      after = set once (at + 1) (word % 256)

      fits_after : at + 1 < length once
      fits_after = rw length-set fits
