-- Group k of a list that shows a word, read and set. The group's first bit is bit 3k % 8 of the word, so the group is three digits of the word,
-- the lowest of them at 13 - 3k % 8; a number put there sets the group, and each other bit of the word is as it was.
use mathlib.Core.List.{List}
use mathlib.Core.Logic.{◌≢◌, ◌⊎◌, inl, inr}
use mathlib.Core.Path.{◌≡◌, refl, sym, ap, ◌∙◌}
use Prim.Native.Nat.{ℕ, zero, suc, ◌+◌, ◌-◌, ◌*◌, ◌/◌, ◌%◌, ◌^◌, ◌≤◌, ◌<◌}
use native.Mathlib.Omega.{arith}
use lib.Dec.{eqb}
use Rattle.finite.specs.Decide.{le_or_lt}
use Rattle.bits.specs.Bit.{bit, bit_at, group_at, GroupSet}
use Rattle.bits.specs.Word.{bit_of_word, reach, Shows, Stored}
use Rattle.bits.proofs.Digit.{digit, three_digits}
use Rattle.bits.proofs.Put.{put, put_here, put_other}
use Rattle.bits.proofs.Word.{in_reach, reach_small}

-- the byte in which group k starts, and the place of its lowest digit in a word from that byte on
abbrev at : ℕ → ℕ
at k = 3 * k / 8

abbrev lowest : ℕ → ℕ
lowest k = 13 - 3 * k % 8

pub bit_of_digit : (n : ℕ) → n < 2 → bit (eqb n 1) ≡ n
bit_of_digit zero h = refl
bit_of_digit (suc zero) h = refl
bit_of_digit (suc (suc n)) h = absurd (omega arith)

module _ (xs : List ℕ) (k word : ℕ) (seen : Shows xs (at k) (lowest k) word) where
  bit_shown : (i j : ℕ) → 3 * k ≤ i → i < 3 * k + 3 → i + j ≡ 3 * k + 2 + lowest k → bit (bit_at xs i) ≡ digit word j
  unfolding bit_of_word
  bit_shown i j g h e =
      let p : i ≡ 8 * at k + (i - 8 * at k) = omega arith in
      let q : 15 - (i - 8 * at k) ≡ j = omega arith in
      rw (p, seen (i - 8 * at k) (in_reach (lowest k) (i - 8 * at k) (omega arith)), q) (bit_of_digit (digit word j) (omega arith))

  pub group_shown : group_at xs k ≡ word / 2 ^ lowest k % 8
  unfolding group_at
  group_shown =
      let first = bit_shown (3 * k) (lowest k + 2) (omega arith) (omega arith) (omega arith) in
      let second = bit_shown (3 * k + 1) (lowest k + 1) (omega arith) (omega arith) (omega arith) in
      let third = bit_shown (3 * k + 2) (lowest k) (omega arith) (omega arith) (omega arith) in
      rw (first, second, third) (sym (three_digits word (lowest k)))

put_bit : (k word v i : ℕ) → word < 65536 → v < 8 → i < 16 → (i < 3 * k % 8) ⊎ (3 * k % 8 + 3 ≤ i)
    → bit_of_word (put word (lowest k) v) i ≡ bit_of_word word i
unfolding bit_of_word
put_bit k word v i fits small h out =
    ap (λ (n : ℕ). eqb n 1)
    (put_other (lowest k) v (omega arith) small word fits (15 - i) (elim out [ inl l ↦ inr (omega arith) | inr l ↦ inl (omega arith) ]))

group_set : (xs ys : List ℕ) (k word v : ℕ) → word < 65536 → v < 8 → Shows xs (at k) (lowest k) word
    → Stored xs ys (at k) (lowest k) (put word (lowest k) v) → GroupSet xs ys k v
group_set xs ys k word v fits small seen st = record {
  group_is = group_shown ys k (put word (lowest k) v) st.shows ∙ put_here (lowest k) v (omega arith) small word;
  others = other;
  long = st.long;
  bytes = st.bytes;
}
  where
    same : (i : ℕ) → i < reach (lowest k) → (i < 3 * k % 8) ⊎ (3 * k % 8 + 3 ≤ i) → bit_at ys (8 * at k + i) ≡ bit_at xs (8 * at k + i)
    same i h out = st.shows i h ∙ put_bit k word v i fits small (omega (arith, reach_small (lowest k))) out ∙ sym (seen i h)

    other : (i : ℕ) → i / 3 ≢ k → bit_at ys i ≡ bit_at xs i
    other i ne = elim (le_or_lt (8 * at k) i) [
      | inr l ↦ st.others i (inl l)
      | inl g ↦ elim (le_or_lt (8 * at k + reach (lowest k)) i) [
        | inl l ↦ st.others i (inr l)
        | inr l ↦
            let e : i ≡ 8 * at k + (i - 8 * at k) = omega arith in
            rw e (same (i - 8 * at k) (omega arith) (elim (le_or_lt (3 * k) i) [ inl m ↦ inr (omega arith) | inr m ↦ inl (omega arith) ]))
      ]
    ]

-- the same for group i of the eight from group 8m on, which start at byte 3m
pub group_of_eight_set : (xs ys : List ℕ) (m i word v : ℕ) → word < 65536 → v < 8 → Shows xs (3 * m + at i) (lowest i) word
    → Stored xs ys (3 * m + at i) (lowest i) (put word (lowest i) v) → GroupSet xs ys (8 * m + i) v
group_of_eight_set xs ys m i word v fits small seen st =
    let place : 3 * m + at i ≡ at (8 * m + i) = omega arith in
    let digits : lowest i ≡ lowest (8 * m + i) = omega arith in
    group_set xs ys (8 * m + i) word v fits small (rw (place, digits) at seen) (rw (place, digits) at st)
