-- Laws on lists of bytes and their bits: where the bits of a list are, bits that are packed into bytes are found there again, and equal
-- bits make equal lists.
use Rattle.std.specs.Prelude.{Bool, true, false, List, [], ◌∷◌, ◌≡◌, refl, ℕ, zero, suc, ◌+◌, ◌-◌, ◌*◌, ◌/◌, ◌%◌, ◌^◌, ◌≤◌, ◌<◌, eqb, length, get_or, take, drop, replicate}
use Rattle.std.proofs.Common.{inl, inr, sym, ap, ap₂, ◌∙◌, add-zero, add-suc, div-one, pow-suc, one-add, arith, eqb→eq, shr-shr, ext_get_or}
use Rattle.std.proofs.Math.Nat.{zero-div}
use Rattle.std.proofs.Math.ListN.{get_or-eq_default}
use Rattle.finite.specs.BitTable.{zeros_at}
use Rattle.finite.specs.Decide.{le_or_lt}
use Rattle.finite.specs.Every.{every_at}
use Rattle.finite.specs.Table.{length_table, get_d_table, take_table}
use Rattle.bits.specs.Bit.{bit, bit_in, bit_at, Bytes, value, byte_of, pack}

-- ---- a bit as a number
bit_small : (x : Bool) → bit x < 2
bit_small true = omega arith
bit_small false = omega arith

bit_back : (x : Bool) → eqb (bit x) 1 ≡ x
bit_back true = refl
bit_back false = refl

-- ---- the number that bits write
value_small : (b : ℕ → Bool) (m : ℕ) → value b m < 2 ^ m
unfolding value
value_small b zero = omega arith
value_small b (suc m) = omega (arith, pow-suc 2 m, value_small b m, bit_small (b m))

value_same : (b c : ℕ → Bool) (m : ℕ) → ((i : ℕ) → i < m → b i ≡ c i) → value b m ≡ value c m
unfolding value
value_same b c zero h = refl
value_same b c (suc m) h = ap₂ (λ (n : ℕ) (x : Bool). 2 * n + bit x) (value_same b c m (λ i l. h i (omega arith))) (h m (omega arith))

-- without its last j bits
value_first : (b : ℕ → Bool) (m j : ℕ) → value b (m + j) / 2 ^ j ≡ value b m
unfolding value
value_first b m zero = rw add-zero (div-one (value b m))
value_first b m (suc j) =
    let half : (2 * value b (m + j) + bit (b (m + j))) / 2 ≡ value b (m + j) = omega (arith, bit_small (b (m + j))) in
    rw (add-suc, ← one-add j, ← shr-shr _ 1 j, half) (value_first b m j)

value_last : (b : ℕ → Bool) (m : ℕ) → value b (suc m) % 2 ≡ bit (b m)
unfolding value
value_last b m = omega (arith, bit_small (b m))

-- ---- a byte
byte_is : (x : ℕ) → x < 256 → byte_of (bit_in x) ≡ x
unfolding byte_of value bit_in
byte_is x h = eqb→eq _ _ (every_at 256 (λ x. eqb (byte_of (bit_in x)) x) tt x h)

byte_bit : (b : ℕ → Bool) (i : ℕ) → i < 8 → bit_in (byte_of b) i ≡ b i
unfolding bit_in byte_of
byte_bit b i h =
    let e : 8 ≡ suc i + (7 - i) = omega arith in
    rw (e, value_first b (suc i) (7 - i), value_last) (bit_back (b i))

-- two bytes with the same bits are the same
pub same_byte : (x y : ℕ) → x < 256 → y < 256 → ((i : ℕ) → i < 8 → bit_in x i ≡ bit_in y i) → x ≡ y
unfolding byte_of
same_byte x y hx hy h = sym (byte_is x hx) ∙ value_same (bit_in x) (bit_in y) 8 h ∙ byte_is y hy

-- ---- the bits of a list
-- bit i of byte j is bit 8j + i of the list
pub bit_at_byte : (bytes : List ℕ) (j i : ℕ) → i < 8 → bit_at bytes (8 * j + i) ≡ bit_in (get_or bytes j 0) i
unfolding bit_at
bit_at_byte bytes j i h =
    let q : (8 * j + i) / 8 ≡ j = omega arith in
    let r : (8 * j + i) % 8 ≡ i = omega arith in
    rw (q, r)

-- in the first byte
pub bit_at_first : (bytes : List ℕ) (i : ℕ) → i < 8 → bit_at bytes i ≡ bit_in (get_or bytes 0 0) i
unfolding bit_at
bit_at_first bytes i h =
    let q : i / 8 ≡ 0 = omega arith in
    let r : i % 8 ≡ i = omega arith in
    rw (q, r)

-- behind a first byte
pub bit_at_after : (byte : ℕ) (bytes : List ℕ) (i : ℕ) → bit_at (byte ∷ bytes) (8 + i) ≡ bit_at bytes i
unfolding bit_at
bit_at_after byte bytes i =
    let q : (8 + i) / 8 ≡ suc (i / 8) = omega arith in
    let r : (8 + i) % 8 ≡ i % 8 = omega arith in
    rw (q, r)

-- without a first byte
pub bit_at_drop : (bytes : List ℕ) (i : ℕ) → bit_at (drop 1 bytes) i ≡ bit_at bytes (8 + i)
unfolding bit_at
bit_at_drop [] i =
    let r : (8 + i) % 8 ≡ i % 8 = omega arith in
    rw r
bit_at_drop (byte ∷ bytes) i = sym (bit_at_after byte bytes i)

-- two lists of as many bytes with the same bits are the same list
pub same_bits : (xs ys : List ℕ) → Bytes xs → Bytes ys → length xs ≡ length ys
    → ((i : ℕ) → i < 8 * length xs → bit_at xs i ≡ bit_at ys i) → xs ≡ ys
same_bits xs ys hx hy long h =
    ext_get_or 0 xs ys long
    (λ j l. same_byte (get_or xs j 0) (get_or ys j 0) (hx j) (hy j)
    (λ i s. sym (bit_at_byte xs j i s) ∙ h (8 * j + i) (omega arith) ∙ bit_at_byte ys j i s))

-- ---- packed bits
-- m bytes are packed
pub length_pack : (b : ℕ → Bool) (m : ℕ) → length (pack b m) ≡ m
unfolding pack
length_pack b m = length_table (λ j. byte_of (λ i. b (8 * j + i))) m

byte_of_pack : (b : ℕ → Bool) (m j : ℕ) → j < m → get_or (pack b m) j 0 ≡ byte_of (λ i. b (8 * j + i))
unfolding pack
byte_of_pack b m j h = get_d_table (λ j. byte_of (λ i. b (8 * j + i))) m j 0 h

-- each of them is a byte
pub bytes_pack : (b : ℕ → Bool) (m : ℕ) → Bytes (pack b m)
unfolding byte_of
bytes_pack b m j = elim (le_or_lt m j) [
  | inl l ↦
      let past : length (pack b m) ≤ j = rw length_pack l in
      omega (arith, get_or-eq_default (pack b m) 0 past)
  | inr l ↦ rw (byte_of_pack b m j l) (value_small (λ i. b (8 * j + i)) 8)
]

-- bit i of the packed bytes is the bit that was given
pub bit_at_pack : (b : ℕ → Bool) (m i : ℕ) → i < 8 * m → bit_at (pack b m) i ≡ b i
unfolding bit_at
bit_at_pack b m i h =
    let e : 8 * (i / 8) + i % 8 ≡ i = omega arith in
    rw (byte_of_pack b m (i / 8) (omega arith)) (byte_bit (λ t. b (8 * (i / 8) + t)) (i % 8) (omega arith) ∙ ap b e)

-- fewer bytes of the same bits
pub take_pack : (b : ℕ → Bool) (m k : ℕ) → k ≤ m → take k (pack b m) ≡ pack b k
unfolding pack
take_pack b m k h = take_table (λ j. byte_of (λ i. b (8 * j + i))) m k h

-- past the end no bit is set
pub bit_at_past : (bytes : List ℕ) (i : ℕ) → 8 * length bytes ≤ i → bit_at bytes i ≡ false
unfolding bit_at bit_in
bit_at_past bytes i h =
    let none : get_or bytes (i / 8) 0 ≡ 0 = get_or-eq_default bytes 0 (omega arith) in
    rw (none, zero-div (2 ^ (7 - i % 8)))

-- bytes that are 0 have no bit set
pub bit_at_zeros : (n i : ℕ) → bit_at (replicate n 0) i ≡ false
unfolding bit_at bit_in
bit_at_zeros n i = rw (zeros_at n (i / 8), zero-div (2 ^ (7 - i % 8)))
