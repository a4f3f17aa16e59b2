-- The bits of a byte and of a list of bytes, the highest bit first, and the groups of three bits that a list of bytes holds.
use Rattle.std.specs.Prelude.{Bool, true, false, List, ◌≢◌, ◌≡◌, ℕ, zero, suc, ◌+◌, ◌-◌, ◌*◌, ◌/◌, ◌%◌, ◌^◌, ◌<◌, eqb, length, get_or}
use Rattle.finite.specs.Table.{table}

-- what a bit is worth as a number: 1 where it is set, else 0
abbrev pub bit : Bool → ℕ
bit true = 1
bit false = 0

-- bit i of a byte, for i from 0 to 7: bit 0 is the highest and bit 7 the lowest
unfoldable pub bit_in : ℕ → ℕ → Bool
bit_in byte i = eqb (byte / 2 ^ (7 - i) % 2) 1

-- bit i of a list of bytes: bit 0 is the highest bit of the first byte, bit 8 the highest of the second
unfoldable pub bit_at : List ℕ → ℕ → Bool
bit_at bytes i = bit_in (get_or bytes (i / 8) 0) (i % 8)

-- each element is a byte
abbrev pub Bytes : List ℕ → Type 0
Bytes bytes = (i : ℕ) → get_or bytes i 0 < 256

-- group k: the bits 3k, 3k + 1 and 3k + 2 as a number from 0 to 7, the first of them worth 4
unfoldable pub group_at : List ℕ → ℕ → ℕ
group_at bytes k =
    4 * bit (bit_at bytes (3 * k)) + 2 * bit (bit_at bytes (3 * k + 1)) + bit (bit_at bytes (3 * k + 2))

-- what setting group k to a number leaves: that number there, each bit of another group as it was, as many bytes as before
pub record GroupSet (before after : List ℕ) (k group : ℕ) : Type 0 where
  pub group_is : group_at after k ≡ group
  pub others : (i : ℕ) → i / 3 ≢ k → bit_at after i ≡ bit_at before i
  pub long : length after ≡ length before
  pub bytes : Bytes before → Bytes after

-- the number that the first m of the given bits write, the first of them being the highest
unfoldable pub value : (ℕ → Bool) → ℕ → ℕ
value b zero = 0
value b (suc m) = 2 * value b m + bit (b m)

-- the byte whose bits 0 to 7 are given
unfoldable pub byte_of : (ℕ → Bool) → ℕ
byte_of b = value b 8

-- the m bytes whose bits are given: byte j has the bits 8j to 8j + 7
unfoldable pub pack : (ℕ → Bool) → ℕ → List ℕ
pack b m = table (λ j. byte_of (λ i. b (8 * j + i))) m
