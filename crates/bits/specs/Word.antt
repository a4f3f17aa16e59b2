-- A word of 16 bits over one byte of a list, or over two: what the private functions that load and store a word promise.
use Rattle.std.specs.Prelude.{Bool, cond, List, ◌⊎◌, ◌≡◌, ℕ, ◌+◌, ◌-◌, ◌*◌, ◌/◌, ◌%◌, ◌^◌, ◌≤◌, ◌<◌, eqb, ltb, length}
use Rattle.bits.specs.Bit.{bit_at, Bytes}

-- bit i of a word, bit 0 being the highest
unfoldable pub bit_of_word : ℕ → ℕ → Bool
bit_of_word word i = eqb (word / 2 ^ (15 - i) % 2) 1

-- how many of a word's bits are in use, where the lowest one that is needed is worth 2 ^ lowest: those of both its bytes, or of the
-- high one
unfoldable pub reach : ℕ → ℕ
reach lowest = cond (ltb lowest 8) 16 8

-- the bits of the word that are in use are the list's, from byte `at` on
abbrev pub Shows : List ℕ → ℕ → ℕ → ℕ → Type 0
Shows bytes at lowest word = (i : ℕ) → i < reach lowest → bit_at bytes (8 * at + i) ≡ bit_of_word word i

-- the list after the bits of the word that are in use were stored from byte `at` on
pub record Stored (before after : List ℕ) (at lowest word : ℕ) : Type 0 where
  pub shows : Shows after at lowest word
  pub others : (i : ℕ) → (i < 8 * at) ⊎ (8 * at + reach lowest ≤ i) → bit_at after i ≡ bit_at before i
  pub long : length after ≡ length before
  pub bytes : Bytes before → Bytes after
