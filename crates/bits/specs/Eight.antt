-- Eight groups in a word of 24 bits: three bytes of a list hold just eight groups of three bits.
use Rattle.std.specs.Prelude.{List, ◌≡◌, ℕ, ◌+◌, ◌-◌, ◌*◌, ◌/◌, ◌%◌, ◌^◌, ◌<◌}
use Rattle.bits.specs.Bit.{group_at}

-- group i of such a word, for i from 0 to 7: group 0 is the highest
abbrev pub group_of_word : ℕ → ℕ → ℕ
group_of_word word i = word / 2 ^ (21 - 3 * i) % 8

-- the groups of the word are the list's, from group 8m on; past the end of the list its bits are 0
abbrev pub EightGroups : List ℕ → ℕ → ℕ → Type 0
EightGroups bytes m word = (i : ℕ) → i < 8 → group_of_word word i ≡ group_at bytes (8 * m + i)
