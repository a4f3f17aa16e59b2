-- The number that begins at a place of a line.
use Rattle.std.specs.Prelude.{List, ℕ, ◌+◌, ◌*◌, ◌%◌, get_or}
use Rattle.std.proofs.Math.Logic.{ite}
use Rattle.std.proofs.Math.Decide.{dec_lt}

-- the number with which three bytes of a line begin: of the bytes in the form digits alone are above 47, and a digit's low four bits are
-- its value
unfoldable pub number_in : (first second third : ℕ) → ℕ
unfolding dec_lt
number_in first second third =
    ite (dec_lt 47 second)
    (ite (dec_lt 47 third) (10 * (10 * (first % 16) + second % 16) + third % 16) (10 * (first % 16) + second % 16))
    (first % 16)

abbrev pub number_at : (line : List ℕ) (at : ℕ) → ℕ
number_at line at = number_in (get_or line at 0) (get_or line (at + 1) 0) (get_or line (at + 2) 0)

-- a number as a byte; one that no byte holds is no label, and neither is 0
unfoldable pub as_byte : ℕ → ℕ
unfolding dec_lt
as_byte number = ite (dec_lt 255 number) 0 number
