-- Rows that pass a test at each byte are the rows of all bytes.
use mathlib.Core.Bool.{Bool}
use mathlib.Core.List.{List}
use mathlib.Core.Path.{◌≡◌}
use Prim.Native.Nat.{ℕ}
use lib.Dec.{T, eqb, eqb→eq}
use lib.ListN.{length, get_or}
use Rattle.finite.specs.Every.{every, every_at}
use Rattle.labeltext.specs.Symbol.{symbol_of}
use Rattle.numbers.specs.Places.{row_of, Rows}

-- the row of this byte is in its place
abbrev pub right : (rows : List ℕ) (byte : ℕ) → Bool
right rows byte = eqb (get_or rows byte 0) (row_of (symbol_of byte))

pub tested_rows : (rows : List ℕ) → length rows ≡ 256 → T (every 256 (right rows)) → Rows rows
tested_rows rows long test = record { long = long; row = λ b h. eqb→eq _ _ (every_at 256 (right rows) test b h) }
