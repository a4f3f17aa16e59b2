-- A triple set in a record (M-104): "setting a triple gives its three bits and leaves every other bit of the record as it was".
use Rattle.std.specs.Prelude.{List, ◌≡◌, ℕ, ◌+◌, ◌-◌, ◌*◌, ◌≤◌, ◌<◌, length}
use Rattle.bits.specs.Bit.{bit_at, Bytes}
use Rattle.record.specs.Triple.{Triple}
use Rattle.record.specs.Record.{triple_in}
use Rattle.record.specs.Read.{body_of}

-- bit b of a record is one of the three of position i: the kind byte has the bits 0 to 7, position 2 the next three, and so on
abbrev pub BitOf : (i b : ℕ) → Type 0
BitOf i b = (8 + 3 * (i - 2) ≤ b) × (b < 8 + 3 * (i - 2) + 3)

-- the record after the triple of position i, from 2 on, was set: read from the record, it is the one that was set; every other bit is
-- what it was; and the record has as many bytes as before
pub record TripleSet (before after : List ℕ) (i : ℕ) (set : Triple) : Type 0 where
  pub gives : triple_in (body_of after) i ≡ set
  pub leaves : (b : ℕ) → ¬ BitOf i b → bit_at after b ≡ bit_at before b
  pub long : length after ≡ length before
  pub bytes : Bytes before → Bytes after
