-- What is counted. "For n from 1 to 17 report, for each number of rises from 0 to n − 1, how many accepted records of n rooms have it, and
-- the total." A rise is as in M-107: "a rise or fall is a third bit of 0 or 1".
use Rattle.std.specs.Prelude.{List, ◌≡◌, ℕ}
use Rattle.bits.specs.Bit.{Bytes}
use Rattle.record.specs.Read.{kind_of}
use Rattle.record.specs.Rises.{rises_of}
use Rattle.record.specs.Checked.{Readable}

-- "accepted records of n rooms": bytes with none of the causes for which a record is refused, whose kind is n
pub record AcceptedRecord (n : ℕ) (bytes : List ℕ) : Type 0 where
  pub all_bytes : Bytes bytes
  pub read : Readable bytes
  pub rooms : kind_of bytes ≡ n

-- those that have this number of rises
abbrev pub AcceptedWithRises : (n rises : ℕ) → List ℕ → Type 0
AcceptedWithRises n rises bytes = AcceptedRecord n bytes × (rises_of bytes ≡ rises)
