-- Judging a record: the checks before the walk, the walk, and the checks after it; and what is told of a record that passes them.
use Rattle.std.specs.Prelude.{false, List, ◌≡◌, ℕ, ◌-◌, ◌≤◌, Option, Some, None, Result, Ok, Err}
use Rattle.bits.specs.Bit.{bit_at}
use Rattle.record.specs.Triple.{Triple}
use Rattle.record.specs.Walk.{Counts, missing, counts, walk}
use Rattle.record.specs.Read.{kind_of, NoKind, ShortBody, BytesAfter, SpareBit, Missing, Several}
use Rattle.record.specs.Rises.{falls, falls_of}
use Rattle.record.specs.Checked.{Readable, Refuses}
use Rattle.record.specs.declared.Refusal.{Refusal}
use Rattle.record.specs.declared.Refusal.TheVariants.{MissingRun, SeveralRuns}
use Rattle.judging.specs.declared.Tally.{Tally}
use Rattle.judging.specs.declared.Judged.{Judged}

-- a record of n rooms that passes 9, 10, 11 and 14
pub record Body (bytes : List ℕ) (n : ℕ) : Type 0 where
  pub kind : n ≡ kind_of bytes
  pub some : 1 ≤ n
  pub few : n ≤ 255
  pub has_kind : ¬ NoKind bytes
  pub long : ¬ ShortBody bytes
  pub short : ¬ BytesAfter bytes
  pub spare : ¬ SpareBit bytes

abbrev pub BodyChecked : Result ℕ Refusal → List ℕ → Type 0
BodyChecked (Ok n) bytes = Body bytes n
BodyChecked (Err refusal) bytes = Refuses bytes refusal

-- no bit is set from this one on
abbrev pub Clear : List ℕ → ℕ → Type 0
Clear bytes from = (i : ℕ) → from ≤ i → bit_at bytes i ≡ false

-- 12 or 13, with its cause
pub data EndRefuses (end : Counts) : Refusal → Type 0 where
  missing_run : Missing end → EndRefuses end MissingRun
  several_runs : ¬ Missing end → Several end → EndRefuses end SeveralRuns

abbrev pub EndChecked : Result ℕ Refusal → Counts → (n : ℕ) → Type 0
EndChecked (Ok m) end n = (m ≡ n) × (¬ Missing end) × (¬ Several end)
EndChecked (Err refusal) end n = EndRefuses end refusal

-- the end of the walk, and the falls; none where it lacks a run
abbrev pub Tallied : (ℕ → Triple) → (n : ℕ) → Option Tally → Type 0
Tallied triples n (Some tally) = (walk triples (n - 1) ≡ counts tally.runs.below tally.runs.above) × (tally.falls ≡ falls triples n)
Tallied triples n None = walk triples (n - 1) ≡ missing

-- an accepted record: its rooms and its falls
pub record Accepts (bytes : List ℕ) (rooms fallen : ℕ) : Type 0 where
  pub readable : Readable bytes
  pub rooms_are : rooms ≡ kind_of bytes
  pub few : rooms ≤ 255
  pub falls_are : fallen ≡ falls_of bytes

abbrev pub Judges : Result Judged Refusal → List ℕ → Type 0
Judges (Ok judged) bytes = Accepts bytes judged.rooms judged.falls
Judges (Err refusal) bytes = Refuses bytes refusal
