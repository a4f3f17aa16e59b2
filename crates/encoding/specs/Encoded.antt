-- What the functions of this crate say to one another.
use Rattle.std.specs.Prelude.{Bool, true, false, List, ◌⊎◌, ◌≡◌, ℕ, ◌<◌, length, take}
use Rattle.record.specs.Barred.{Baxter}
use Rattle.record.specs.Record.{record_of}

-- on some side a label is past the nearest run, of which `below` or `above` is a label
abbrev pub PastRuns : (label below above : ℕ) → Type 0
PastRuns label below above = (label < below) ⊎ (above < label)

-- the list is Baxter, and its record stands at the front of the 97 bytes that were written; or it is not Baxter
abbrev pub Encoded : Bool → (labels written : List ℕ) → Type 0
Encoded true labels written = Baxter labels × (length written ≡ 97) × (take (length (record_of labels)) written ≡ record_of labels)
Encoded false labels written = ¬ Baxter labels
