-- The verdict on a label list: "labels 1, 6, 7, 8". The room for a record plays no part in it.
use Rattle.std.specs.Prelude.{Result, Ok, Err, List, ℕ}
use Rattle.record.specs.Judged.{judged}
use Rattle.record.specs.declared.Refusal.{Refusal}

-- the first refusal of the order, or that there is none
abbrev pub verdict_of : (labels : List ℕ) → Result (Unit {0}) Refusal
verdict_of labels = judged Err labels (Ok tt)
