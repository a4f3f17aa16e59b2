-- What the walk forward leaves where no run is missing: of each position its triple by number, the lower labels of its run, and the
-- newest positions in the runs next to its label.
use Rattle.std.specs.Prelude.{List, ℕ, Option, Some, None}
use Rattle.record.specs.Triple.{Triple}
use Rattle.record.specs.Way.{up, down}
use Rattle.steps.specs.Passes.{Unpacked, Lowers, Starts}
use Rattle.steps.specs.declared.Notes.{Notes}
use Rattle.steps.specs.declared.Runs.{Runs}

abbrev pub Noted : Option Runs → (ℕ → Triple) → (n : ℕ) → Notes → (left bottom : List ℕ) → Type 0
Noted (Some runs) triples n notes left bottom =
    Unpacked triples n notes.triples × Lowers triples n notes.lower
    × Starts down triples n left × Starts up triples n bottom
Noted None triples n notes left bottom = Unit
