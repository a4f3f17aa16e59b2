-- How large the numbers of an answer can be: a count of moves and an ordinal have 16 bits, rooms and runs have 8.
use Rattle.std.specs.Prelude.{◌≤◌, Ok, Err}
use Rattle.traces.specs.declared.TraceError.TheVariants.{RefusedMove, Refused}
use Rattle.traces.specs.Answer.{TraceAnswer}

abbrev pub TraceFits : TraceAnswer → Type 0
TraceFits (Ok replayed) = (replayed.moves ≤ 65535) × (replayed.rooms ≤ 255) × (replayed.runs ≤ 255)
TraceFits (Err (RefusedMove refusal ordinal rooms runs)) = (ordinal ≤ 65535) × (rooms ≤ 255) × (runs ≤ 255)
TraceFits (Err (Refused refusal)) = Unit
