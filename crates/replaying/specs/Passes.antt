-- What the first pass over a trace comes to, and what the second one leaves.
use Rattle.std.specs.Prelude.{List, ◌++◌, ℕ, length, drop, Err}
use Rattle.traces.specs.Move.{moves_of}
use Rattle.traces.specs.State.{rooms_of, runs_of}
use Rattle.traces.specs.Replay.{Replay, ended, stopped}
use Rattle.traces.specs.declared.TraceError.TheVariants.{RefusedMove}
use Rattle.traces.specs.Answer.{TraceAnswer, replayed_to, entries_of}

abbrev pub judged_of : Replay → TraceAnswer
judged_of (ended moves end) = replayed_to moves (rooms_of end) (runs_of end)
judged_of (stopped refusal ordinal before) = Err (RefusedMove refusal ordinal (rooms_of before) (runs_of before))

-- the entries of a trace from the front of a slice, and the rest of it as it was
abbrev pub filled_by : (bytes before : List ℕ) → List ℕ
filled_by bytes before = entries_of bytes ++ drop (length (moves_of bytes)) before
