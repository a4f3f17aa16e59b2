-- What the replay of a trace's bytes answers, and what the slice of states then holds. "A trace over 65,535 bytes gets 21. 21 comes before
-- all moves, and 15 is judged after the last move; 21 and 15 return the number alone."
use Rattle.std.specs.Prelude.{List, [], ◌++◌, map, ◌≡◌, ℕ, length, drop, Result, Ok, Err}
use Rattle.std.proofs.Math.Logic.{ite}
use Rattle.std.proofs.Math.Decide.{dec_lt}
use Rattle.record.specs.declared.Refusal.TheVariants.{TooLong, ShortOutput}
use Rattle.traces.specs.Move.{moves_of}
use Rattle.traces.specs.State.{rooms_of, runs_of, entry_of}
use Rattle.traces.specs.Replay.{Replay, ended, stopped, replay, states_from}
use Rattle.traces.specs.declared.Replayed.{Replayed}
use Rattle.traces.specs.declared.TraceError.{TraceError}
use Rattle.traces.specs.declared.TraceError.TheVariants.{RefusedMove, Refused}

abbrev pub TraceAnswer : Type 0
TraceAnswer = Result Replayed TraceError

abbrev pub replayed_to : (moves rooms runs : ℕ) → TraceAnswer
replayed_to moves rooms runs = Ok (record { moves = moves; rooms = rooms; runs = runs })

-- "An accepted trace returns the count of its moves and the final rooms and runs", if the slice has a place for each move
abbrev pub replay_answer : Replay → (capacity : ℕ) → TraceAnswer
replay_answer (stopped refusal ordinal before) capacity = Err (RefusedMove refusal ordinal (rooms_of before) (runs_of before))
replay_answer (ended moves end) capacity =
    ite (dec_lt capacity moves) (Err (Refused ShortOutput)) (replayed_to moves (rooms_of end) (runs_of end))

-- the answer for the bytes of a trace and a slice of so many states
abbrev pub trace_answer : List ℕ → (capacity : ℕ) → TraceAnswer
trace_answer bytes capacity =
    ite (dec_lt 65535 (length bytes)) (Err (Refused TooLong)) (replay_answer (replay (moves_of bytes)) capacity)

-- "After each move give the rooms and runs, in an output slice with one entry a move"
abbrev pub entries_of : List ℕ → List ℕ
entries_of bytes = map entry_of (states_from [] (moves_of bytes))

-- "filled only if the whole trace is accepted": the slice after an answer, where it held `before`
abbrev pub states_after : TraceAnswer → (bytes before : List ℕ) → List ℕ
states_after (Ok replayed) bytes before = entries_of bytes ++ drop replayed.moves before
states_after (Err error) bytes before = before

-- what the call answers for a trace and a slice that held `before`, and what the slice holds then
pub record Traced (bytes before : List ℕ) (answer : TraceAnswer) (after : List ℕ) : Type 0 where
  pub answered : answer ≡ trace_answer bytes (length before)
  pub left : after ≡ states_after answer bytes before
