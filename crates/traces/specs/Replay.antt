-- The replay of a row of moves. "The first refused move ends the replay. Its number, its ordinal, from 1, and the rooms and runs before it
-- are returned. A room past 255 gets 1, and 12 and 13 keep their meaning. 28 for an unknown kind, a missing body or a triple above 7, 29
-- for taking away the only room; per move 28 comes first, then 1 or 29, then 12 or 13."
use Rattle.std.specs.Prelude.{List, [], ◌∷◌, ℕ, suc}
use Rattle.std.proofs.Math.Logic.{ite}
use Rattle.std.proofs.Math.Decide.{dec_lt}
use Rattle.record.specs.Triple.{Triple}
use Rattle.record.specs.Checked.{dec_missing, dec_several}
use Rattle.record.specs.declared.Refusal.{Refusal}
use Rattle.record.specs.declared.Refusal.TheVariants.{Count, MissingRun, SeveralRuns, BadMove, OnlyRoom}
use Rattle.traces.specs.Move.{Move, add, take_away, claim, unknown}
use Rattle.traces.specs.State.{rooms_of, counts_of}

-- what a move makes of a state: the next one, or why it is refused
pub data Outcome : Type 0 where
  refused : Refusal → Outcome
  next : List Triple → Outcome

unfoldable pub after : Move → List Triple → Outcome
unfolding dec_missing dec_several dec_lt
after unknown present = refused BadMove
after (add t) present =
    ite (dec_lt 255 (rooms_of (t ∷ present))) (refused Count)
    (ite (dec_missing (counts_of (t ∷ present))) (refused MissingRun)
    (next (t ∷ present)))
after take_away [] = refused OnlyRoom
after take_away (newest ∷ present) = next present
after claim present = ite (dec_several (counts_of present)) (refused SeveralRuns) (next present)

-- a replay ends after so many moves in a state, or the move of an ordinal stops it in the state before it
pub data Replay : Type 0 where
  ended : (moves : ℕ) → List Triple → Replay
  stopped : Refusal → (ordinal : ℕ) → List Triple → Replay

-- one thing follows from a refusal, another from the next state
abbrev pub follow : {A : Type 0} → Outcome → (Refusal → A) → (List Triple → A) → A
follow (refused refusal) stop go = stop refusal
follow (next state) stop go = go state

-- the moves after the first `done`, which have led to this state
unfoldable pub replay_from : List Triple → (done : ℕ) → List Move → Replay
unfolding after
replay_from present done [] = ended done present
replay_from present done (move ∷ moves) =
    follow (after move present) (λ refusal. stopped refusal (suc done) present) (λ state. replay_from state (suc done) moves)

-- "a plan that starts with one room"
abbrev pub replay : List Move → Replay
replay moves = replay_from [] 0 moves

-- the state after each move, as far as none is refused
unfoldable pub states_from : List Triple → List Move → List (List Triple)
unfolding after
states_from present [] = []
states_from present (move ∷ moves) = follow (after move present) (λ refusal. []) (λ state. state ∷ states_from state moves)
