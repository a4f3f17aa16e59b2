-- A row of moves: it leads from one state to another, or its first refused move stops it.
use Rattle.std.specs.Prelude.{List, [], ◌∷◌, ℕ, suc}
use Rattle.record.specs.Triple.{Triple}
use Rattle.record.specs.declared.Refusal.{Refusal}
use Rattle.traces.specs.Move.{Move}
use Rattle.traces.specs.Cause.{Refuses, Makes}

-- no move of the row is refused, and they lead from one state to another
pub data Leads : List Triple → List Move → List Triple → Type 0 where
  none : {present : List Triple} → Leads present [] present
  more : {move : Move} {moves : List Move} {present state end : List Triple} → Makes move present state → Leads state moves end
      → Leads present (move ∷ moves) end

-- from the start no move is refused
abbrev pub NoneRefused : List Move → Type 0
NoneRefused moves = (end : List Triple) × Leads [] moves end

-- the first refused move of the row: why, its ordinal from 1, and the state before it
pub data Stops : List Triple → List Move → Refusal → (ordinal : ℕ) → List Triple → Type 0 where
  here : {move : Move} {moves : List Move} {present : List Triple} {refusal : Refusal} → Refuses move present refusal
      → Stops present (move ∷ moves) refusal 1 present
  later : {move : Move} {moves : List Move} {present state before : List Triple} {refusal : Refusal} {k : ℕ} → Makes move present state
      → Stops state moves refusal (suc k) before → Stops present (move ∷ moves) refusal (suc (suc k)) before
