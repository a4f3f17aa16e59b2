-- What one move makes of the numbers, told of the state that they stand for.
use Rattle.std.specs.Prelude.{List, [], ◌∷◌, ◌≡◌, ℕ, zero, suc, ◌+◌, ◌≤◌, ◌<◌, length, get_or, drop, Result, Ok, Err}
use Rattle.record.specs.Triple.{Triple}
use Rattle.record.specs.declared.Refusal.{Refusal}
use Rattle.traces.specs.Move.{Move, add, take_away, claim, moves_of}
use Rattle.traces.specs.State.{rooms_of, counts_of}
use Rattle.traces.specs.Cause.{Refuses, Makes}
use Rattle.traces.specs.Still.{Built}
use Rattle.replaying.specs.Packed.{packed}
use Rattle.replaying.specs.declared.Turn.{Turn}
use Rattle.replaying.specs.declared.Turn.TheVariants.{Added, Back}
use Rattle.replaying.specs.declared.Plan.{Plan}

abbrev pub packed_of : List Triple → ℕ
packed_of present = packed (counts_of present)

-- a plan stands for a state
pub record Stands (present : List Triple) (plan : Plan) : Type 0 where
  pub built : Built present
  pub rooms_are : plan.rooms ≡ rooms_of present
  pub counts_are : plan.counts ≡ packed_of present

-- a value of each state to which taking rooms away leads back is kept, by the number of rooms
abbrev pub Below : (List Triple → ℕ) → List Triple → List ℕ → Type 0
Below value [] kept = Unit
Below value (t ∷ present) kept = (get_or kept (rooms_of present) 0 ≡ value present) × Below value present kept

-- and of the state itself
abbrev pub Kept : (List Triple → ℕ) → List Triple → List ℕ → Type 0
Kept value present kept = (get_or kept (rooms_of present) 0 ≡ value present) × Below value present kept

-- the numbers of any state fit these
abbrev pub Fits : Plan → Type 0
Fits plan = (1 ≤ plan.rooms) × (plan.rooms ≤ 255) × (257 ≤ plan.counts) × (plan.counts ≤ 65535)

-- a room is added
abbrev pub AddTurn : Triple → Plan → Result Plan Refusal → Type 0
AddTurn t plan (Ok next) =
    (present : List Triple) → Stands present plan → Makes (add t) present (t ∷ present) × Stands (t ∷ present) next
AddTurn t plan (Err refusal) = (present : List Triple) → Stands present plan → Refuses (add t) present refusal

-- the move of kind 2, and that of kind 3
abbrev pub back_move : ℕ → Move
back_move zero = claim
back_move (suc zero) = claim
back_move (suc (suc zero)) = take_away
back_move (suc (suc (suc kind))) = claim

-- the state to which such a move goes back
pub record GoesBack (kind : ℕ) (present : List Triple) (kept : List ℕ) (plan : Plan) : Type 0 where
  pub state : List Triple
  pub makes : Makes (back_move kind) present state
  pub stands : Stands state plan
  pub kept_are : Kept packed_of state kept

abbrev pub Backed : (kind : ℕ) → List Triple → (kept : List ℕ) → Result Plan Refusal → Type 0
Backed kind present kept (Ok next) = GoesBack kind present kept next
Backed kind present kept (Err refusal) = Refuses (back_move kind) present refusal

abbrev pub BackTurn : (kind : ℕ) → Plan → (kept : List ℕ) → Result Plan Refusal → Type 0
BackTurn kind plan kept turn =
    (present : List Triple) → Built present → plan.rooms ≡ rooms_of present → Kept packed_of present kept → Backed kind present kept turn

-- the move at a place makes another state, and the next one is at another place
pub record Goes (bytes : List ℕ) (at : ℕ) (present : List Triple) (place : ℕ) (state : List Triple) : Type 0 where
  pub move : Move
  pub ahead : at < place
  pub within : place ≤ length bytes
  pub begins : moves_of (drop at bytes) ≡ move ∷ moves_of (drop place bytes)
  pub makes : Makes move present state

-- the move at a place is refused
pub record Halts (bytes : List ℕ) (at : ℕ) (present : List Triple) (refusal : Refusal) : Type 0 where
  pub move : Move
  pub rest : List Move
  pub begins : moves_of (drop at bytes) ≡ move ∷ rest
  pub refuses : Refuses move present refusal

-- where a room is added its counts are not kept yet
abbrev pub Turned : (bytes : List ℕ) (at : ℕ) → List Triple → (kept : List ℕ) → Result Turn Refusal → Type 0
Turned bytes at present kept (Ok (Added next)) =
    (t : Triple) × Goes bytes at present (at + 2) (t ∷ present) × Stands (t ∷ present) next
Turned bytes at present kept (Ok (Back next)) =
    (state : List Triple) × Goes bytes at present (at + 1) state × Stands state next × Kept packed_of state kept
Turned bytes at present kept (Err refusal) = Halts bytes at present refusal

abbrev pub MoveTurn : (bytes : List ℕ) (at : ℕ) → Plan → (kept : List ℕ) → Result Turn Refusal → Type 0
MoveTurn bytes at plan kept turn =
    (present : List Triple) → Stands present plan → Kept packed_of present kept → Turned bytes at present kept turn
