-- A move is refused exactly for its cause, and without the causes that the order names before it; else it makes another state.
use Rattle.std.specs.Prelude.{List, [], ◌∷◌, ◌≡◌, refl, ◌<◌}
use Rattle.std.proofs.Math.Logic.{ite, if_pos, if_neg}
use Rattle.std.proofs.Common.{◌∙◌}
use Rattle.std.proofs.Math.Decide.{dec_lt}
use Rattle.record.specs.Triple.{Triple}
use Rattle.record.specs.Read.{Missing, Several}
use Rattle.record.specs.Checked.{dec_missing, dec_several}
use Rattle.record.specs.declared.Refusal.{Refusal}
use Rattle.record.specs.declared.Refusal.TheVariants.{Count, MissingRun, SeveralRuns, BadMove, OnlyRoom}
use Rattle.traces.specs.Move.{Move, add, take_away, claim, unknown}
use Rattle.traces.specs.State.{rooms_of, counts_of}
use Rattle.traces.specs.Replay.{Outcome, refused, next, after}

-- "a room past 255"
abbrev pub Past255 : List Triple → Type 0
Past255 state = 255 < rooms_of state

-- a move is refused in a state
pub data Refuses : Move → List Triple → Refusal → Type 0 where
  bad_move : {present : List Triple} → Refuses unknown present BadMove
  past_255 : {t : Triple} {present : List Triple} → Past255 (t ∷ present) → Refuses (add t) present Count
  missing_run : {t : Triple} {present : List Triple} → ¬ Past255 (t ∷ present) → Missing (counts_of (t ∷ present))
      → Refuses (add t) present MissingRun
  only_room : Refuses take_away [] OnlyRoom
  several_runs : {present : List Triple} → Several (counts_of present) → Refuses claim present SeveralRuns

-- what a move makes of a state where it is not refused
pub data Makes : Move → List Triple → List Triple → Type 0 where
  added : {t : Triple} {present : List Triple} → ¬ Past255 (t ∷ present) → ¬ Missing (counts_of (t ∷ present))
      → Makes (add t) present (t ∷ present)
  taken : {t : Triple} {present : List Triple} → Makes take_away (t ∷ present) present
  claimed : {present : List Triple} → ¬ Several (counts_of present) → Makes claim present present

-- an outcome with its cause
abbrev pub Caused : Move → List Triple → Outcome → Type 0
Caused move present (refused refusal) = Refuses move present refusal
Caused move present (next state) = Makes move present state

pub caused : (move : Move) (present : List Triple) → Caused move present (after move present)
unfolding after
caused unknown present = bad_move
caused (add t) present = go (dec_lt 255 (rooms_of (t ∷ present))) (dec_missing (counts_of (t ∷ present)))
  where
    go : (d : Dec (Past255 (t ∷ present))) (e : Dec (Missing (counts_of (t ∷ present))))
        → Caused (add t) present (ite d (refused Count) (ite e (refused MissingRun) (next (t ∷ present))))
    go (yes d) e = past_255 d
    go (no d) (yes e) = missing_run d e
    go (no d) (no e) = added d e
caused take_away [] = only_room
caused take_away (t ∷ present) = taken
caused claim present = go (dec_several (counts_of present))
  where
    go : (d : Dec (Several (counts_of present))) → Caused claim present (ite d (refused SeveralRuns) (next present))
    go (yes d) = several_runs d
    go (no d) = claimed d

pub refuses_after : {move : Move} {present : List Triple} {refusal : Refusal} → Refuses move present refusal
    → after move present ≡ refused refusal
unfolding after
refuses_after bad_move = refl
refuses_after (past_255 {t} {present} d) = if_pos (dec_lt 255 (rooms_of (t ∷ present))) d _ _
refuses_after (missing_run {t} {present} d e) =
    if_neg (dec_lt 255 (rooms_of (t ∷ present))) d _ _ ∙ if_pos (dec_missing (counts_of (t ∷ present))) e _ _
refuses_after only_room = refl
refuses_after (several_runs {present} d) = if_pos (dec_several (counts_of present)) d _ _

pub makes_after : {move : Move} {present state : List Triple} → Makes move present state → after move present ≡ next state
unfolding after
makes_after (added {t} {present} d e) =
    if_neg (dec_lt 255 (rooms_of (t ∷ present))) d _ _ ∙ if_neg (dec_missing (counts_of (t ∷ present))) e _ _
makes_after taken = refl
makes_after (claimed {present} d) = if_neg (dec_several (counts_of present)) d _ _
