-- A row of moves: it leads from one state to another, or its first refused move stops it. What the replay gives is exactly this.
use Rattle.std.specs.Prelude.{List, [], ◌∷◌, ◌↔◌, ◌≡◌, ℕ, suc, ◌+◌, ◌≤◌, length, take}
use Rattle.std.proofs.Math.Path.{refl, ap}
use Rattle.std.proofs.Common.{sym, subst, ◌∙◌, arith}
use Rattle.record.specs.Triple.{Triple}
use Rattle.record.specs.declared.Refusal.{Refusal}
use Rattle.traces.specs.Move.{Move}
use Rattle.traces.specs.Replay.{Outcome, refused, next, after, Replay, ended, stopped, follow, replay_from, replay, states_from}
use Rattle.traces.specs.Cause.{Refuses, Makes, Caused, caused, refuses_after, makes_after}
use Rattle.traces.specs.Row.{Leads, Stops, here, later, more, none}

-- ---- one turn of the replay
module _ (move : Move) (moves : List Move) (present : List Triple) (done : ℕ) where
  abbrev turn : Outcome → Replay
  turn outcome = follow outcome (λ refusal. stopped refusal (suc done) present) (λ state. replay_from state (suc done) moves)

  pub replay_next : {state : List Triple} → Makes move present state
      → replay_from present done (move ∷ moves) ≡ replay_from state (suc done) moves
  unfolding replay_from
  replay_next m = ap turn (makes_after m)

  pub replay_refused : {refusal : Refusal} → Refuses move present refusal
      → replay_from present done (move ∷ moves) ≡ stopped refusal (suc done) present
  unfolding replay_from
  replay_refused r = ap turn (refuses_after r)

module _ (move : Move) (moves : List Move) (present : List Triple) where
  abbrev states : Outcome → List (List Triple)
  states outcome = follow outcome (λ refusal. []) (λ state. state ∷ states_from state moves)

  pub states_next : {state : List Triple} → Makes move present state → states_from present (move ∷ moves) ≡ state ∷ states_from state moves
  unfolding states_from
  states_next m = ap states (makes_after m)

  pub states_refused : {refusal : Refusal} → Refuses move present refusal → states_from present (move ∷ moves) ≡ []
  unfolding states_from
  states_refused r = ap states (refuses_after r)

-- ---- what a replay says of its row
abbrev Says : List Triple → (done : ℕ) → List Move → Replay → Type 0
Says present done moves (ended count end) = (count ≡ done + length moves) × Leads present moves end
Says present done moves (stopped refusal ordinal before) = (k : ℕ) × (ordinal ≡ suc (done + k)) × Stops present moves refusal (suc k) before

says : (present : List Triple) (done : ℕ) (moves : List Move) → Says present done moves (replay_from present done moves)
unfolding replay_from
says present done [] = (omega arith, none)
says present done (move ∷ moves) = go (after move present) (caused move present) (λ state. says state (suc done) moves)
  where
    on : {state : List Triple} (r : Replay) → Makes move present state → Says state (suc done) moves r → Says present done (move ∷ moves) r
    on (ended count end) m (e, l) = (omega arith, more m l)
    on (stopped refusal ordinal before) m (k, e, s) = (suc k, omega arith, later m s)

    go : (o : Outcome) → Caused move present o
        → ((state : List Triple) → Says state (suc done) moves (replay_from state (suc done) moves))
        → Says present done (move ∷ moves) (turn move moves present done o)
    go (refused refusal) r rest = (0, omega arith, here r)
    go (next state) m rest = on (replay_from state (suc done) moves) m (rest state)

leads_replay : (done : ℕ) {present end : List Triple} {moves : List Move} → Leads present moves end
    → replay_from present done moves ≡ ended (done + length moves) end
unfolding replay_from
leads_replay done {end = end} none = let e : done ≡ done + 0 = omega arith in ap (λ (k : ℕ). ended k end) e
leads_replay done {present} {end} (more {move} {moves} m l) =
    let e : suc done + length moves ≡ done + suc (length moves) = omega arith in
    replay_next move moves present done m ∙ leads_replay (suc done) l ∙ ap (λ (k : ℕ). ended k end) e

stops_replay : (done : ℕ) {present before : List Triple} {moves : List Move} {refusal : Refusal} {ordinal : ℕ}
    → Stops present moves refusal ordinal before → replay_from present done moves ≡ stopped refusal (done + ordinal) before
stops_replay done {present} {refusal = refusal} (here {move} {moves} r) =
    let e : suc done ≡ done + 1 = omega arith in
    replay_refused move moves present done r ∙ ap (λ (k : ℕ). stopped refusal k present) e
stops_replay done {present} {before} {refusal = refusal} (later {move} {moves} {k = k} m s) =
    let e : suc done + suc k ≡ done + suc (suc k) = omega arith in
    replay_next move moves present done m ∙ stops_replay (suc done) s ∙ ap (λ (k : ℕ). stopped refusal k before) e

-- a replay ends exactly if no move is refused
pub ended_iff_leads : (moves : List Move) (count : ℕ) (end : List Triple)
    → (replay moves ≡ ended count end) ↔ ((count ≡ length moves) × Leads [] moves end)
ended_iff_leads moves count end = (to, from)
  where
    to : replay moves ≡ ended count end → (count ≡ length moves) × Leads [] moves end
    to e = let s : Says [] 0 moves (ended count end) = subst (Says [] 0 moves) e (says [] 0 moves) in (omega (arith, s.0), s.1)

    from : (count ≡ length moves) × Leads [] moves end → replay moves ≡ ended count end
    from (e, l) = let d : 0 + length moves ≡ count = omega arith in leads_replay 0 l ∙ ap (λ (k : ℕ). ended k end) d

-- it is stopped exactly by the first refused move
pub stopped_iff_stops : (moves : List Move) (refusal : Refusal) (ordinal : ℕ) (before : List Triple)
    → (replay moves ≡ stopped refusal ordinal before) ↔ Stops [] moves refusal ordinal before
stopped_iff_stops moves refusal ordinal before = (λ e. go (subst (Says [] 0 moves) e (says [] 0 moves)), from)
  where
    go : Says [] 0 moves (stopped refusal ordinal before) → Stops [] moves refusal ordinal before
    go (k, e, s) = let d : suc k ≡ ordinal = omega arith in subst (λ (j : ℕ). Stops [] moves refusal j before) d s

    from : Stops [] moves refusal ordinal before → replay moves ≡ stopped refusal ordinal before
    from s = let d : 0 + ordinal ≡ ordinal = omega arith in stops_replay 0 s ∙ ap (λ (k : ℕ). stopped refusal k before) d

-- a row without a refused move has one state a move
pub leads_states : {present end : List Triple} {moves : List Move} → Leads present moves end
    → length (states_from present moves) ≡ length moves
leads_states none = unfold states_from in refl
leads_states {present} (more {move} {moves} m l) = ap length (states_next move moves present m) ∙ ap suc (leads_states l)

-- before its first refused move a row goes as one that is cut there
pub cut_at_refused : {present before : List Triple} {moves : List Move} {refusal : Refusal} {k : ℕ}
    → Stops present moves refusal (suc k) before
    → Leads present (take k moves) before × (states_from present moves ≡ states_from present (take k moves))
cut_at_refused {present} (here {move} {moves} r) = (none, states_refused move moves present r ∙ (unfold states_from in refl))
cut_at_refused {present} (later {move} {moves} {state = state} {k = k} m s) =
    let cut = cut_at_refused s in
    let same = states_next move moves present m ∙ ap (λ (l : List (List Triple)). state ∷ l) cut.1 in
    (more m cut.0, same ∙ sym (states_next move (take k moves) present m))

-- the ordinal of a refused move is at most the number of moves
pub stops_within : {present before : List Triple} {moves : List Move} {refusal : Refusal} {ordinal : ℕ}
    → Stops present moves refusal ordinal before → ordinal ≤ length moves
stops_within (here r) = omega arith
stops_within (later m s) = omega (arith, stops_within s)
