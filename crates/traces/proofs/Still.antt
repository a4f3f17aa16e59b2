-- The triples still present after a row of moves, and that adding these alone leads to the same state.
use Rattle.std.specs.Prelude.{List, [], ◌∷◌, ◌++◌, ◌≡◌, refl, ℕ, suc, ◌+◌, ◌≤◌, ◌<◌, length}
use Rattle.std.proofs.Common.{sym, ap, subst, ◌∙◌, arith}
use Rattle.record.specs.Triple.{Triple}
use Rattle.record.specs.Walk.{Counts, missing, counts, walk}
use Rattle.record.specs.Read.{Missing}
use Rattle.record.specs.declared.Refusal.{Refusal}
use Rattle.traces.specs.Move.{Move, add, take_away, claim, unknown}
use Rattle.traces.specs.State.{rooms_of, counts_of, runs_in, runs_of}
use Rattle.traces.specs.Newest.{runs_few}
use Rattle.traces.specs.Cause.{Makes, added, taken, claimed}
use Rattle.traces.specs.Row.{Leads, none, more, Stops, here, later}
use Rattle.traces.specs.Still.{Built, grown, start}

-- the newest first, and whatever is refused
abbrev pub still_present : List Triple → List Move → List Triple
still_present present [] = present
still_present present (add t ∷ moves) = still_present (t ∷ present) moves
still_present [] (take_away ∷ moves) = still_present [] moves
still_present (t ∷ present) (take_away ∷ moves) = still_present present moves
still_present present (claim ∷ moves) = still_present present moves
still_present present (unknown ∷ moves) = still_present present moves

pub still_there : {present end : List Triple} {moves : List Move} → Leads present moves end → end ≡ still_present present moves
still_there none = refl
still_there (more (added d e) l) = still_there l
still_there (more taken l) = still_there l
still_there (more (claimed d) l) = still_there l

-- the moves that add the triples of a state, from its oldest
abbrev pub adds_of : List Triple → List Move
adds_of [] = []
adds_of (t ∷ present) = adds_of present ++ (add t ∷ [])

pub length_adds : (present : List Triple) → length (adds_of present) ≡ length present
length_adds [] = refl
length_adds (t ∷ present) = length_one_more (adds_of present) (add t) ∙ ap suc (length_adds present)
  where
    length_one_more : (moves : List Move) (move : Move) → length (moves ++ (move ∷ [])) ≡ suc (length moves)
    length_one_more [] move = refl
    length_one_more (n ∷ moves) move = ap suc (length_one_more moves move)

pub built_there : {present : List Triple} → Built present → ¬ Missing (counts_of present)
built_there start = unfold counts_of walk in λ z. z
built_there (grown d e b) = e

pub built_few : {present : List Triple} → Built present → rooms_of present ≤ 255
built_few start = omega arith
built_few (grown {t} {present} d e b) = omega arith

-- it has counts, which are fewer than its rooms
pub record Counted (present : List Triple) : Type 0 where
  pub below : ℕ
  pub above : ℕ
  pub are : counts_of present ≡ counts below above
  pub few : below + above < rooms_of present

pub counted : {present : List Triple} → Built present → Counted present
counted {present} b = go (counts_of present) refl
  where
    go : (c : Counts) → counts_of present ≡ c → Counted present
    go missing e = absurd (built_there b (subst Missing (sym e) tt))
    go (counts p q) e = record { below = p; above = q; are = e; few = runs_few present p q e }

pub built_runs : {present : List Triple} → Built present → runs_of present ≤ rooms_of present
built_runs b = let c = counted b in omega (arith, ap runs_in c.are, c.few)

pub built_on : {move : Move} {present state : List Triple} → Makes move present state → Built present → Built state
built_on (added d e) b = grown d e b
built_on taken (grown d e b) = b
built_on (claimed d) b = b

pub leads_built : {present end : List Triple} {moves : List Move} → Leads present moves end → Built present → Built end
leads_built none b = b
leads_built (more m l) b = leads_built l (built_on m b)

leads_one_more : {present state end : List Triple} {moves : List Move} {move : Move} → Leads present moves state → Makes move state end
    → Leads present (moves ++ (move ∷ [])) end
leads_one_more none m = more m none
leads_one_more (more n l) m = more n (leads_one_more l m)

pub built_leads : {end : List Triple} → Built end → Leads [] (adds_of end) end
built_leads start = none
built_leads (grown d e b) = leads_one_more (built_leads b) (added d e)

pub stops_built : {present before : List Triple} {moves : List Move} {refusal : Refusal} {ordinal : ℕ}
    → Stops present moves refusal ordinal before → Built present → Built before
stops_built (here r) b = b
stops_built (later m s) b = stops_built s (built_on m b)
