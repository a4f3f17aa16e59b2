-- A trace that adds the triples of a record, each in its turn: it goes along the record's walk, and a run that is missing there stops it.
use Rattle.std.specs.Prelude.{List, [], ◌∷◌, ◌++◌, ◌≡◌, ℕ, zero, suc, ◌-◌, ◌*◌, ◌≤◌, length}
use Rattle.std.proofs.Math.Path.{refl}
use Rattle.std.proofs.Common.{sym, ap, subst, ◌∙◌, arith}
use Rattle.record.specs.Triple.{Triple}
use Rattle.record.specs.Walk.{Counts, missing, counts, step, and_then, walk}
use Rattle.record.specs.Record.{triple_in}
use Rattle.record.specs.Read.{kind_of, body_of, Missing}
use Rattle.record.specs.Checked.{dec_missing}
use Rattle.record.specs.declared.Refusal.{Refusal}
use Rattle.record.specs.declared.Refusal.TheVariants.{MissingRun}
use Rattle.traces.specs.Move.{Move, add, moves_of}
use Rattle.traces.specs.State.{counts_of}
use Rattle.traces.specs.Newest.{counts_add}
use Rattle.traces.specs.Cause.{Past255, Refuses, missing_run}
use Rattle.traces.specs.Row.{Leads, none, more, Stops, here, later}
use Rattle.traces.specs.Still.{Built, start, grown}
use Rattle.traces.proofs.Still.{adds_of, length_adds, built_leads}
use Rattle.traces.specs.Bytes.{bytes_of, Known, moves_of_bytes}

-- the triples of positions 2 to k + 1, the newest first
abbrev pub first_triples : (ℕ → Triple) → (k : ℕ) → List Triple
first_triples t zero = []
first_triples t (suc k) = t (suc (suc k)) ∷ first_triples t k

-- the triples of a record, and the trace that adds them
abbrev pub triples_of : List ℕ → List Triple
triples_of bytes = first_triples (triple_in (body_of bytes)) (kind_of bytes - 1)

abbrev pub trace_of : List ℕ → List ℕ
trace_of bytes = bytes_of (adds_of (triples_of bytes))

pub length_first : (t : ℕ → Triple) (k : ℕ) → length (first_triples t k) ≡ k
length_first t zero = refl
length_first t (suc k) = ap suc (length_first t k)

pub counts_first : (t : ℕ → Triple) (k : ℕ) → counts_of (first_triples t k) ≡ walk t k
unfolding walk
counts_first t zero = unfold counts_of walk in refl
counts_first t (suc k) =
    counts_add (t (suc (suc k))) (first_triples t k) ∙ ap (λ (c : Counts). and_then c (step (t (suc (suc k))))) (counts_first t k)

-- ---- no run is missing
there_before : (c : Counts) (on : ℕ → ℕ → Counts) → ¬ Missing (and_then c on) → ¬ Missing c
there_before missing on h = h
there_before (counts p q) on h = λ z. z

few_first : (t : ℕ → Triple) (k : ℕ) → suc k ≤ 254 → ¬ Past255 (first_triples t (suc k))
few_first t k few = omega (arith, length_first t k)

built_first : (t : ℕ → Triple) (k : ℕ) → k ≤ 254 → ¬ Missing (walk t k) → Built (first_triples t k)
unfolding walk
built_first t zero few h = start
built_first t (suc k) few h =
    grown {t = t (suc (suc k))} {present = first_triples t k} (few_first t k few) (λ m. h (subst Missing (counts_first t (suc k)) m))
    (built_first t k (omega arith) (there_before (walk t k) (step (t (suc (suc k)))) h))

pub leads_first : (t : ℕ → Triple) (k : ℕ) → k ≤ 254 → ¬ Missing (walk t k) → Leads [] (adds_of (first_triples t k)) (first_triples t k)
leads_first t k few h = built_leads (built_first t k few h)

-- ---- one is
abbrev Lacks : List Move → Type 0
Lacks moves = (ordinal : ℕ) × (before : List Triple) × Stops [] moves MissingRun ordinal before

stops_on : {present before : List Triple} {moves : List Move} {refusal : Refusal} {ordinal : ℕ} (rest : List Move)
    → Stops present moves refusal ordinal before → Stops present (moves ++ rest) refusal ordinal before
stops_on rest (here r) = here r
stops_on rest (later m s) = later m (stops_on rest s)

stops_last : {present end : List Triple} {moves : List Move} {move : Move} {refusal : Refusal} → Leads present moves end
    → Refuses move end refusal → Stops present (moves ++ (move ∷ [])) refusal (suc (length moves)) end
stops_last none r = here r
stops_last (more m l) r = later m (stops_last l r)

pub lacks_first : (t : ℕ → Triple) (k : ℕ) → k ≤ 254 → Missing (walk t k) → Lacks (adds_of (first_triples t k))
lacks_first t zero few h = absurd (unfold walk in h)
lacks_first t (suc k) few h = go (dec_missing (walk t k)) (lacks_first t k (omega arith))
  where
    go : Dec (Missing (walk t k)) → (Missing (walk t k) → Lacks (adds_of (first_triples t k))) → Lacks (adds_of (first_triples t (suc k)))
    go (yes m) earlier = let (o, b, s) = earlier m in (o, b, stops_on (add (t (suc (suc k))) ∷ []) s)
    go (no m) earlier =
        let lacking = subst Missing (sym (counts_first t (suc k))) h in
        let refuses = missing_run {t = t (suc (suc k))} {present = first_triples t k} (few_first t k few) lacking in
        (suc (length (adds_of (first_triples t k))), first_triples t k, stops_last (leads_first t k (omega arith) m) refuses)

-- ---- the trace in bytes
known_adds : (present : List Triple) → Known (adds_of present)
known_adds [] = tt
known_adds (t ∷ present) = one_more (adds_of present) t (known_adds present)
  where
    one_more : (moves : List Move) (t : Triple) → Known moves → Known (moves ++ (add t ∷ []))
    one_more [] t k = tt
    one_more (add u ∷ moves) t k = one_more moves t k
    one_more (Move.take_away ∷ moves) t k = one_more moves t k
    one_more (Move.claim ∷ moves) t k = one_more moves t k
    one_more (Move.unknown ∷ moves) t k = elim k [ ]

pub moves_of_trace : (bytes : List ℕ) → moves_of (trace_of bytes) ≡ adds_of (triples_of bytes)
moves_of_trace bytes = moves_of_bytes (adds_of (triples_of bytes)) (known_adds (triples_of bytes))

-- a move has two bytes at most
bytes_few : (moves : List Move) → length (bytes_of moves) ≤ 2 * length moves
bytes_few [] = omega arith
bytes_few (add t ∷ moves) = omega (arith, bytes_few moves)
bytes_few (Move.take_away ∷ moves) = omega (arith, bytes_few moves)
bytes_few (Move.claim ∷ moves) = omega (arith, bytes_few moves)
bytes_few (Move.unknown ∷ moves) = omega (arith, bytes_few moves)

pub trace_few : (bytes : List ℕ) → length (trace_of bytes) ≤ 2 * (kind_of bytes - 1)
trace_few bytes =
    let moves = bytes_few (adds_of (triples_of bytes)) in
    omega (arith, moves, length_adds (triples_of bytes), length_first (triple_in (body_of bytes)) (kind_of bytes - 1))
