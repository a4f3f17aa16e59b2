-- M-111: what is promised of a replay.
use Rattle.std.specs.Prelude.{List, [], ◌∷◌, map, ◌↔◌, ◌≡◌, ℕ, suc, ◌+◌, ◌-◌, ◌≤◌, ◌<◌, length, take, Ok, Err}
use Rattle.std.proofs.Common.{inr, sym, ap, ap₂, subst, ◌∙◌, arith, length-take}
use Rattle.std.proofs.Math.Logic.{if_neg}
use Rattle.std.proofs.Math.Decide.{dec_lt}
use Rattle.record.specs.Triple.{Triple}
use Rattle.record.specs.Walk.{Counts, missing, counts}
use Rattle.record.specs.Record.{triple_in}
use Rattle.record.specs.Read.{kind_of, body_of, end_of, NoKind, ShortBody, BytesAfter, SpareBit, Missing, Several}
use Rattle.record.specs.Checked.{Readable, dec_missing}
use Rattle.record.specs.declared.Refusal.{Refusal}
use Rattle.record.specs.declared.Refusal.TheVariants.{MissingRun}
use Rattle.traces.specs.Move.{Move, add, take_away, claim, unknown, moves_of}
use Rattle.traces.specs.State.{rooms_of, counts_of, runs_in, runs_of, entry_of}
use Rattle.traces.specs.Replay.{refused, next, after, Replay, ended, stopped, replay, states_from}
use Rattle.traces.specs.Answer.{TraceAnswer, replayed_to, replay_answer, trace_answer, entries_of}
use Rattle.traces.specs.Cause.{Refuses, Makes, added, taken, claimed, Caused, caused, refuses_after, makes_after}
use Rattle.traces.proofs.Row.{ended_iff_leads, stopped_iff_stops, cut_at_refused, stops_within}
use Rattle.traces.specs.Still.{Built, start}
use Rattle.traces.proofs.Still.{still_present, adds_of, still_there, built_there, leads_built, built_leads, length_adds}
use Rattle.traces.specs.Bytes.{BadBytes, bad→unknown, unknown→bad, cut_bytes}
use Rattle.traces.proofs.Adding.{triples_of, trace_of, length_first, counts_first, leads_first, lacks_first, moves_of_trace, trace_few}

-- 1, 12, 13, 28 and 29: each exactly on its cause
pub m111_refused_iff_cause : (move : Move) (present : List Triple) (refusal : Refusal)
    → (after move present ≡ refused refusal) ↔ Refuses move present refusal
m111_refused_iff_cause move present refusal = (λ e. subst (Caused move present) e (caused move present), refuses_after)

-- and 28, whose cause is in the bytes, for "an unknown kind, a missing body or a triple above 7"
pub m111_unknown_iff_bad_bytes : (bytes : List ℕ) → (moves_of bytes ≡ unknown ∷ []) ↔ BadBytes bytes
m111_unknown_iff_bad_bytes bytes = (unknown→bad bytes, bad→unknown)

-- "Kind 2 takes the newest room away": that gives back the state before the room was added
pub m111_take_away_gives_back : (t : Triple) (present state : List Triple) → after (add t) present ≡ next state
    → after take_away state ≡ next present
m111_take_away_gives_back t present state e = makes_after (go (subst (Caused (add t) present) e (caused (add t) present)))
  where
    go : {state : List Triple} → Makes (add t) present state → Makes take_away state present
    go (added d e) = taken

-- "The end state is the one that the triples still present give from the start": it is they, and adding them alone ends in it too
pub m111_end_state_is_still_present : (moves : List Move) (count : ℕ) (end : List Triple) → replay moves ≡ ended count end
    → (end ≡ still_present [] moves) × (replay (adds_of end) ≡ ended (length end) end)
m111_end_state_is_still_present moves count end e =
    let leads = ((ended_iff_leads moves count end).0 e).1 in
    let alone = built_leads (leads_built leads start) in
    (still_there leads, (ended_iff_leads (adds_of end) (length end) end).1 (sym (length_adds end), alone))

-- "The first refused move ends the replay": the trace that is cut before it is accepted, ends in the state before it, and has the same
-- entries
pub m111_cut_before_refused : (bytes : List ℕ) (refusal : Refusal) (k : ℕ) (before : List Triple)
    → replay (moves_of bytes) ≡ stopped refusal (suc k) before
    → (place : ℕ) × (replay (moves_of (take place bytes)) ≡ ended k before) × (entries_of bytes ≡ entries_of (take place bytes))
m111_cut_before_refused bytes refusal k before e =
    let stops = (stopped_iff_stops (moves_of bytes) refusal (suc k) before).0 e in
    let within : k < length (moves_of bytes) = omega (arith, stops_within stops) in
    let (place, same) = cut_bytes bytes k within in
    let cut = cut_at_refused stops in
    let count : k ≡ length (take k (moves_of bytes)) = omega (arith, length-take k (moves_of bytes)) in
    let ends = (ended_iff_leads (take k (moves_of bytes)) k before).1 (count, cut.0) in
    (place, ap replay same ∙ ends, ap (map entry_of) (cut.1 ∙ ap (states_from []) (sym same)))

-- ---- one run
one_run : (end : Counts) → runs_in end ≡ 1 → (¬ Missing end) × (¬ Several end)
one_run missing e = absurd (omega arith)
one_run (counts p q) e = ((λ z. z), λ (s : 1 ≤ p + q). omega arith)

one_left : (end : Counts) → ¬ Missing end → ¬ Several end → runs_in end ≡ 1
one_left missing there one = absurd (there tt)
one_left (counts p q) there one = omega arith

-- "Kind 3 claims that one run is left": in a state that can be built that is accepted exactly if one is
pub m111_claim_iff_one_run_left : (present : List Triple) → Built present → (after claim present ≡ next present) ↔ (runs_of present ≡ 1)
m111_claim_iff_one_run_left present b = (to, λ e. makes_after (claimed (one_run (counts_of present) e).1))
  where
    several : {state : List Triple} → Makes claim present state → ¬ Several (counts_of present)
    several (claimed d) = d

    to : after claim present ≡ next present → runs_of present ≡ 1
    to e = one_left (counts_of present) (built_there b) (several (subst (Caused claim present) e (caused claim present)))

-- ---- the trace that adds the triples of a record
module _ (bytes : List ℕ) (kind : ¬ NoKind bytes) (few : kind_of bytes ≤ 255) where
  some_rooms : 1 ≤ kind_of bytes
  some_rooms = go (kind_of bytes) (λ e. kind (inr e))
    where
      go : (k : ℕ) → ¬ (k ≡ 0) → 1 ≤ k
      go k h = omega arith

  -- it ends with that record's walk: its rooms, and its run counts
  pub m111_record_ends_in_its_walk : ¬ Missing (end_of bytes)
      → (replay (moves_of (trace_of bytes)) ≡ ended (kind_of bytes - 1) (triples_of bytes)) × (rooms_of (triples_of bytes) ≡ kind_of bytes)
      × (counts_of (triples_of bytes) ≡ end_of bytes)
  m111_record_ends_in_its_walk there =
      let size = length_first (triple_in (body_of bytes)) (kind_of bytes - 1) in
      let leads = leads_first (triple_in (body_of bytes)) (kind_of bytes - 1) (omega arith) there in
      let count : kind_of bytes - 1 ≡ length (adds_of (triples_of bytes)) = sym (length_adds (triples_of bytes) ∙ size) in (
        ap replay (moves_of_trace bytes)
            ∙ (ended_iff_leads (adds_of (triples_of bytes)) (kind_of bytes - 1) (triples_of bytes)).1 (count, leads),
        omega (arith, size, some_rooms),
        counts_first (triple_in (body_of bytes)) (kind_of bytes - 1),
      )

  -- or 12 stops it, where a run is missing in the record's walk
  pub m111_record_that_lacks_a_run_is_stopped : Missing (end_of bytes)
      → (ordinal : ℕ) × (before : List Triple) × (replay (moves_of (trace_of bytes)) ≡ stopped MissingRun ordinal before)
  m111_record_that_lacks_a_run_is_stopped lacking =
      let (o, b, s) = lacks_first (triple_in (body_of bytes)) (kind_of bytes - 1) (omega arith) lacking in
      (o, b, ap replay (moves_of_trace bytes) ∙ (stopped_iff_stops (adds_of (triples_of bytes)) MissingRun o b).1 s)

abbrev runs_told : TraceAnswer → ℕ
runs_told (Ok replayed) = replayed.runs
runs_told (Err error) = 0

none_is_one : ¬ (◌≡◌ {A = ℕ} 0 1)
none_is_one e = omega arith

-- so it is accepted with one run left exactly if the record is accepted
pub m111_record_accepted_iff_one_run_left : (bytes : List ℕ) (capacity : ℕ) → ¬ NoKind bytes → ¬ ShortBody bytes → ¬ BytesAfter bytes
    → ¬ SpareBit bytes → kind_of bytes ≤ 255 → kind_of bytes ≤ suc capacity
    → (trace_answer (trace_of bytes) capacity ≡ replayed_to (kind_of bytes - 1) (kind_of bytes) 1) ↔ Readable bytes
m111_record_accepted_iff_one_run_left bytes capacity kind long short spare few room = (to, from)
  where
    answer_is : (r : Replay) → replay (moves_of (trace_of bytes)) ≡ r → trace_answer (trace_of bytes) capacity ≡ replay_answer r capacity
    answer_is r e =
        let fits : ¬ (65535 < length (trace_of bytes)) = omega (arith, trace_few bytes) in
        if_neg (dec_lt 65535 (length (trace_of bytes))) fits _ _ ∙ ap (λ (s : Replay). replay_answer s capacity) e

    -- where no run is missing
    replayed : ¬ Missing (end_of bytes)
        → trace_answer (trace_of bytes) capacity ≡ replayed_to (kind_of bytes - 1) (kind_of bytes) (runs_in (end_of bytes))
    replayed there =
        let (ends, rooms, walked) = m111_record_ends_in_its_walk bytes kind few there in
        answer_is _ ends ∙ if_neg (dec_lt capacity (kind_of bytes - 1)) (omega arith) _ _
        ∙ ap₂ (replayed_to (kind_of bytes - 1)) rooms (ap runs_in walked)

    to : trace_answer (trace_of bytes) capacity ≡ replayed_to (kind_of bytes - 1) (kind_of bytes) 1 → Readable bytes
    to e = go (dec_missing (end_of bytes))
      where
        go : Dec (Missing (end_of bytes)) → Readable bytes
        go (yes lacking) =
            let (o, b, stops) = m111_record_that_lacks_a_run_is_stopped bytes kind few lacking in
            absurd (none_is_one (ap runs_told (sym (answer_is _ stops) ∙ e)))
        go (no there) =
            let left = one_run (end_of bytes) (ap runs_told (sym (replayed there) ∙ e)) in
            record { kind = kind; long = long; short = short; spare = spare; runs = left.0; one_run = left.1 }

    from : Readable bytes → trace_answer (trace_of bytes) capacity ≡ replayed_to (kind_of bytes - 1) (kind_of bytes) 1
    from r = replayed r.runs ∙ ap (replayed_to (kind_of bytes - 1) (kind_of bytes)) (one_left (end_of bytes) r.runs r.one_run)
