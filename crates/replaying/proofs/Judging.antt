-- The first pass: after some moves the numbers stand for a state from which the moves that are left go on to the end of the whole replay.
use mathlib.Core.List.{List, [], ◌∷◌}
use mathlib.Core.Path.{◌≡◌, refl, sym, ap, subst, ◌∙◌}
use Prim.Native.Nat.{ℕ, suc, ◌+◌, ◌≤◌, ◌<◌}
use native.Mathlib.Omega.{arith}
use lib.ListN.{length, get_or, drop, set, length-set, drop_of_length-le}
use Rattle.record.specs.Triple.{Triple}
use Rattle.record.specs.Walk.{walk}
use Rattle.record.specs.declared.Refusal.{Refusal}
use Rattle.traces.specs.Move.{moves_of}
use Rattle.traces.specs.State.{counts_of}
use Rattle.traces.specs.Replay.{ended, replay_from, replay}
use Rattle.traces.proofs.Row.{replay_next, replay_refused}
use Rattle.traces.specs.Still.{start}
use Rattle.std.specs.Prelude.{Ok, Err}
use Rattle.traces.specs.Answer.{replayed_to}
use Rattle.traces.specs.declared.TraceError.TheVariants.{RefusedMove}
use Rattle.replaying.specs.declared.Plan.{Plan}
use Rattle.replaying.specs.declared.Turn.{Turn}
use Rattle.replaying.specs.declared.Turn.TheVariants.{Added, Back}
use Rattle.replaying.specs.Packed.{CountsRuns}
use Rattle.replaying.specs.Turn.{packed_of, Stands, Kept, Goes, Halts, Turned}
use Rattle.replaying.specs.Passes.{judged_of}
use Rattle.replaying.proofs.Keeping.{kept_stored}
use Rattle.replaying.proofs.Turning.{stands_few, stands_small, stands_runs}

-- what holds between two turns of the loop
pub record Held (xs kept : List ℕ) (at moves : ℕ) (plan : Plan) : Type 0 where
  pub present : List Triple
  pub stands : Stands present plan
  pub kept_are : Kept packed_of present kept
  pub size : length kept ≡ 256
  pub same : replay_from present moves (moves_of (drop at xs)) ≡ replay (moves_of xs)
  pub within : at ≤ length xs
  pub early : moves ≤ at

-- before the first move
pub held_first : (xs kept : List ℕ) → length kept ≡ 256 → get_or kept 1 0 ≡ 257 → Held xs kept 0 0 (record { rooms = 1; counts = 257 })
unfolding counts_of walk
held_first xs kept size first = record {
  present = [];
  stands = record { built = start; rooms_are = refl; counts_are = refl };
  kept_are = (first, tt);
  size = size;
  same = refl;
  within = omega arith;
  early = omega arith;
}

-- what holds after a turn
pub record After (xs : List ℕ) (at moves : ℕ) (kept : List ℕ) (place : ℕ) (plan : Plan) : Type 0 where
  pub ahead : at < place
  pub held : Held xs kept place (moves + 1) plan

pub after_as : {xs : List ℕ} {at moves : ℕ} {k l : List ℕ} {p q : ℕ} {r s : Plan} → After xs at moves k p r → l ≡ k → q ≡ p → s ≡ r
    → After xs at moves l q s
after_as {xs} {at} {moves} {k} {l} {p} {q} {r} {s} h a b c =
    subst (λ (j : List ℕ). After xs at moves j q s) (sym a)
    (subst (λ (i : ℕ). After xs at moves k i s) (sym b) (subst (λ (plan : Plan). After xs at moves k p plan) (sym c) h))

module _ {xs kept : List ℕ} {at moves : ℕ} {plan : Plan} (h : Held xs kept at moves plan) where
  -- a move that is made
  pub after_move : {kept_next : List ℕ} {place : ℕ} {next : Plan} {state : List Triple} → Goes xs at h.present place state
      → Stands state next → Kept packed_of state kept_next → length kept_next ≡ 256 → After xs at moves kept_next place next
  after_move {place = place} {state = state} g s k size = record {
    ahead = g.ahead;
    held = record {
      present = state;
      stands = s;
      kept_are = k;
      size = size;
      same =
          ap (λ (j : ℕ). replay_from state j (moves_of (drop place xs))) one
          ∙ sym (replay_next g.move (moves_of (drop place xs)) h.present moves g.makes)
          ∙ ap (replay_from h.present moves) (sym g.begins) ∙ h.same;
      within = g.within;
      early = omega (arith, h.early, g.ahead);
    };
  }
    where
      one : moves + 1 ≡ suc moves
      one = omega arith

  -- one that adds a room, whose counts are kept
  pub after_adding : {place : ℕ} {next : Plan} {t : Triple} → Goes xs at h.present place (t ∷ h.present)
      → Stands (t ∷ h.present) next → After xs at moves (set kept next.rooms next.counts) place next
  after_adding {next = next} {t = t} g s =
      let room : next.rooms < length kept = omega (arith, h.size, (stands_few s).1) in
      let stored = kept_stored packed_of (t ∷ h.present) kept next.rooms next.counts s.rooms_are s.counts_are room h.kept_are in
      after_move g s stored (length-set kept next.rooms next.counts ∙ h.size)

  -- by what the move makes
  pub turn_adds : {turn : Turn} {next : Plan} → Turned xs at h.present kept (Ok turn) → turn ≡ Added next
      → (next.rooms ≤ 255) × (next.counts ≤ 65535) × After xs at moves (set kept next.rooms next.counts) (at + 2) next
  turn_adds {next = next} told is =
      let made : Turned xs at h.present kept (Ok (Added next)) = subst (λ (t : Turn). Turned xs at h.present kept (Ok t)) is told in
      let (t, goes, stands) = made in
      ((stands_few stands).1, (stands_small stands).1, after_adding goes stands)

  pub turn_goes_back : {turn : Turn} {next : Plan} → Turned xs at h.present kept (Ok turn) → turn ≡ Back next
      → After xs at moves kept (at + 1) next
  turn_goes_back {next = next} told is =
      let made : Turned xs at h.present kept (Ok (Back next)) = subst (λ (t : Turn). Turned xs at h.present kept (Ok t)) is told in
      let (state, goes, stands, kept_are) = made in
      after_move goes stands kept_are h.size

  -- one that is refused
  pub held_stopped : {refusal : Refusal} {runs : ℕ} → Halts xs at h.present refusal → CountsRuns plan.counts runs
      → Err (RefusedMove refusal (moves + 1) plan.rooms runs) ≡ judged_of (replay (moves_of xs))
  held_stopped {refusal} t told =
      let one : moves + 1 ≡ suc moves = omega arith in
      let stops = replay_refused t.move t.rest h.present moves t.refuses in
      (λ i. Err (RefusedMove refusal (one i) (h.stands.rooms_are i) (stands_runs h.stands told i)))
      ∙ ap judged_of (sym stops ∙ ap (replay_from h.present moves) (sym t.begins) ∙ h.same)

  -- the end of the trace
  pub held_ended : {runs : ℕ} → length xs ≤ at → CountsRuns plan.counts runs → replayed_to moves plan.rooms runs ≡ judged_of (replay (moves_of xs))
  held_ended l told =
      let gone : moves_of (drop at xs) ≡ [] = ap moves_of (drop_of_length-le xs l) ∙ (unfold moves_of in refl) in
      let end : replay_from h.present moves (moves_of (drop at xs)) ≡ ended moves h.present =
      ap (replay_from h.present moves) gone ∙ (unfold replay_from in refl) in
      (λ i. replayed_to moves (h.stands.rooms_are i) (stands_runs h.stands told i)) ∙ ap judged_of (sym end ∙ h.same)
