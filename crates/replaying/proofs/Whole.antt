-- The two passes together: the answer follows from what the first one comes to, and an accepted trace has a place for each entry.
use mathlib.Core.List.{List, ◌++◌}
use mathlib.Core.Logic.{ite, if_pos, if_neg}
use mathlib.Core.Path.{◌≡◌, refl, sym, ap, ◌∙◌}
use Prim.Native.Nat.{ℕ, suc, ◌≤◌, ◌<◌}
use native.Mathlib.Decide.{dec_lt}
use native.Mathlib.Omega.{arith}
use lib.ListN.{length, drop}
use Rattle.record.specs.declared.Refusal.TheVariants.{TooLong, ShortOutput}
use Rattle.traces.specs.Move.{moves_of}
use Rattle.traces.specs.Replay.{Replay, ended, stopped, replay}
use Rattle.traces.specs.Row.{NoneRefused}
use Rattle.traces.proofs.Row.{ended_iff_leads}
use Rattle.std.specs.Prelude.{Ok, Err}
use Rattle.traces.specs.Answer.{TraceAnswer, replay_answer, trace_answer, entries_of, Traced}
use Rattle.traces.specs.declared.Replayed.{Replayed}
use Rattle.record.specs.declared.Refusal.{Refusal}
use Rattle.traces.specs.declared.TraceError.TheVariants.{Refused, RefusedMove}
use Rattle.replaying.specs.Passes.{judged_of, filled_by}

abbrev answer_from : TraceAnswer → (capacity : ℕ) → TraceAnswer
answer_from (Ok replayed) capacity = ite (dec_lt capacity replayed.moves) (Err (Refused ShortOutput)) (Ok replayed)
answer_from (Err error) capacity = Err error

answer_from_lem : (r : Replay) (capacity : ℕ) → answer_from (judged_of r) capacity ≡ replay_answer r capacity
answer_from_lem (ended moves end) capacity = refl
answer_from_lem (stopped refusal ordinal before) capacity = refl

module _ (bytes before : List ℕ) where
  pub too_long : 65535 < length bytes → Traced bytes before (Err (Refused TooLong)) before
  too_long h = record { answered = sym (if_pos (dec_lt 65535 (length bytes)) h _ _); left = refl }

  answers : length bytes ≤ 65535 → (judged : TraceAnswer) → judged ≡ judged_of (replay (moves_of bytes))
      → answer_from judged (length before) ≡ trace_answer bytes (length before)
  answers h judged e =
      ap (λ (j : TraceAnswer). answer_from j (length before)) e ∙ answer_from_lem (replay (moves_of bytes)) (length before)
      ∙ sym (if_neg (dec_lt 65535 (length bytes)) (omega arith) _ _)

  pub stopped_whole : length bytes ≤ 65535 → {refusal : Refusal} {ordinal rooms runs : ℕ}
      → Err (RefusedMove refusal ordinal rooms runs) ≡ judged_of (replay (moves_of bytes))
      → Traced bytes before (Err (RefusedMove refusal ordinal rooms runs)) before
  stopped_whole h e = record { answered = answers h _ e; left = refl }

  module _ (h : length bytes ≤ 65535) {replayed : Replayed} (e : Ok replayed ≡ judged_of (replay (moves_of bytes))) where
    pub short_whole : length before < replayed.moves → Traced bytes before (Err (Refused ShortOutput)) before
    short_whole short = record { answered = sym (if_pos (dec_lt (length before) replayed.moves) short _ _) ∙ answers h _ e; left = refl }

    -- no move is refused, and they are so many
    pub ended_leads : (replayed.moves ≡ length (moves_of bytes)) × NoneRefused (moves_of bytes)
    ended_leads = go (replay (moves_of bytes)) refl e
      where
        count : TraceAnswer → ℕ
        count (Ok r) = suc r.moves
        count (Err error) = 0

        go : (r : Replay) → replay (moves_of bytes) ≡ r → Ok replayed ≡ judged_of r
            → (replayed.moves ≡ length (moves_of bytes)) × NoneRefused (moves_of bytes)
        go (ended k end) is f =
            let leads = (ended_iff_leads (moves_of bytes) k end).0 is in
            (omega (arith, ap count f, leads.0), (end, leads.1))
        go (stopped refusal ordinal present) is f = absurd (omega (arith, ap count f))

    pub written_whole : {after : List ℕ} → replayed.moves ≤ length before → after ≡ filled_by bytes before
        → Traced bytes before (Ok replayed) after
    written_whole room w = record {
      answered = sym (if_neg (dec_lt (length before) replayed.moves) (omega arith) _ _) ∙ answers h _ e;
      left = w ∙ ap (λ (k : ℕ). entries_of bytes ++ drop k before) (sym ended_leads.0);
    }
