-- Demand 1 for traces: an answer comes with its cause and without the causes that the order names before it, and no other answer has its
-- cause.
use Rattle.std.specs.Prelude.{List, [], ◌≡◌, refl, ℕ, ◌<◌, length, Err}
use Rattle.std.proofs.Math.Logic.{ite, if_pos, if_neg}
use Rattle.std.proofs.Common.{sym, ap, ◌∙◌}
use Rattle.std.proofs.Math.Decide.{dec_lt}
use Rattle.record.specs.Triple.{Triple}
use Rattle.record.specs.declared.Refusal.{Refusal}
use Rattle.record.specs.declared.Refusal.TheVariants.{TooLong, ShortOutput}
use Rattle.traces.specs.Move.{moves_of}
use Rattle.traces.specs.State.{rooms_of, runs_of}
use Rattle.traces.specs.Replay.{Replay, ended, stopped, replay}
use Rattle.traces.specs.Answer.{TraceAnswer, replayed_to, replay_answer, trace_answer}
use Rattle.traces.specs.Row.{Leads, Stops}
use Rattle.traces.proofs.Row.{ended_iff_leads, stopped_iff_stops}
use Rattle.traces.specs.declared.TraceError.TheVariants.{RefusedMove, Refused}

-- an answer with its cause
pub data TraceSays (bytes : List ℕ) (capacity : ℕ) : TraceAnswer → Type 0 where
  too_long : 65535 < length bytes → TraceSays bytes capacity (Err (Refused TooLong))
  refused_move : {refusal : Refusal} {ordinal : ℕ} {before : List Triple} → ¬ (65535 < length bytes)
      → Stops [] (moves_of bytes) refusal ordinal before
      → TraceSays bytes capacity (Err (RefusedMove refusal ordinal (rooms_of before) (runs_of before)))
  short : {end : List Triple} → ¬ (65535 < length bytes) → Leads [] (moves_of bytes) end → capacity < length (moves_of bytes)
      → TraceSays bytes capacity (Err (Refused ShortOutput))
  replayed : {end : List Triple} → ¬ (65535 < length bytes) → Leads [] (moves_of bytes) end → ¬ (capacity < length (moves_of bytes))
      → TraceSays bytes capacity (replayed_to (length (moves_of bytes)) (rooms_of end) (runs_of end))

module _ (bytes : List ℕ) (capacity : ℕ) where
  -- each answer has its cause
  pub demand1_trace_cause : TraceSays bytes capacity (trace_answer bytes capacity)
  demand1_trace_cause = judge (dec_lt 65535 (length bytes)) (replay (moves_of bytes)) refl
    where
      end_of : (end : List Triple) (count : ℕ) → ¬ (65535 < length bytes) → Leads [] (moves_of bytes) end → count ≡ length (moves_of bytes)
          → (d : Dec (capacity < count))
          → TraceSays bytes capacity (ite d (Err (Refused ShortOutput)) (replayed_to count (rooms_of end) (runs_of end)))
      end_of end count few l e (yes d) = short few l (rw e at d)
      end_of end count few l e (no d) = rw e (replayed few l (rw e at d))

      judge : (d : Dec (65535 < length bytes)) (r : Replay) → replay (moves_of bytes) ≡ r
          → TraceSays bytes capacity (ite d (Err (Refused TooLong)) (replay_answer r capacity))
      judge (yes d) r e = too_long d
      judge (no d) (stopped refusal ordinal before) e =
          refused_move d ((stopped_iff_stops (moves_of bytes) refusal ordinal before).0 e)
      judge (no d) (ended count end) e =
          let leads = (ended_iff_leads (moves_of bytes) count end).0 e in
          end_of end count d leads.1 leads.0 (dec_lt capacity count)

  -- a trace that is not too long has the answer of its replay
  told : (r : Replay) → ¬ (65535 < length bytes) → replay (moves_of bytes) ≡ r → replay_answer r capacity ≡ trace_answer bytes capacity
  told r h e = ap (λ (s : Replay). replay_answer s capacity) (sym e) ∙ sym (if_neg (dec_lt 65535 (length bytes)) h _ _)

  told_ended : (end : List Triple) → ¬ (65535 < length bytes) → Leads [] (moves_of bytes) end
      → replay_answer (ended (length (moves_of bytes)) end) capacity ≡ trace_answer bytes capacity
  told_ended end h l = told _ h ((ended_iff_leads (moves_of bytes) (length (moves_of bytes)) end).1 (refl, l))

  -- and an answer with its cause is the answer
  pub demand1_trace_answer : {answer : TraceAnswer} → TraceSays bytes capacity answer → answer ≡ trace_answer bytes capacity
  demand1_trace_answer (too_long h) = sym (if_pos (dec_lt 65535 (length bytes)) h _ _)
  demand1_trace_answer (refused_move {refusal} {ordinal} {before} h s) =
      told _ h ((stopped_iff_stops (moves_of bytes) refusal ordinal before).1 s)
  demand1_trace_answer (short {end} h l s) = sym (if_pos (dec_lt capacity (length (moves_of bytes))) s _ _) ∙ told_ended end h l
  demand1_trace_answer (replayed {end} h l s) = sym (if_neg (dec_lt capacity (length (moves_of bytes))) s _ _) ∙ told_ended end h l
