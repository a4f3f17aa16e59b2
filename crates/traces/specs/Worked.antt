-- Traces worked out from the definitions: what is answered, for a slice of so many places, and the entries as far as no move is refused.
use Rattle.std.specs.Prelude.{List, [], ◌∷◌, ◌≡◌, refl, ℕ, Err}
use Rattle.std.proofs.Math.Decide.{dec_le, dec_lt}
use Rattle.record.specs.Walk.{step, walk}
use Rattle.record.specs.Checked.{dec_missing, dec_several}
use Rattle.record.specs.declared.Refusal.TheVariants.{MissingRun, SeveralRuns, ShortOutput, BadMove, OnlyRoom}
use Rattle.traces.specs.Move.{moves_of}
use Rattle.traces.specs.State.{counts_of}
use Rattle.traces.specs.Replay.{after, replay_from, states_from}
use Rattle.traces.specs.Answer.{TraceAnswer, replayed_to, trace_answer, entries_of}
use Rattle.traces.specs.declared.TraceError.TheVariants.{RefusedMove, Refused}

pub record Given : Type 0 where
  pub bytes : List ℕ
  pub capacity : ℕ
  pub answer : TraceAnswer
  pub entries : List ℕ

abbrev pub traces : List Given
traces =
    -- no move at all
    record { bytes = []; capacity = 0; answer = replayed_to 0 1 1; entries = [] }
    -- the triples 001 100 010 111 of the record 05 31 70, and the claim that one run is left
    ∷ record {
      bytes = 1 ∷ 1 ∷ 1 ∷ 4 ∷ 1 ∷ 2 ∷ 1 ∷ 7 ∷ 3 ∷ [];
      capacity = 5;
      answer = replayed_to 5 5 1;
      entries = 514 ∷ 770 ∷ 1026 ∷ 1281 ∷ 1281 ∷ [];
    }
    -- the second of three rooms that are added is taken away and added again
    ∷ record {
      bytes = 1 ∷ 2 ∷ 1 ∷ 1 ∷ 2 ∷ 1 ∷ 1 ∷ 1 ∷ 6 ∷ 3 ∷ [];
      capacity = 6;
      answer = replayed_to 6 4 1;
      entries = 513 ∷ 770 ∷ 513 ∷ 770 ∷ 1025 ∷ 1025 ∷ [];
    }
    ∷ record { bytes = 1 ∷ 2 ∷ 3 ∷ []; capacity = 1; answer = Err (Refused ShortOutput); entries = 513 ∷ 513 ∷ [] }
    -- an unknown kind, a missing body, a triple above 7
    ∷ record { bytes = 0 ∷ []; capacity = 0; answer = Err (RefusedMove BadMove 1 1 1); entries = [] }
    ∷ record { bytes = 3 ∷ 1 ∷ []; capacity = 0; answer = Err (RefusedMove BadMove 2 1 1); entries = 257 ∷ [] }
    ∷ record { bytes = 1 ∷ 8 ∷ []; capacity = 0; answer = Err (RefusedMove BadMove 1 1 1); entries = [] }
    -- the only room is taken away
    ∷ record { bytes = 1 ∷ 0 ∷ 2 ∷ 2 ∷ []; capacity = 0; answer = Err (RefusedMove OnlyRoom 3 1 1); entries = 514 ∷ 257 ∷ [] }
    -- a run is missing; two runs are left
    ∷ record { bytes = 1 ∷ 3 ∷ []; capacity = 0; answer = Err (RefusedMove MissingRun 1 1 1); entries = [] }
    ∷ record { bytes = 1 ∷ 0 ∷ 3 ∷ []; capacity = 0; answer = Err (RefusedMove SeveralRuns 2 2 2); entries = 514 ∷ [] }
    ∷ []

abbrev Answered : List Given → Type 0
Answered [] = Unit
Answered (g ∷ rest) = (trace_answer g.bytes g.capacity ≡ g.answer) × (entries_of g.bytes ≡ g.entries) × Answered rest

pub m111_worked : Answered traces
unfolding moves_of counts_of after replay_from states_from step walk dec_missing dec_several dec_le dec_lt
m111_worked = (
  refl,
  refl,
  (
    refl,
    refl,
    (
      refl,
      refl,
      (
        refl,
        refl,
        (
          refl,
          refl,
          (refl, refl, (refl, refl, (refl, refl, (refl, refl, (refl, refl, tt))))),
        ),
      ),
    ),
  ),
)
