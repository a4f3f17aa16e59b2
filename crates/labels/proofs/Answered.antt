-- Where each record has the room, the answer of Labels in tells the verdict.
use mathlib.Core.Logic.{if_neg}
use mathlib.Core.List.{List}
use mathlib.Core.Path.{◌≡◌, ap, ◌∙◌}
use Prim.Native.Nat.{ℕ, ◌<◌, ◌≤◌}
use native.Mathlib.Decide.{dec_lt}
use native.Mathlib.Omega.{arith}
use lib.ListN.{length}
use Rattle.std.specs.Prelude.{Result, Ok, Err}
use Rattle.record.specs.Record.{record_of}
use Rattle.record.specs.Answer.{labels_answer}
use Rattle.record.specs.Judged as judgement
use Rattle.record.specs.Judged.{judged_has}
use Rattle.record.proofs.Demand2.{sound→baxter, record_at_most_97}
use Rattle.record.specs.declared.Refusal.{Refusal}
use Rattle.labels.specs.Verdict.{verdict_of}
use Rattle.labels.specs.Verdicts.{refused_verdict, sound_verdict}

-- the verdict that an answer tells
abbrev pub told : Result ℕ Refusal → Result (Unit {0}) Refusal
told (Ok size) = Ok tt
told (Err refusal) = Err refusal

module _ (labels : List ℕ) (capacity : ℕ) (room : 97 ≤ capacity) where
  long : judgement.Sound labels → ¬ (capacity < length (record_of labels))
  long all h = omega (arith, record_at_most_97 labels (sound→baxter labels all).2)

  pub told_is : told (labels_answer labels capacity) ≡ verdict_of labels
  told_is =
      judged_has (λ a. told a ≡ verdict_of labels) Err labels _
      (λ refusal cause. refused_verdict labels cause)
      (λ all. ap told (if_neg (dec_lt capacity (length (record_of labels))) (long all) _ _) ∙ sound_verdict labels all)
