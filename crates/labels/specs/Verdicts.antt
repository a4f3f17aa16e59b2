-- A verdict and its cause: a list that is refused has the refusal's cause, and no other list has one.
use Rattle.std.specs.Prelude.{Result, Ok, Err, List, ◌≡◌, ℕ}
use Rattle.std.proofs.Common.{sym, subst, ◌∙◌, arith}
use Rattle.record.specs.Judged as judgement
use Rattle.record.specs.Judged.{RefusesLabels, Judgement, judgement, refused_judged, sound_judged}
use Rattle.record.specs.declared.Refusal.{Refusal}
use Rattle.labels.specs.Verdict.{verdict_of}

module _ (labels : List ℕ) where
  -- the verdict is known where the cause is, or that there is none
  pub refused_verdict : {refusal : Refusal} → RefusesLabels labels refusal → Err refusal ≡ verdict_of labels
  refused_verdict cause = refused_judged Err labels (Ok tt) cause

  pub sound_verdict : judgement.Sound labels → Ok tt ≡ verdict_of labels
  sound_verdict all = sound_judged Err labels (Ok tt) all

  -- and the other way round
  pub verdict_refused : {refusal : Refusal} → Err refusal ≡ verdict_of labels → RefusesLabels labels refusal
  verdict_refused {refusal} e = go (judgement labels)
    where
      go : Judgement labels → RefusesLabels labels refusal
      go (judgement.refused {refusal = other} cause) =
          let same : Err refusal ≡ Err other = e ∙ sym (refused_verdict cause) in
          let is : other ≡ refusal = cc in
          subst (RefusesLabels labels) is cause
      go (judgement.sound all) =
          let same : Err refusal ≡ Ok tt = e ∙ sym (sound_verdict all) in
          absurd (let z : ◌≡◌ {A = ℕ} 0 1 = cc in omega arith)

  pub verdict_sound : Ok tt ≡ verdict_of labels → judgement.Sound labels
  verdict_sound e = go (judgement labels)
    where
      go : Judgement labels → judgement.Sound labels
      go (judgement.refused {refusal = other} cause) =
          let same : ◌≡◌ {A = Result (Unit {0}) Refusal} (Ok tt) (Err other) = e ∙ sym (refused_verdict cause) in
          absurd (let z : ◌≡◌ {A = ℕ} 0 1 = cc in omega arith)
      go (judgement.sound all) = all
