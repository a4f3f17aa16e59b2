-- What is answered for labels, by what they are judged to be and by the room for their tidy text.
use mathlib.Core.List.{List, ◌++◌}
use mathlib.Core.Logic.{if_pos, if_neg}
use mathlib.Core.Path.{◌≡◌, refl, sym, ap, ◌∙◌}
use Prim.Native.Nat.{ℕ, ◌≤◌, ◌<◌}
use native.Mathlib.Decide.{dec_lt}
use native.Mathlib.Omega.{arith}
use lib.ListN.{length, drop}
use Rattle.std.specs.Prelude.{Ok, Err}
use Rattle.record.specs.Judged.{Sound, RefusesLabels, refused_judged, sound_judged}
use Rattle.record.specs.declared.Refusal.{Refusal}
use Rattle.record.specs.declared.Refusal.TheVariants.{ShortOutput}
use Rattle.labeltext.specs.Tidy.{tidy_text}
use Rattle.tidy.specs.Labels.{TidiedLabels}

module _ (labels before : List ℕ) where
  pub refused_tidied : {refusal : Refusal} → RefusesLabels labels refusal → TidiedLabels labels before (Err refusal) before
  refused_tidied cause = record { answered = refused_judged Err labels _ cause; left = refl }

  pub short_tidied : Sound labels → length before < length (tidy_text labels) → TidiedLabels labels before (Err ShortOutput) before
  short_tidied all s = record {
    answered = sym (if_pos (dec_lt (length before) (length (tidy_text labels))) s _ _) ∙ sound_judged Err labels _ all;
    left = refl;
  }

  pub wrote_tidied : {after : List ℕ} {size : ℕ} → Sound labels → size ≡ length (tidy_text labels) → size ≤ length before
      → after ≡ tidy_text labels ++ drop (length (tidy_text labels)) before
      → TidiedLabels labels before (Ok size) after
  wrote_tidied all e long is = record {
    answered =
        ap Ok e ∙ sym (if_neg (dec_lt (length before) (length (tidy_text labels))) (λ s. omega arith) _ _)
        ∙ sound_judged Err labels _ all;
    left = is ∙ ap (λ (n : ℕ). tidy_text labels ++ drop n before) (sym e);
  }
