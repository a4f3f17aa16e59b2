-- What a refusal by Labels in tells of a list: if the labels are not 1 to n, each once, it is the answer; else they have a barred pattern,
-- so a search of all positions finds one.
use mathlib.Core.Bool.{false}
use mathlib.Core.List.{List}
use mathlib.Core.Path.{◌≡◌}
use Prim.Native.Nat.{ℕ}
use native.Mathlib.Omega.{arith}
use lib.ListN.{length}
use Rattle.std.specs.Prelude.{Result, Ok, Err, Option, Some, None, is_ok}
use Rattle.record.specs.Labels.{label_at}
use Rattle.record.specs.Barred.{Barred}
use Rattle.record.specs.Judged as judged
use Rattle.record.specs.Judged.{Permutation, RefusesLabels}
use Rattle.record.specs.declared.Refusal.{Refusal}
use Rattle.labels.specs.Verdict.{verdict_of}
use Rattle.labels.specs.Verdicts.{verdict_refused}
use Rattle.patterns.specs.Answer.{pattern_answer}
use Rattle.patterns.specs.declared.Pattern.{Pattern}
use Rattle.patterns.proofs.FirstOne.{first_pattern}
use Rattle.patterns.proofs.M105.{first, refused, m105_answer}
use Rattle.patterns.proofs.Scope.{none_left}
use Rattle.searching.specs.Search.{SearchedTo}

module _ (labels : List ℕ) where
  pub barred_permutation : Permutation labels → {refusal : Refusal} → RefusesLabels labels refusal
      → Barred (label_at labels) (length labels)
  barred_permutation p (judged.not_permutation (judged.count bad)) = absurd (p.count bad)
  barred_permutation p (judged.not_permutation (judged.outside _ out)) = absurd (p.inside out)
  barred_permutation p (judged.not_permutation (judged.twice _ _ again)) = absurd (p.single again)
  barred_permutation p (judged.barred _ b) = b

  pub refused_answer : ¬ Permutation labels → {refusal : Refusal} → RefusesLabels labels refusal → Err refusal ≡ pattern_answer labels
  refused_answer not (judged.not_permutation cause) = m105_answer labels (refused cause)
  refused_answer not (judged.barred p _) = absurd (not p)

module _ (labels : List ℕ) (p : Permutation labels) where
  pub barred_judged : (verdict : Result (Unit {0}) Refusal) → verdict ≡ verdict_of labels → is_ok verdict ≡ false
      → Barred (label_at labels) (length labels)
  barred_judged (Ok tt) is not = let z : ◌≡◌ {A = ℕ} 0 1 = cc in absurd (omega arith)
  barred_judged (Err refusal) is not = barred_permutation labels p (verdict_refused labels is)

  pub found_in_barred : (found : Option Pattern) → SearchedTo (label_at labels) (length labels) (length labels) found
      → Barred (label_at labels) (length labels) → Ok found ≡ pattern_answer labels
  found_in_barred (Some pattern) x b = m105_answer labels (first p x)
  found_in_barred None none b =
      let one = first_pattern (label_at labels) (length labels) b in
      absurd (none_left (label_at labels) (length labels) (length labels) none (omega arith) one.which one.four one.is_first.pattern)
