-- What is answered for labels and an output slice that held `before`, and what the slice holds then.
use Rattle.std.specs.Prelude.{Result, List, ◌≡◌, ℕ, length}
use Rattle.labeltext.specs.Answer.{labels_tidied, tidy_after}
use Rattle.record.specs.declared.Refusal.{Refusal}

pub record TidiedLabels (labels before : List ℕ) (answer : Result ℕ Refusal) (after : List ℕ) : Type 0 where
  pub answered : answer ≡ labels_tidied labels (length before)
  pub left : after ≡ tidy_after answer labels before
