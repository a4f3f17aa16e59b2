-- Demand 1 for the cutting tree: "either its result or one of the numbered refusals, in the stated order". "A cause found gives its
-- number, and no number comes without its cause."
use Rattle.std.specs.Prelude.{List, ◌≡◌, ℕ, ◌<◌, length, Result, Ok, Err}
use Rattle.std.proofs.Math.Logic.{ite, if_pos, if_neg}
use Rattle.std.proofs.Common.{sym, ◌∙◌}
use Rattle.std.proofs.Math.Decide.{dec_lt}
use Rattle.record.specs.Checked.{Readable, Refuses, checked_has, refused_checked, readable_checked}
use Rattle.record.specs.declared.Refusal.{Refusal}
use Rattle.record.specs.declared.Refusal.TheVariants as refusal
use Rattle.slicing.specs.Answer.{NotSlicing, dec_not_slicing, tree_of, tree_answer}

-- an answer with its cause, and without the causes that the order names before it
pub data TreeSays (bytes : List ℕ) (capacity : ℕ) : Result ℕ Refusal → Type 0 where
  refused_record : {refusal : Refusal} → Refuses bytes refusal → TreeSays bytes capacity (Err refusal)
  not_slicing : Readable bytes → NotSlicing bytes → TreeSays bytes capacity (Err refusal.NotSlicing)
  short : Readable bytes → ¬ NotSlicing bytes → capacity < length (tree_of bytes) → TreeSays bytes capacity (Err refusal.ShortOutput)
  wrote : Readable bytes → ¬ NotSlicing bytes → ¬ (capacity < length (tree_of bytes))
      → TreeSays bytes capacity (Ok (length (tree_of bytes)))

module _ (bytes : List ℕ) (capacity : ℕ) where
  -- each answer has its cause
  pub demand1_tree_cause : TreeSays bytes capacity (tree_answer bytes capacity)
  demand1_tree_cause =
      checked_has (TreeSays bytes capacity) Err bytes _ (λ refusal cause. refused_record cause)
      (go (dec_not_slicing bytes) (dec_lt capacity (length (tree_of bytes))))
    where
      go : (d : Dec (NotSlicing bytes)) (e : Dec (capacity < length (tree_of bytes))) → Readable bytes
          → TreeSays bytes capacity (ite d (Err refusal.NotSlicing)
          (ite e (Err refusal.ShortOutput) (Ok (length (tree_of bytes)))))
      go (yes shapes) e all = not_slicing all shapes
      go (no slicing) (yes few) all = short all slicing few
      go (no slicing) (no fits) all = wrote all slicing fits

  -- and an answer with its cause is the answer
  pub demand1_tree_answer : {answer : Result ℕ Refusal} → TreeSays bytes capacity answer → answer ≡ tree_answer bytes capacity
  demand1_tree_answer (refused_record cause) = refused_checked Err bytes _ cause
  demand1_tree_answer (not_slicing all shapes) = sym (if_pos (dec_not_slicing bytes) shapes _ _) ∙ readable_checked Err bytes _ all
  demand1_tree_answer (short all slicing few) =
      sym (if_neg (dec_not_slicing bytes) slicing _ _ ∙ if_pos (dec_lt capacity (length (tree_of bytes))) few _ _)
      ∙ readable_checked Err bytes _ all
  demand1_tree_answer (wrote all slicing fits) =
      sym (if_neg (dec_not_slicing bytes) slicing _ _ ∙ if_neg (dec_lt capacity (length (tree_of bytes))) fits _ _)
      ∙ readable_checked Err bytes _ all
