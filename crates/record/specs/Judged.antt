-- The causes of a label list in the sheet's order, as they stand before 15: "labels 1, 6, 7, 8". Each call that takes labels, in
-- whatever form, judges them so.
use Rattle.std.specs.Prelude.{◌≡◌, List, ℕ, length}
use Rattle.std.proofs.Common.{sym, subst, ◌∙◌}
use Rattle.std.proofs.Math.Logic.{ite, if_pos, if_neg}
use Rattle.record.specs.Labels.{label_at}
use Rattle.record.specs.Labels as cause
use Rattle.record.specs.Barred.{Barred}
use Rattle.record.specs.Causes.{BadCount, dec_count, dec_outside, dec_twice, dec_barred}
use Rattle.record.specs.declared.Refusal.{Refusal}
use Rattle.record.specs.declared.Refusal.TheVariants.{Count, LabelOutside, LabelTwice, BarredPattern}

-- the first refusal of "1, 6, 7", or what follows for a list of 1 to 255 labels that are "the labels 1 to n, each once"
abbrev pub permuted : {A : Type 0} → (Refusal → A) → (labels : List ℕ) → A → A
permuted refuse labels good =
    ite (dec_count (length labels)) (refuse Count)
    (ite (dec_outside labels) (refuse LabelOutside)
    (ite (dec_twice labels) (refuse LabelTwice)
    good))

-- the first refusal of the order, or what follows where there is none
abbrev pub judged : {A : Type 0} → (Refusal → A) → (labels : List ℕ) → A → A
judged refuse labels good = permuted refuse labels (ite (dec_barred (label_at labels) (length labels)) (refuse BarredPattern) good)

-- ---- the causes 1, 6 and 7
-- a list that has none of them
pub record Permutation (labels : List ℕ) : Type 0 where
  pub count : ¬ BadCount (length labels)
  pub inside : ¬ cause.LabelOutside labels
  pub single : ¬ cause.LabelTwice labels

-- a refusal for one of them with its cause, and without the causes that the order names before it
pub data NotPermutation (labels : List ℕ) : Refusal → Type 0 where
  count : BadCount (length labels) → NotPermutation labels Count
  outside : ¬ BadCount (length labels) → cause.LabelOutside labels → NotPermutation labels LabelOutside
  twice : ¬ BadCount (length labels) → ¬ cause.LabelOutside labels → cause.LabelTwice labels → NotPermutation labels LabelTwice

module _ {A : Type 0} (refuse : Refusal → A) (labels : List ℕ) (good : A) where
  pub refused_permuted : {refusal : Refusal} → NotPermutation labels refusal → refuse refusal ≡ permuted refuse labels good
  refused_permuted (count a) = sym (if_pos (dec_count (length labels)) a _ _)
  refused_permuted (outside a b) = sym (if_neg (dec_count (length labels)) a _ _ ∙ if_pos (dec_outside labels) b _ _)
  refused_permuted (twice a b c) =
      sym (if_neg (dec_count (length labels)) a _ _ ∙ if_neg (dec_outside labels) b _ _ ∙ if_pos (dec_twice labels) c _ _)

  pub permutation_permuted : Permutation labels → good ≡ permuted refuse labels good
  permutation_permuted p =
      sym (if_neg (dec_count (length labels)) p.count _ _ ∙ if_neg (dec_outside labels) p.inside _ _
      ∙ if_neg (dec_twice labels) p.single _ _)

-- each list has the first of these causes, or none
pub data Permuted (labels : List ℕ) : Type 0 where
  refused : {refusal : Refusal} → NotPermutation labels refusal → Permuted labels
  whole : Permutation labels → Permuted labels

pub permutation : (labels : List ℕ) → Permuted labels
permutation labels = go (dec_count (length labels)) (dec_outside labels) (dec_twice labels)
  where
    go : Dec (BadCount (length labels)) → Dec (cause.LabelOutside labels) → Dec (cause.LabelTwice labels) → Permuted labels
    go (yes a) b c = refused (count a)
    go (no a) (yes b) c = refused (outside a b)
    go (no a) (no b) (yes c) = refused (twice a b c)
    go (no a) (no b) (no c) = whole (record { count = a; inside = b; single = c })

-- what these causes in their order give, where it is known for each refusal and for what follows
pub permuted_has : {A : Type 0} (P : A → Type 0) (refuse : Refusal → A) (labels : List ℕ) (good : A)
    → ((refusal : Refusal) → NotPermutation labels refusal → P (refuse refusal)) → (Permutation labels → P good)
    → P (permuted refuse labels good)
permuted_has P refuse labels good if-refused if-whole = go (permutation labels)
  where
    go : Permuted labels → P (permuted refuse labels good)
    go (refused {refusal} cause) = subst P (refused_permuted refuse labels good cause) (if-refused refusal cause)
    go (whole p) = subst P (permutation_permuted refuse labels good p) (if-whole p)

-- ---- and the cause 8
-- a list that has none of the causes
pub record Sound (labels : List ℕ) : Type 0 where
  pub permutation : Permutation labels
  pub free : ¬ Barred (label_at labels) (length labels)

-- a refusal of a label list with its cause, and without the causes that the order names before it
pub data RefusesLabels (labels : List ℕ) : Refusal → Type 0 where
  not_permutation : {refusal : Refusal} → NotPermutation labels refusal → RefusesLabels labels refusal
  barred : Permutation labels → Barred (label_at labels) (length labels) → RefusesLabels labels BarredPattern

module _ {A : Type 0} (refuse : Refusal → A) (labels : List ℕ) (good : A) where
  pub refused_judged : {refusal : Refusal} → RefusesLabels labels refusal → refuse refusal ≡ judged refuse labels good
  refused_judged (not_permutation cause) = refused_permuted refuse labels _ cause
  refused_judged (barred p b) = sym (if_pos (dec_barred (label_at labels) (length labels)) b _ _) ∙ permutation_permuted refuse labels _ p

  pub sound_judged : Sound labels → good ≡ judged refuse labels good
  sound_judged s =
      sym (if_neg (dec_barred (label_at labels) (length labels)) s.free _ _) ∙ permutation_permuted refuse labels _ s.permutation

-- each list is refused with a cause, or sound
pub data Judgement (labels : List ℕ) : Type 0 where
  refused : {refusal : Refusal} → RefusesLabels labels refusal → Judgement labels
  sound : Sound labels → Judgement labels

pub judgement : (labels : List ℕ) → Judgement labels
judgement labels = go (permutation labels) (dec_barred (label_at labels) (length labels))
  where
    go : Permuted labels → Dec (Barred (label_at labels) (length labels)) → Judgement labels
    go (refused cause) d = refused (not_permutation cause)
    go (whole p) (yes b) = refused (barred p b)
    go (whole p) (no f) = sound (record { permutation = p; free = f })

-- what the causes in their order give, where it is known for each refusal and for what follows
pub judged_has : {A : Type 0} (P : A → Type 0) (refuse : Refusal → A) (labels : List ℕ) (good : A)
    → ((refusal : Refusal) → RefusesLabels labels refusal → P (refuse refusal)) → (Sound labels → P good)
    → P (judged refuse labels good)
judged_has P refuse labels good if-refused if-sound = go (judgement labels)
  where
    go : Judgement labels → P (judged refuse labels good)
    go (refused {refusal} cause) = subst P (refused_judged refuse labels good cause) (if-refused refusal cause)
    go (sound all) = subst P (sound_judged refuse labels good all) (if-sound all)
