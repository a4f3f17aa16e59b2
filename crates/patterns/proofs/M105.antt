-- M-105 as theorems: no four labels meet both conditions, and the first pattern is the only first; each answer has its cause, and an
-- answer with its cause is the answer; a pattern and "no pattern" are told apart.
use Rattle.std.specs.Prelude.{Result, Ok, Err, Option, Some, None, List, ◌↔◌, ◌≡◌, refl, ℕ, ◌<◌, length}
use Rattle.std.proofs.Common.{inl, inr, sym, subst, ◌∙◌, arith}
use Rattle.finite.specs.Decide.{le_or_lt, eq_or_ne}
use Rattle.record.specs.Labels.{label_at}
use Rattle.record.specs.Barred.{Barred, Baxter}
use Rattle.record.specs.Causes.{dec_barred}
use Rattle.record.specs.Refusal.{number_of}
use Rattle.record.specs.Judged.{Permutation, NotPermutation, count, outside, twice, refused_permuted, permutation_permuted, permuted_has, RefusesLabels, not_permutation, barred}
use Rattle.record.specs.Answer.{labels_answer}
use Rattle.record.specs.Demand1 as labels_in
use Rattle.record.specs.Demand1.{LabelsSays, demand1_labels_cause, demand1_labels_answer}
use Rattle.record.proofs.Demand2.{permutation_once}
use Rattle.record.specs.declared.Refusal.{Refusal}
use Rattle.record.specs.declared.Refusal.TheVariants.{BarredPattern}
use Rattle.patterns.specs.Pattern.{Meets, Four, Before, FirstPattern}
use Rattle.patterns.specs.FirstOne.{first_four}
use Rattle.patterns.proofs.FirstOne.{pattern_barred, first_four_first}
use Rattle.patterns.specs.Answer.{four_of, named, first_or_none, pattern_answer}
use Rattle.patterns.specs.declared.Condition.{Condition}
use Rattle.patterns.specs.declared.Condition.TheVariants as condition
use Rattle.patterns.specs.declared.Pattern.{Pattern}

-- ---- one condition, and one first
-- no four labels meet both conditions, so the condition named is that of the four
pub m105_one_condition : (which other : Condition) (a b c d : ℕ) → Meets which a b c d → Meets other a b c d → which ≡ other
m105_one_condition condition.First condition.First a b c d m o = refl
m105_one_condition condition.First condition.Second a b c d m o = absurd (omega (arith, m, o))
m105_one_condition condition.Second condition.First a b c d m o = absurd (omega (arith, m, o))
m105_one_condition condition.Second condition.Second a b c d m o = refl

data Compared (a b : ℕ) : Type 0 where
  less : a < b → Compared a b
  same : a ≡ b → Compared a b
  more : b < a → Compared a b

compared : (a b : ℕ) → Compared a b
compared a b = elim (eq_or_ne a b) [ inl e ↦ same e | inr d ↦ elim (le_or_lt a b) [ inl h ↦ less (omega arith) | inr h ↦ more h ] ]

-- of two different fours one comes before the other
neither_before : (p q : Four) → ¬ Before p q → ¬ Before q p → p ≡ q
neither_before p q np nq = go (compared p.i q.i) (compared p.j q.j) (compared p.k q.k) (compared p.l q.l)
  where
    go : Compared p.i q.i → Compared p.j q.j → Compared p.k q.k → Compared p.l q.l → p ≡ q
    go (less h) j k l = absurd (np (inl h))
    go (more h) j k l = absurd (nq (inl h))
    go (same a) (less h) k l = absurd (np (inr (a, inl h)))
    go (same a) (more h) k l = absurd (nq (inr (sym a, inl h)))
    go (same a) (same b) (less h) l = absurd (np (inr (a, inr (b, inl h))))
    go (same a) (same b) (more h) l = absurd (nq (inr (sym a, inr (sym b, inl h))))
    go (same a) (same b) (same c) (less h) = absurd (np (inr (a, inr (b, inr (c, h)))))
    go (same a) (same b) (same c) (more h) = absurd (nq (inr (sym a, inr (sym b, inr (sym c, h)))))
    go (same a) (same b) (same c) (same d) = λ x. record { i = a x; j = b x; k = c x; l = d x }

-- the first pattern is the only first
pub m105_only_first : (f : ℕ → ℕ) (n : ℕ) (which other : Condition) (p q : Four) → FirstPattern f n which p → FirstPattern f n other q
    → (which ≡ other) × (p ≡ q)
m105_only_first f n which other p q x y =
    (m105_one_condition which other (f q.i) (f q.j) (f q.k) (f q.l) (rw e at x.pattern.meets) y.pattern.meets, e)
  where
    e : p ≡ q
    e = neither_before p q (y.first which p x.pattern) (x.first other q y.pattern)

-- ---- the answers and their causes
-- an answer with its cause, and without the causes that the order names before it
pub data PatternSays (labels : List ℕ) : Result (Option Pattern) Refusal → Type 0 where
  refused : {refusal : Refusal} → NotPermutation labels refusal → PatternSays labels (Err refusal)
  first : Permutation labels → {p : Pattern} → FirstPattern (label_at labels) (length labels) p.condition (four_of p)
      → PatternSays labels (Ok (Some p))
  none : Permutation labels → ¬ Barred (label_at labels) (length labels) → PatternSays labels (Ok None)

-- each answer has its cause
pub m105_cause : (labels : List ℕ) → PatternSays labels (pattern_answer labels)
m105_cause labels = permuted_has (PatternSays labels) Err labels _ (λ refusal cause. refused cause) (go (dec_barred f n))
  where
    f : ℕ → ℕ
    f = label_at labels

    n : ℕ
    n = length labels

    go : (d : Dec (Barred f n)) → Permutation labels → PatternSays labels (first_or_none f n d)
    go (yes has) p = first p (first_four_first f n has)
    go (no free) p = none p free

first_is : (f : ℕ → ℕ) (n : ℕ) (d : Dec (Barred f n)) (which : Condition) (p : Four) → FirstPattern f n which p
    → named which p ≡ first_or_none f n d
first_is f n (yes has) which p x =
    let e = m105_only_first f n which _ p _ x (first_four_first f n has) in
    λ i. named (e.0 i) (e.1 i)
first_is f n (no free) which p x = absurd (free (pattern_barred f n which p x.pattern))

none_is : (f : ℕ → ℕ) (n : ℕ) (d : Dec (Barred f n)) → ¬ Barred f n → Ok None ≡ first_or_none f n d
none_is f n (yes has) free = absurd (free has)
none_is f n (no _) free = refl

-- and an answer with its cause is the answer
pub m105_answer : (labels : List ℕ) {answer : Result (Option Pattern) Refusal} → PatternSays labels answer → answer ≡ pattern_answer labels
m105_answer labels (refused cause) = refused_permuted Err labels _ cause
m105_answer labels (first p {p = pattern} x) =
    first_is (label_at labels) (length labels) (dec_barred (label_at labels) (length labels)) pattern.condition (four_of pattern) x
    ∙ permutation_permuted Err labels _ p
m105_answer labels (none p free) =
    none_is (label_at labels) (length labels) (dec_barred (label_at labels) (length labels)) free ∙ permutation_permuted Err labels _ p

module _ (labels : List ℕ) where
  -- an answer that is known, with its cause
  says : {answer : Result (Option Pattern) Refusal} → pattern_answer labels ≡ answer → PatternSays labels answer
  says e = subst (PatternSays labels) e (m105_cause labels)

  -- ---- what is told of a list with none of the causes 1, 6 and 7
  module _ (p : Permutation labels) where
    -- "The four are the first ones": these are named, and no others
    pub m105_named_iff_first : (which : Condition) (q : Four)
        → (pattern_answer labels ≡ named which q) ↔ FirstPattern (label_at labels) (length labels) which q
    m105_named_iff_first which q = (λ e. go (says e), λ x. sym (m105_answer labels (first p x)))
      where
        go : PatternSays labels (named which q) → FirstPattern (label_at labels) (length labels) which q
        go (first _ x) = x

    -- "the two are told apart by proof": "no pattern" is answered exactly for the Baxter lists
    pub m105_no_pattern_iff_baxter : (pattern_answer labels ≡ Ok None) ↔ Baxter labels
    m105_no_pattern_iff_baxter = (λ e. go (says e), λ b. sym (m105_answer labels (none p b.not_barred)))
      where
        go : PatternSays labels (Ok None) → Baxter labels
        go (none _ free) = record { each_once = (permutation_once labels p).0; not_barred = free }

  -- ---- beside what Labels in answers, with any room for the record
  module _ (capacity : ℕ) where
    -- Labels in refuses the list so
    abbrev pub RefusedWith : Refusal → Type 0
    RefusedWith refusal = labels_answer labels capacity ≡ Err refusal

    labels_say : {refusal : Refusal} → RefusedWith refusal → LabelsSays labels capacity (Err refusal)
    labels_say e = subst (LabelsSays labels capacity) e (demand1_labels_cause labels capacity)

    refused_with : {refusal : Refusal} → RefusesLabels labels refusal → RefusedWith refusal
    refused_with cause = sym (demand1_labels_answer labels capacity (labels_in.refused cause))

    -- "For a label list refused so": a pattern is named exactly for the lists that Labels in refuses with 8
    pub m105_named_iff_refused_with_8 :
        RefusedWith BarredPattern ↔ ((which : Condition) × (p : Four) × (pattern_answer labels ≡ named which p))
    m105_named_iff_refused_with_8 = (λ e. there (labels_say e), λ (which, p, e). back (says e))
      where
        there : LabelsSays labels capacity (Err BarredPattern)
            → (which : Condition) × (p : Four) × (pattern_answer labels ≡ named which p)
        there (labels_in.refused (barred p b)) =
            let found = first_four (label_at labels) (length labels) b in
            (found.which, found.four, sym (m105_answer labels (first p (first_four_first (label_at labels) (length labels) b))))
        there (labels_in.refused (not_permutation cause)) = elim cause [ ]

        back : {which : Condition} {q : Four} → PatternSays labels (named which q) → RefusedWith BarredPattern
        back {which} {q} (first p x) = refused_with (barred p (pattern_barred (label_at labels) (length labels) which q x.pattern))

    -- so a list with none of the causes 1, 6 and 7 gets "no pattern" exactly if Labels in does not refuse it with 8
    pub m105_no_pattern_iff_not_refused_with_8 : Permutation labels → (pattern_answer labels ≡ Ok None) ↔ ¬ RefusedWith BarredPattern
    m105_no_pattern_iff_not_refused_with_8 p = (λ e r. never (labels_say r) (says e), back (dec_barred (label_at labels) (length labels)))
      where
        never : LabelsSays labels capacity (Err BarredPattern) → PatternSays labels (Ok None) → ⊥
        never (labels_in.refused (barred _ b)) (none _ free) = free b
        never (labels_in.refused (not_permutation cause)) _ = elim cause [ ]

        back : Dec (Barred (label_at labels) (length labels)) → ¬ RefusedWith BarredPattern → pattern_answer labels ≡ Ok None
        back (yes b) not_so = absurd (not_so (refused_with (barred p b)))
        back (no free) not_so = sym (m105_answer labels (none p free))

    -- "Lists refused with 1, 6 or 7 get that number", and no list another
    pub m105_same_refusals : (refusal : Refusal) → (pattern_answer labels ≡ Err refusal) ↔ (RefusedWith refusal × (number_of refusal < 8))
    m105_same_refusals refusal = (λ e. there (says e), λ (e, h). back h (labels_say e))
      where
        small : {refusal : Refusal} → NotPermutation labels refusal → number_of refusal < 8
        small (count _) = omega arith
        small (outside _ _) = omega arith
        small (twice _ _ _) = omega arith

        there : PatternSays labels (Err refusal) → RefusedWith refusal × (number_of refusal < 8)
        there (refused cause) = (refused_with (not_permutation cause), small cause)

        back : {refusal : Refusal} → number_of refusal < 8 → LabelsSays labels capacity (Err refusal)
            → pattern_answer labels ≡ Err refusal
        back h (labels_in.refused (not_permutation cause)) = sym (m105_answer labels (refused cause))
        back h (labels_in.refused (barred _ _)) = absurd (omega arith)
        back h (labels_in.short _ _) = absurd (omega arith)
