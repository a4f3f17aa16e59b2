-- The recursion counts sequences of triples.
use Rattle.std.specs.Prelude.{Bool, not, true, false, List, [], ◌∷◌, ◌≡◌, refl, ℕ, zero, suc, ◌+◌, length}
use Rattle.std.proofs.Common.{sym, ap, subst, ◌∙◌, arith}
use Rattle.bits.specs.Bit.{bit}
use Rattle.record.specs.Triple.{Triple, triple}
use Rattle.record.specs.Walk.{Counts, missing, counts, step, and_then}
use Rattle.record.specs.Record.{triple_bit}
use Rattle.record.specs.Rises.{third_of}
use Rattle.finite.specs.HowMany.{HowMany}
use Rattle.counting.specs.Ways.{over_bit, after_step, after_third, ways}
use Rattle.finite.specs.Numbered.{none_has, one_has, as_many, as_well, by_bit}

-- where a walk comes to along the triples of a list
abbrev pub onward : List Triple → Counts → Counts
onward [] c = c
onward (t ∷ ts) c = onward ts (and_then c (step t))

-- 1 for the triple of a rise, else 0
abbrev pub rise : Triple → ℕ
rise t = bit (not (third_of t))

abbrev pub rises_in : List Triple → ℕ
rises_in [] = 0
rises_in (t ∷ ts) = rise t + rises_in ts

-- k triples, of which r are rises, that lead from p and q to 0 and 0
pub record Leads (k p q r : ℕ) (ts : List Triple) : Type 0 where
  pub size : length ts ≡ k
  pub ends : onward ts (counts p q) ≡ counts 0 0
  pub rises : rises_in ts ≡ r

-- the number of runs, and 0 where one is missing
abbrev runs_of : Counts → ℕ
runs_of missing = 0
runs_of (counts p q) = suc (p + q)

-- ---- no triple is left
at_end : (p q r : ℕ) (ts : List Triple) → Leads 0 p q r ts → p + q + r ≡ 0
at_end p q r [] l = omega (arith, ap runs_of l.ends, l.rises)
at_end p q r (t ∷ ts) l = absurd (omega (arith, l.size))

none_left : (p q r : ℕ) → HowMany (Leads 0 p q r) (ways 0 p q r)
unfolding ways
none_left zero zero zero = one_has [] (record { size = refl; ends = refl; rises = refl }) only
  where
    only : (ts : List Triple) → Leads 0 0 0 0 ts → [] ≡ ts
    only [] l = refl
    only (t ∷ ts) l = absurd (omega (arith, l.size))
none_left zero zero (suc r) = none_has [] (λ ts l. omega (arith, at_end 0 0 (suc r) ts l))
none_left zero (suc q) r = none_has [] (λ ts l. omega (arith, at_end 0 (suc q) r ts l))
none_left (suc p) q r = none_has [] (λ ts l. omega (arith, at_end (suc p) q r ts l))

-- ---- sorted by the first triple
abbrev first_bit : ℕ → List Triple → Bool
first_bit i [] = false
first_bit i (t ∷ ts) = triple_bit t i

module _ (P : List Triple → Type 0) (some : ¬ P []) (count : Triple → ℕ) (many : (t : Triple) → HowMany (λ ts. P (t ∷ ts)) (count t)) where
  beginning : (a b c : Bool) → HowMany (λ ts. ((P ts × (first_bit 0 ts ≡ a)) × (first_bit 1 ts ≡ b)) × (first_bit 2 ts ≡ c)) (count (triple a b c))
  beginning a b c = as_many (λ ts. triple a b c ∷ ts) (λ ts p. (((p, refl), refl), refl)) (λ ts us p q e. cc) onto (many (triple a b c))
    where
      onto : (ts : List Triple) → ((P ts × (first_bit 0 ts ≡ a)) × (first_bit 1 ts ≡ b)) × (first_bit 2 ts ≡ c) → (us : List Triple) × P (triple a b c ∷ us) × (triple a b c ∷ us ≡ ts)
      onto [] h = absurd (some h.0.0.0)
      onto (triple first second third ∷ us) (((p, x), y), z) =
          let same : triple first second third ∷ us ≡ triple a b c ∷ us = λ i. triple (x i) (y i) (z i) ∷ us in
          (us, subst P same p, sym same)

  by_triple : HowMany P (over_bit λ a. over_bit λ b. over_bit λ c. count (triple a b c))
  by_triple =
      by_bit P (first_bit 0) (λ a. over_bit λ b. over_bit λ c. count (triple a b c)) λ a.
      by_bit (λ ts. P ts × (first_bit 0 ts ≡ a)) (first_bit 1) (λ b. over_bit λ c. count (triple a b c)) λ b.
      by_bit (λ ts. (P ts × (first_bit 0 ts ≡ a)) × (first_bit 1 ts ≡ b)) (first_bit 2) (λ c. count (triple a b c)) λ c. beginning a b c

-- ---- a triple is left
missing_stays : (ts : List Triple) → onward ts missing ≡ missing
missing_stays [] = refl
missing_stays (t ∷ ts) = missing_stays ts

-- after one triple: k more, with s rises among them
module _ (k : ℕ) (many : (p q r : ℕ) → HowMany (Leads k p q r) (ways k p q r)) (t : Triple) (p q r s : ℕ) (wanted : r ≡ rise t + s) where
  after_step_lem : HowMany (λ ts. Leads (suc k) p q r (t ∷ ts)) (after_step (step t p q) λ p q. ways k p q s)
  after_step_lem = go (step t p q) refl
    where
      go : (c : Counts) → step t p q ≡ c → HowMany (λ ts. Leads (suc k) p q r (t ∷ ts)) (after_step c λ p q. ways k p q s)
      go missing e = none_has [] (λ ts l. omega (arith, ap runs_of (sym (missing_stays ts) ∙ ap (onward ts) (sym e) ∙ l.ends)))
      go (counts a b) e =
          as_well (λ ts l. record { size = ap suc l.size; ends = ap (onward ts) e ∙ l.ends; rises = omega (arith, l.rises) })
          (λ ts l. record { size = omega (arith, l.size); ends = ap (onward ts) (sym e) ∙ l.ends; rises = omega (arith, l.rises) }) (many a b s)

-- where r rises are wanted
one_left : (k : ℕ) → ((p q r : ℕ) → HowMany (Leads k p q r) (ways k p q r)) → (p q r : ℕ) (t : Triple)
    → HowMany (λ ts. Leads (suc k) p q r (t ∷ ts)) (after_third (triple_bit t 2) r λ r. after_step (step t p q) λ p q. ways k p q r)
one_left k many p q r (triple a b true) = after_step_lem k many (triple a b true) p q r r (omega arith)
one_left k many p q zero (triple a b false) = none_has [] (λ ts l. omega (arith, l.rises))
one_left k many p q (suc r) (triple a b false) = after_step_lem k many (triple a b false) p q (suc r) r (omega arith)

-- the recursion counts the sequences
pub ways_how_many : (k p q r : ℕ) → HowMany (Leads k p q r) (ways k p q r)
unfolding ways
ways_how_many zero p q r = none_left p q r
ways_how_many (suc k) p q r =
    by_triple (Leads (suc k) p q r) (λ l. omega (arith, l.size)) (λ t. after_third (triple_bit t 2) r λ r. after_step (step t p q) λ p q. ways k p q r) (one_left k (ways_how_many k) p q r)
