-- Two relations of which exactly one holds, one way or the other, between two different numbers below n: then "along or across" is
-- a strict total order. For room lists along is "left of", and across is "below" for positions and "above" for labels.
use Rattle.std.proofs.Common.{sym, subst, inl, inr}
use Rattle.std.specs.Prelude.{◌≢◌, ◌⊎◌, ℕ, ◌<◌}
use Rattle.finite.specs.Decide.{dec-⊎, eq_or_ne}
use Rattle.finite.specs.Count.{Strict}

pub data Related (Along Across : ℕ → ℕ → Type 0) (a b : ℕ) : Type 0 where
  along : Along a b → Related Along Across a b
  along_back : Along b a → Related Along Across a b
  across : Across a b → Related Along Across a b
  across_back : Across b a → Related Along Across a b

pub record TwoOrders (n : ℕ) (Along Across : ℕ → ℕ → Type 0) : Type 0 where
  pub dec_along : (a b : ℕ) → Dec (Along a b)
  pub dec_across : (a b : ℕ) → Dec (Across a b)
  pub along< : {a b : ℕ} → Along a b → (a < n) × (b < n)
  pub across< : {a b : ℕ} → Across a b → (a < n) × (b < n)
  pub along_trans : {a b c : ℕ} → Along a b → Along b c → Along a c
  pub across_trans : {a b c : ℕ} → Across a b → Across b c → Across a c
  pub along_asym : {a b : ℕ} → Along a b → Along b a → ⊥
  pub across_asym : {a b : ℕ} → Across a b → Across b a → ⊥
  pub not_both : {a b : ℕ} → Along a b → Across a b → ⊥
  pub not_both_ways : {a b : ℕ} → Along a b → Across b a → ⊥
  pub related : (a b : ℕ) → a < n → b < n → a ≢ b → Related Along Across a b

-- across the other way
abbrev pub turned : {n : ℕ} {Along Across Back : ℕ → ℕ → Type 0} → ((a b : ℕ) → Dec (Back a b)) → ((a b : ℕ) → Across a b
    → Back b a) → ((a b : ℕ) → Back a b → Across b a)
    → TwoOrders n Along Across → TwoOrders n Along Back
turned {Along = Along} {Across} {Back} dec to from c = record {
  dec_along = c.dec_along;
  dec_across = dec;
  along< = c.along<;
  across< = λ r. ((c.across< (from _ _ r)).1, (c.across< (from _ _ r)).0);
  along_trans = c.along_trans;
  across_trans = λ r q. to _ _ (c.across_trans (from _ _ q) (from _ _ r));
  along_asym = c.along_asym;
  across_asym = λ r q. c.across_asym (from _ _ r) (from _ _ q);
  not_both = λ r q. c.not_both_ways r (from _ _ q);
  not_both_ways = λ r q. c.not_both r (from _ _ q);
  related = λ a b ha hb ne. turn_related (c.related a b ha hb ne);
}
  where
    turn_related : {a b : ℕ} → Related Along Across a b → Related Along Back a b
    turn_related (along r) = along r
    turn_related (along_back r) = along_back r
    turn_related (across r) = across_back (to _ _ r)
    turn_related (across_back r) = across (to _ _ r)

module _ {n : ℕ} {Along Across : ℕ → ℕ → Type 0} (c : TwoOrders n Along Across) where
  -- a comes before b
  abbrev pub Before : ℕ → ℕ → Type 0
  Before a b = Along a b ⊎ Across a b

  pub before_asym : {a b : ℕ} → Before a b → Before b a → ⊥
  before_asym (inl r) (inl q) = c.along_asym r q
  before_asym (inl r) (inr q) = c.not_both_ways r q
  before_asym (inr r) (inl q) = c.not_both_ways q r
  before_asym (inr r) (inr q) = c.across_asym r q

  pub before_total : (a b : ℕ) → a < n → b < n → a ≢ b → Before a b ⊎ Before b a
  before_total a b ha hb ne = elim (c.related a b ha hb ne) [ along r ↦ inl (inl r) | along_back r ↦ inr (inl r) | across r ↦ inl (inr r) | across_back r ↦ inr (inr r) ]

  along_then_across : {a b d : ℕ} → Along a b → Across b d → Before a d
  along_then_across {a} {b} {d} r q = elim (eq_or_ne a d) [
    | inl e ↦ absurd (c.not_both_ways r (subst (λ (x : ℕ). Across b x) (sym e) q))
    | inr ne ↦ elim (c.related a d (c.along< r).0 (c.across< q).1 ne) [
      | along t ↦ inl t
      | across t ↦ inr t
      | along_back t ↦ absurd (c.not_both_ways (c.along_trans t r) q)
      | across_back t ↦ absurd (c.not_both_ways r (c.across_trans q t))
    ]
  ]

  across_then_along : {a b d : ℕ} → Across a b → Along b d → Before a d
  across_then_along {a} {b} {d} r q = elim (eq_or_ne a d) [
    | inl e ↦ absurd (c.not_both_ways q (subst (λ (x : ℕ). Across x b) e r))
    | inr ne ↦ elim (c.related a d (c.across< r).0 (c.along< q).1 ne) [
      | along t ↦ inl t
      | across t ↦ inr t
      | along_back t ↦ absurd (c.not_both_ways (c.along_trans q t) r)
      | across_back t ↦ absurd (c.not_both_ways q (c.across_trans t r))
    ]
  ]

  pub before_trans : {a b d : ℕ} → Before a b → Before b d → Before a d
  before_trans (inl r) (inl q) = inl (c.along_trans r q)
  before_trans (inl r) (inr q) = along_then_across r q
  before_trans (inr r) (inl q) = across_then_along r q
  before_trans (inr r) (inr q) = inr (c.across_trans r q)

  unfoldable pub strict : Strict n Before
  unfolding dec-⊎
  strict = record { dec = λ a b. dec-⊎ (c.dec_along a b) (c.dec_across a b); asym = before_asym; trans = before_trans; total = before_total }
