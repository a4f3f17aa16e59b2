-- The run of a decided property round a stretch of numbers that all have it: where it starts, and where it ends.
use Rattle.std.specs.Prelude.{◌≡◌}
use Rattle.std.proofs.Common.{sym, eq-or-lt_of_le, le_of_suc-le-suc, add-zero, arith}
use Rattle.std.proofs.Math.Path.{subst}
use Rattle.std.proofs.Math.Logic.{inl, inr, ite}
use Prim.Native.Nat.{ℕ, zero, suc, ◌+◌, ◌≤◌}
use Rattle.finite.specs.Search.{Each}

module _ (P : ℕ → Type 0) where
  -- the run that ends before z starts there
  pub record StartsAt (z start : ℕ) : Type 0 where
    pub le : start ≤ z
    pub has : Each P start z
    pub not_before : (w : ℕ) → suc w ≡ start → ¬ P w

  -- the run that starts at z ends before there
  pub record EndsAt (z end : ℕ) : Type 0 where
    pub le : z ≤ end
    pub has : Each P z end
    pub not_there : ¬ P end

module _ (P : ℕ → Type 0) (d : (z : ℕ) → Dec (P z)) where
  pub run_start : (z : ℕ) → ℕ
  run_start zero = 0
  run_start (suc z) = ite (d z) (run_start z) (suc z)

  pub run_start_lem : (z : ℕ) → StartsAt P z (run_start z)
  unfolding run_start
  run_start_lem zero = record { le = omega arith; has = λ i a b. absurd (omega arith); not_before = λ w e. absurd (omega arith) }
  run_start_lem (suc z) = go (d z) (run_start_lem z)
    where
      go : (e : Dec (P z)) → StartsAt P z (run_start z) → StartsAt P (suc z) (ite e (run_start z) (suc z))
      go (yes p) r = record {
        le = omega (arith, r.le);
        has = λ i a b. elim (eq-or-lt_of_le (le_of_suc-le-suc b)) [ inl q ↦ subst P (sym q) p | inr l ↦ r.has i a l ];
        not_before = r.not_before;
      }
      go (no h) r = record { le = omega arith; has = λ i a b. absurd (omega arith); not_before = λ w e. subst (λ (v : ℕ). ¬ P v) (omega arith) h }

  -- at most so far from z
  pub run_end : (far z : ℕ) → ℕ
  run_end zero z = z
  run_end (suc far) z = ite (d z) (run_end far (suc z)) z

  pub run_end_lem : (far z : ℕ) → ¬ P (z + far) → EndsAt P z (run_end far z)
  unfolding run_end
  run_end_lem zero z h = record { le = omega arith; has = λ i a b. absurd (omega arith); not_there = subst (λ (v : ℕ). ¬ P v) (add-zero z) h }
  run_end_lem (suc far) z h = go (d z) (run_end_lem far (suc z) (subst (λ (v : ℕ). ¬ P v) (omega arith) h))
    where
      go : (e : Dec (P z)) → EndsAt P (suc z) (run_end far (suc z)) → EndsAt P z (ite e (run_end far (suc z)) z)
      go (yes p) r = record {
        le = omega (arith, r.le);
        has = λ i a b. elim (eq-or-lt_of_le a) [ inl q ↦ subst P q p | inr l ↦ r.has i l b ];
        not_there = r.not_there;
      }
      go (no n) r = record { le = omega arith; has = λ i a b. absurd (omega arith); not_there = n }
