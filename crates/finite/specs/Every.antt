-- A test that is computed at every number below a bound, and the law that this gives.
use Rattle.std.specs.Prelude.{Bool, true, false, ◌&&◌, ◌⊎◌, ◌≡◌, ℕ, zero, suc, ◌<◌, T}
use Rattle.std.proofs.Common.{inl, inr, subst, sym, not-suc-le-zero, le_of_suc-le-suc, eq-or-lt_of_le}

abbrev pub every : ℕ → (ℕ → Bool) → Bool
every zero f = true
every (suc n) f = f n && every n f

and_both : (a b : Bool) → T (a && b) → T a × T b
and_both true b t = (tt, t)
and_both false b t = absurd t

pub every_at : (n : ℕ) (f : ℕ → Bool) → T (every n f) → (k : ℕ) → k < n → T (f k)
every_at zero f t k h = absurd (not-suc-le-zero h)
every_at (suc n) f t k h = go (eq-or-lt_of_le (le_of_suc-le-suc h)) (every_at n f (and_both (f n) (every n f) t).1 k)
  where
    go : (k ≡ n) ⊎ (k < n) → (k < n → T (f k)) → T (f k)
    go (inl e) rest = subst (λ (m : ℕ). T (f m)) (sym e) (and_both (f n) (every n f) t).0
    go (inr l) rest = rest l
