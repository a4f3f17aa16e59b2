-- Chains of direct steps: two in a row are one, a map that keeps the steps keeps the chains, turned round they are chains again,
-- and whether one leads from one room to another is decided.
use Rattle.std.specs.Prelude.{◌≡◌, ◌⊎◌}
use Rattle.std.proofs.Common.{subst, inl, inr, eq-or-lt_of_le, le_of_suc-le-suc, not-suc-le-zero}
use Prim.Native.Nat.{ℕ, zero, suc, ◌<◌}
use Rattle.finite.specs.Decide.{dec-×, dec-⊎, dec_iff}
use Rattle.rooms.specs.Orders.{Chain, one, step}

pub chain_trans : {D : ℕ → ℕ → Type 0} {a b c : ℕ} → Chain D a b → Chain D b c → Chain D a c
chain_trans r (one d) = step r d
chain_trans r (step q d) = step (chain_trans r q) d

pub chain_map : {D E : ℕ → ℕ → Type 0} (f : ℕ → ℕ) → ((a b : ℕ) → D a b → E (f a) (f b)) → {a b : ℕ} → Chain D a b → Chain E (f a) (f b)
chain_map f h (one d) = one (h _ _ d)
chain_map f h (step r d) = step (chain_map f h r) (h _ _ d)

pub chain_turn : {D E : ℕ → ℕ → Type 0} → ((a b : ℕ) → D a b → E b a) → {a b : ℕ} → Chain D a b → Chain E b a
chain_turn h (one d) = one (h _ _ d)
chain_turn h (step r d) = chain_trans (one (h _ _ d)) (chain_turn h r)

-- ---- deciding: through ever more rooms on the way
module _ (D : ℕ → ℕ → Type 0) where
  -- a chain from a to b all of whose inner numbers are below m
  abbrev Via : (m a b : ℕ) → Type 0
  Via zero a b = D a b
  Via (suc m) a b = Via m a b ⊎ (Via m a m × Via m m b)

  pub via→chain : (m a b : ℕ) → Via m a b → Chain D a b
  via→chain zero a b d = one d
  via→chain (suc m) a b (inl v) = via→chain m a b v
  via→chain (suc m) a b (inr v) = chain_trans (via→chain m a m v.0) (via→chain m m b v.1)

  via_join : (m a c b : ℕ) → c < m → Via m a c → Via m c b → Via m a b
  via_join zero a c b h u v = absurd (not-suc-le-zero h)
  via_join (suc m) a c b h u v = go (λ x y l p q. via_join m x c y l p q) (eq-or-lt_of_le (le_of_suc-le-suc h))
    where
      to_m : (x : ℕ) → Via (suc m) x m → Via m x m
      to_m x (inl p) = p
      to_m x (inr p) = p.0

      from_m : (x : ℕ) → Via (suc m) m x → Via m m x
      from_m x (inl p) = p
      from_m x (inr p) = p.1

      both : ((x y : ℕ) → Via m x c → Via m c y → Via m x y) → Via (suc m) a c → Via (suc m) c b → Via (suc m) a b
      both f (inl p) (inl q) = inl (f a b p q)
      both f (inl p) (inr q) = inr (f a m p q.0, q.1)
      both f (inr p) (inl q) = inr (p.0, f m b p.1 q)
      both f (inr p) (inr q) = inr (p.0, q.1)

      go : ((x y : ℕ) → c < m → Via m x c → Via m c y → Via m x y) → (c ≡ m) ⊎ (c < m) → Via (suc m) a b
      go f (inl e) = inr (to_m a (subst (Via (suc m) a) e u), from_m b (subst (λ (x : ℕ). Via (suc m) x b) e v))
      go f (inr l) = both (λ x y. f x y l) u v

  step→via : (m a b : ℕ) → D a b → Via m a b
  step→via zero a b d = d
  step→via (suc m) a b d = inl (step→via m a b d)

  pub chain→via : (m : ℕ) → ((a b : ℕ) → D a b → a < m) → {a b : ℕ} → Chain D a b → Via m a b
  chain→via m h (one d) = step→via m _ _ d
  chain→via m h (step r d) = via_join m _ _ _ (h _ _ d) (chain→via m h r) (step→via m _ _ d)

  module _ (dec : (a b : ℕ) → Dec (D a b)) where
    unfoldable dec_via : (m a b : ℕ) → Dec (Via m a b)
    unfolding dec-× dec-⊎
    dec_via zero a b = dec a b
    dec_via (suc m) a b = dec-⊎ (dec_via m a b) (dec-× (dec_via m a m) (dec_via m m b))

    -- whether a chain leads from a to b, where every step starts below n
    unfoldable pub dec_chain : (n : ℕ) → ((a b : ℕ) → D a b → a < n) → (a b : ℕ) → Dec (Chain D a b)
    unfolding dec_iff dec_via
    dec_chain n h a b = dec_iff (via→chain n a b) (chain→via n h) (dec_via n a b)
