-- The table of places: none before the first position, and one more position.
use mathlib.Core.List.{List}
use mathlib.Core.Logic.{◌≢◌, inl, inr}
use mathlib.Core.Path.{◌≡◌, sym, ap, ◌∙◌}
use Prim.Native.Nat.{ℕ, suc, ◌≤◌, ◌<◌}
use native.Mathlib.Omega.{arith}
use native.Mathlib.Decide.{ℕ_discrete}
use lib.ListN.{get_or, set, replicate, get_or-replicate, length-set, length-replicate}
use lib.Seq.{get_or-set_same, get_or-set_other}
use Rattle.finite.specs.Decide.{eq_or_ne}
use Rattle.finite.specs.Search.{Some}
use Rattle.patterns.specs.Completion.{Place}
use Rattle.searching.specs.Places.{Places}

pub placed_none : (f : ℕ → ℕ) → Places f 0 (replicate 257 0)
placed_none f = record {
  size = length-replicate {A = ℕ} 257 0;
  each = λ x h.
      let z = get_or-replicate {A = ℕ} 257 x 0 0 h in
      record { within = omega arith; own = λ p. absurd (omega arith); after = λ y a b. absurd (omega arith) };
}

module _ (f : ℕ → ℕ) (k : ℕ) (places : List ℕ) (small : f (suc k) < 257) (placed : Places f k places) where
  abbrev more : List ℕ
  more = set places (f (suc k)) (suc k)

  -- the label of the new position
  here : get_or more (f (suc k)) 0 ≡ suc k
  here = get_or-set_same places (f (suc k)) (suc k) 0 (omega (arith, placed.size))

  here_place : Place f (suc k) (f (suc k)) (suc k)
  here_place = record { within = omega arith; own = λ h. cc; after = λ y a b. absurd (omega arith) }

  -- another label
  there_place : (x : ℕ) → x ≢ f (suc k) → {p : ℕ} → Place f k x p → Place f (suc k) x p
  there_place x differs {p} place = record {
    within = omega (arith, place.within);
    own = place.own;
    after = λ y a b e. elim (eq_or_ne y (suc k)) [ inl q ↦ differs (sym e ∙ ap f q) | inr q ↦ place.after y a (omega arith) e ];
  }

  pub placed_more : Places f (suc k) more
  placed_more = record { size = length-set places (f (suc k)) (suc k) ∙ placed.size; each = λ x h. go x h (ℕ_discrete x (f (suc k))) }
    where
      go : (x : ℕ) → x < 257 → Dec (x ≡ f (suc k)) → Place f (suc k) x (get_or more x 0)
      go x h (yes e) = rw (e, here) here_place
      go x h (no differs) = rw (get_or-set_other places (f (suc k)) x (suc k) 0 differs) (there_place x differs (placed.each x h))

-- ---- labels that occur twice
-- the label of position j stands at an earlier position too
abbrev pub TwiceAt : (f : ℕ → ℕ) (j : ℕ) → Type 0
TwiceAt f j = Some (λ i. f i ≡ f j) 1 j

module _ (f : ℕ → ℕ) (k : ℕ) {p : ℕ} (place : Place f k (f (suc k)) p) where
  -- the label of the new position has a place
  pub twice_here : 1 ≤ p → TwiceAt f (suc k)
  twice_here some = (p, some, omega (arith, place.within), place.own some)

  -- it has none
  pub not_twice_here : p ≡ 0 → ¬ TwiceAt f (suc k)
  not_twice_here none (i, from, to, same) = place.after i (omega arith) (omega arith) same
