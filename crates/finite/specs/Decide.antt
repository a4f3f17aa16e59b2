-- Deciding a statement: combinations of decided statements, and a Bool that tells which way a decision went.
use Rattle.std.specs.Prelude.{◌≡◌, refl, ◌≢◌, ◌⊎◌, Bool, true, false, not, ◌&&◌, ◌||◌, ℕ, ◌≤◌, ◌<◌, eqb, ltb}
use Rattle.std.proofs.Common.{sym, subst, inl, inr, arith, eqb-true, ltb-true, ltb-false}
use Rattle.std.proofs.Math.Decide.{dec_le, ℕ_discrete}
use Rattle.std.proofs.lemmas.Bool.{eqb-false}

-- ---- case distinctions
unfoldable pub le_or_lt : (a b : ℕ) → (a ≤ b) ⊎ (b < a)
unfolding dec_le
le_or_lt a b = go (dec_le a b)
  where
    go : Dec (a ≤ b) → (a ≤ b) ⊎ (b < a)
    go (yes h) = inl h
    go (no h) = inr (omega arith)

unfoldable pub eq_or_ne : (a b : ℕ) → (a ≡ b) ⊎ (a ≢ b)
unfolding ℕ_discrete
eq_or_ne a b = go (ℕ_discrete a b)
  where
    go : Dec (a ≡ b) → (a ≡ b) ⊎ (a ≢ b)
    go (yes h) = inl h
    go (no h) = inr h

-- ---- combinations
unfoldable pub dec-× : {A B : Type 0} → Dec A → Dec B → Dec (A × B)
dec-× (yes a) (yes b) = yes (a, b)
dec-× (yes a) (no h) = no (λ p. h p.1)
dec-× (no h) b = no (λ p. h p.0)

unfoldable pub dec-×₃ : {A B C : Type 0} → Dec A → Dec B → Dec C → Dec (A × B × C)
dec-×₃ (yes a) (yes b) (yes c) = yes (a, b, c)
dec-×₃ (yes a) (yes b) (no h) = no (λ p. h p.2)
dec-×₃ (yes a) (no h) c = no (λ p. h p.1)
dec-×₃ (no h) b c = no (λ p. h p.0)

unfoldable pub dec-⊎ : {A B : Type 0} → Dec A → Dec B → Dec (A ⊎ B)
dec-⊎ {A} {B} (no h) (no k) = no go
  where
    go : A ⊎ B → ⊥
    go (inl a) = h a
    go (inr b) = k b
dec-⊎ (no h) (yes b) = yes (inr b)
dec-⊎ (yes a) b = yes (inl a)

unfoldable pub dec-¬ : {A : Type 0} → Dec A → Dec (¬ A)
dec-¬ (yes a) = no (λ f. f a)
dec-¬ (no h) = yes h

unfoldable pub dec-→ : {A B : Type 0} → Dec A → Dec B → Dec (A → B)
dec-→ (no h) b = yes (λ a. absurd (h a))
dec-→ (yes a) (yes b) = yes (λ x. b)
dec-→ (yes a) (no h) = no (λ f. h (f a))

unfoldable pub dec_true : (b : Bool) → Dec (b ≡ true)
dec_true true = yes refl
dec_true false = no (λ e. let z : ◌≡◌ {A = ℕ} 0 1 = cc in omega arith)

unfoldable pub dec_iff : {A B : Type 0} → (A → B) → (B → A) → Dec A → Dec B
dec_iff f g (yes a) = yes (f a)
dec_iff f g (no h) = no (λ b. h (g b))

pub stable : {A : Type 0} → Dec A → ¬ (¬ A) → A
stable (yes p) f = p
stable (no h) f = absurd (f h)

-- ---- a Bool that tells
-- b says whether A holds
abbrev pub Tells : Bool → Type 0 → Type 0
Tells true A = A
Tells false A = ¬ A

-- whether a decided statement holds
unfoldable pub holds : {A : Type 0} → Dec A → Bool
holds (yes a) = true
holds (no h) = false

pub holds_tells : {A : Type 0} (d : Dec A) → Tells (holds d) A
unfolding holds
holds_tells (yes a) = a
holds_tells (no h) = h

-- what a Bool tells of a statement it tells of any that holds just where that does
pub tells_iff : (A B : Type 0) (t : Bool) → (A → B) → (B → A) → Tells t A → Tells t B
tells_iff A B true f g h = f h
tells_iff A B false f g h = λ b. h (g b)

-- comparisons tell whether they hold
pub tells_equal : (a b : ℕ) → Tells (eqb a b) (a ≡ b)
tells_equal a b = go (eqb a b) refl
  where
    go : (t : Bool) → eqb a b ≡ t → Tells t (a ≡ b)
    go true e = eqb-true a b e
    go false e = eqb-false a b e

pub tells_less : (a b : ℕ) → Tells (ltb a b) (a < b)
tells_less a b = go (ltb a b) refl
  where
    go : (t : Bool) → ltb a b ≡ t → Tells t (a < b)
    go true e = ltb-true a b e
    go false e = λ h. omega (arith, ltb-false a b e)

pub tells_not : (A : Type 0) (t : Bool) → Tells t A → Tells (not t) (¬ A)
tells_not A true h = λ n. n h
tells_not A false h = h

-- two Bools tell of both statements, and of either
pub tells_both : (A B : Type 0) (s t : Bool) → Tells s A → Tells t B → Tells (s && t) (A × B)
tells_both A B true true a b = (a, b)
tells_both A B true false a b = λ p. b p.1
tells_both A B false t a b = λ p. a p.0

pub tells_either : (A B : Type 0) (s t : Bool) → Tells s A → Tells t B → Tells (s || t) (A ⊎ B)
tells_either A B true t a b = inl a
tells_either A B false true a b = inr b
tells_either A B false false a b = λ p. elim p [ inl h ↦ a h | inr h ↦ b h ]

-- a Bool that is known
pub told_true : (A : Type 0) (t : Bool) → t ≡ true → Tells t A → A
told_true A t e h = rw e at h

pub told_false : (A : Type 0) (t : Bool) → t ≡ false → Tells t A → ¬ A
told_false A t e h = rw e at h

-- and one turned round
pub not_true : (b : Bool) → not b ≡ true → b ≡ false
not_true true e = sym e
not_true false e = refl

pub not_false : (b : Bool) → not b ≡ false → b ≡ true
not_false true e = refl
not_false false e = sym e

-- what is told
pub told : {A : Type 0} {b : Bool} → b ≡ true → Tells b A → A
told {A} e t = subst (λ (b : Bool). Tells b A) e t

pub told_not : {A : Type 0} {b : Bool} → b ≡ false → Tells b A → ¬ A
told_not {A} e t = subst (λ (b : Bool). Tells b A) e t

pub tells_same : (A : Type 0) (b c : Bool) → Tells b A → Tells c A → b ≡ c
tells_same A true true s t = refl
tells_same A true false s t = absurd (t s)
tells_same A false true s t = absurd (s t)
tells_same A false false s t = refl

-- a Bool that tells is the decision's
pub tells_holds : {A : Type 0} (d : Dec A) (b : Bool) → Tells b A → holds d ≡ b
tells_holds {A} d b t = tells_same A (holds d) b (holds_tells d) t
