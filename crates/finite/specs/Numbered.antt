-- Laws on how many things have a property.
use Rattle.std.specs.Prelude.{Bool, true, false, cond, ◌≡◌, refl, ◌⊎◌, ℕ, zero, suc, ◌+◌, ◌-◌, ◌≤◌, ◌<◌, ltb}
use Rattle.std.proofs.Common.{sym, ap, subst, ◌∙◌, inl, inr, arith, lt-ltb, le-ltb}
use Rattle.finite.specs.Decide.{le_or_lt}
use Rattle.finite.specs.Search.{Some}
use Rattle.finite.specs.Sum.{sum, sum_empty, sum_last}
use Rattle.finite.specs.HowMany.{HowMany}

-- nothing has P
pub none_has : {A : Type 0} {P : A → Type 0} → A → ((x : A) → ¬ P x) → HowMany P 0
none_has a none = record { thing = λ i. a; has = λ i h. absurd (omega arith); each = λ x p. absurd (none x p); once = λ i j h. absurd (omega arith) }

-- one thing has P
pub one_has : {A : Type 0} {P : A → Type 0} (x : A) → P x → ((y : A) → P y → x ≡ y) → HowMany P 1
one_has x p same = record { thing = λ i. x; has = λ i h. p; each = λ y q. (0, omega arith, omega arith, same y q); once = λ i j h l e. omega arith }

module _ {A B : Type 0} {P : A → Type 0} {Q : B → Type 0} where
  -- f pairs the things that have P with those that have Q
  pub as_many : {c : ℕ} (f : A → B) → ((x : A) → P x → Q (f x)) → ((x y : A) → P x → P y → f x ≡ f y → x ≡ y) → ((y : B) → Q y → (x : A) × P x × (f x ≡ y)) → HowMany P c → HowMany Q c
  as_many {c} f to injective onto many = record { thing = λ i. f (many.thing i); has = λ i h. to (many.thing i) (many.has i h); each = each; once = once }
    where
      each : (y : B) → Q y → Some (λ i. f (many.thing i) ≡ y) 0 c
      each y q = let (x, p, e) = onto y q in let (i, from, to, d) = many.each x p in (i, from, to, ap f d ∙ e)

      once : (i j : ℕ) → i < c → j < c → f (many.thing i) ≡ f (many.thing j) → i ≡ j
      once i j h l e = many.once i j h l (injective (many.thing i) (many.thing j) (many.has i h) (many.has j l) e)

-- the same property by another name
pub as_well : {A : Type 0} {P Q : A → Type 0} {c : ℕ} → ((x : A) → P x → Q x) → ((x : A) → Q x → P x) → HowMany P c → HowMany Q c
as_well to from many = as_many (λ x. x) to (λ x y p q e. e) (λ y q. (y, from y q, refl)) many

-- ---- two numberings, one after the other
abbrev after : {A : Type 0} → (m : ℕ) → (ℕ → A) → (ℕ → A) → ℕ → A
after m f g i = cond (ltb i m) (f i) (g (i - m))

module _ {A : Type 0} (m : ℕ) (f g : ℕ → A) where
  first_part : (i : ℕ) → i < m → f i ≡ after m f g i
  first_part i h = simp (lt-ltb i m h)

  second_part : (i : ℕ) → m ≤ i → g (i - m) ≡ after m f g i
  second_part i h = simp (le-ltb i m h)

-- what has R has P or Q, and never both
module _ {A : Type 0} {P Q R : A → Type 0} {m n : ℕ} (to : (x : A) → R x → P x ⊎ Q x) (left : (x : A) → P x → R x) (right : (x : A) → Q x → R x) (apart : (x : A) → P x → ¬ Q x)
    (one : HowMany P m) (other : HowMany Q n) where
  abbrev thing : ℕ → A
  thing = after m one.thing other.thing

  has : (i : ℕ) → i < m + n → R (thing i)
  has i h = elim (le_or_lt m i) [
    | inl l ↦ subst R (second_part m one.thing other.thing i l) (right _ (other.has (i - m) (omega arith)))
    | inr l ↦ subst R (first_part m one.thing other.thing i l) (left _ (one.has i l))
  ]

  each : (x : A) → R x → Some (λ i. thing i ≡ x) 0 (m + n)
  each x r = go (to x r)
    where
      go : P x ⊎ Q x → Some (λ i. thing i ≡ x) 0 (m + n)
      go (inl p) = let (i, a, l, e) = one.each x p in (i, a, omega arith, sym (first_part m one.thing other.thing i l) ∙ e)
      go (inr q) =
          let (i, a, l, e) = other.each x q in
          let back : m + i - m ≡ i = omega arith in
          (m + i, omega arith, omega arith, sym (second_part m one.thing other.thing (m + i) (omega arith)) ∙ ap other.thing back ∙ e)

  crossed : (i j : ℕ) → i < m → m ≤ j → j < m + n → thing i ≡ thing j → ⊥
  crossed i j h l u e =
      apart (one.thing i) (one.has i h)
      (subst Q (sym (first_part m one.thing other.thing i h ∙ e ∙ sym (second_part m one.thing other.thing j l))) (other.has (j - m) (omega arith)))

  once : (i j : ℕ) → i < m + n → j < m + n → thing i ≡ thing j → i ≡ j
  once i j h l e = elim (le_or_lt m i) [
    | inl a ↦ elim (le_or_lt m j) [
      | inl b ↦
          let same = other.once (i - m) (j - m) (omega arith) (omega arith) (second_part m one.thing other.thing i a ∙ e ∙ sym (second_part m one.thing other.thing j b)) in
          omega arith
      | inr b ↦ absurd (crossed j i b a h (sym e))
    ]
    | inr a ↦ elim (le_or_lt m j) [
      | inl b ↦ absurd (crossed i j a b l e)
      | inr b ↦ one.once i j a b (first_part m one.thing other.thing i a ∙ e ∙ sym (first_part m one.thing other.thing j b))
    ]
  ]

  pub joined : HowMany R (m + n)
  joined = record { thing = thing; has = has; each = each; once = once }

-- ---- sorted by what a function gives
module _ {A : Type 0} (P : A → Type 0) where
  -- by a bit
  pub by_bit : (bit : A → Bool) (count : Bool → ℕ) → ((b : Bool) → HowMany (λ x. P x × (bit x ≡ b)) (count b)) → HowMany P (count false + count true)
  by_bit bit count many = joined to (λ x h. h.0) (λ x h. h.0) apart (many false) (many true)
    where
      to : (x : A) → P x → (P x × (bit x ≡ false)) ⊎ (P x × (bit x ≡ true))
      to x p = go (bit x) refl
        where
          go : (b : Bool) → bit x ≡ b → (P x × (bit x ≡ false)) ⊎ (P x × (bit x ≡ true))
          go false e = inl (p, e)
          go true e = inr (p, e)

      apart : (x : A) → P x × (bit x ≡ false) → ¬ (P x × (bit x ≡ true))
      apart x (p, e) (q, d) = let z : ◌≡◌ {A = ℕ} 0 1 = cc in omega arith

  -- by a number
  pub by_number : A → (number : A → ℕ) (count : ℕ → ℕ) (m : ℕ) → ((r : ℕ) → r < m → HowMany (λ x. P x × (number x ≡ r)) (count r)) → HowMany (λ x. P x × (number x < m)) (sum count 0 m)
  by_number a number count zero many = subst (HowMany (λ x. P x × (number x < 0))) (sym (sum_empty count 0 0 (omega arith))) (none_has a (λ x h. omega arith))
  by_number a number count (suc m) many =
      subst (HowMany (λ x. P x × (number x < suc m))) (sym (sum_last count 0 m (omega arith)))
      (joined to (λ x h. (h.0, omega arith)) (λ x h. (h.0, omega arith)) (λ x h l. omega arith) (by_number a number count m (λ r h. many r (omega arith))) (many m (omega arith)))
    where
      to : (x : A) → P x × (number x < suc m) → (P x × (number x < m)) ⊎ (P x × (number x ≡ m))
      to x (p, h) = elim (le_or_lt m (number x)) [ inl l ↦ inr (p, omega arith) | inr l ↦ inl (p, l) ]
