-- A list whose first n places are filled with f 0 to f (n - 1), the rest as it was; and a loop that fills a list, one store a turn,
-- from the front or from the back.
use Rattle.std.specs.Prelude.{◌≡◌, ◌⊎◌, length, get_or, set, drop}
use Rattle.std.proofs.Math.Path.{refl, ap}
use Rattle.std.proofs.Common.{sym, subst, ◌∙◌, inl, inr, not-suc-le-zero, arith, length-set, get_or-set_same, get_or-set_other}
use mathlib.Core.List.{List, [], ◌∷◌, ◌++◌}
use Prim.Native.Nat.{ℕ, zero, suc, ◌+◌, ◌≤◌, ◌<◌}
use Rattle.finite.specs.Decide.{eq_or_ne}
use Rattle.finite.specs.Table.{table}

abbrev pub filled : {A : Type 0} → (ℕ → A) → (n : ℕ) → List A → List A
filled f n before = table f n ++ drop n before

-- one store more, and the length
module _ {A : Type 0} where
  pub filled_none : (f : ℕ → A) (before : List A) → before ≡ filled f 0 before
  unfolding table
  filled_none f before = refl

  pub length_filled : (f : ℕ → A) (n : ℕ) (before : List A) → n ≤ length before → length (filled f n before) ≡ length before
  unfolding table
  length_filled f zero before h = refl
  length_filled f (suc n) [] h = absurd (not-suc-le-zero h)
  length_filled f (suc n) (x ∷ before) h = ap suc (length_filled (λ i. f (suc i)) n before (omega arith))

  store_next : (f : ℕ → A) (n : ℕ) (before : List A) → n < length before → set (filled f n before) n (f n) ≡ filled f (suc n) before
  unfolding table
  store_next f n [] h = absurd (not-suc-le-zero h)
  store_next f zero (x ∷ before) h = refl
  store_next f (suc n) (x ∷ before) h = ap (λ (rest : List A). f 0 ∷ rest) (store_next (λ i. f (suc i)) n before (omega arith))

  pub filled_store : (f : ℕ → A) (n : ℕ) (before : List A) → n < length before → set (filled f n before) n (f n) ≡ filled f (n + 1) before
  filled_store f n before h =
      let e : suc n ≡ n + 1 = omega arith in
      subst (λ (m : ℕ). set (filled f n before) n (f n) ≡ filled f m before) e (store_next f n before h)

-- the places a to b - 1 are filled, and all others are as they were
pub record Filling (f : ℕ → ℕ) (a b : ℕ) (before now : List ℕ) : Type 0 where
  pub size : length now ≡ length before
  pub done : (k : ℕ) → a ≤ k → k < b → get_or now k 0 ≡ f k
  pub kept : (k : ℕ) → (k < a) ⊎ (b ≤ k) → get_or now k 0 ≡ get_or before k 0

pub filling_none : (f : ℕ → ℕ) (a : ℕ) (before : List ℕ) → Filling f a a before before
filling_none f a before = record { size = refl; done = λ k h l. absurd (omega arith); kept = λ k h. refl }

-- one more place, at either end of those that are filled
module _ {f : ℕ → ℕ} {before now : List ℕ} where
  pub filling_up : {a b : ℕ} (v : ℕ) → Filling f a b before now → a ≤ b → b < length before → v ≡ f b
      → Filling f a (b + 1) before (set now b v)
  filling_up {a} {b} v k h room e = record {
    size = length-set now b v ∙ k.size;
    done = λ i l m. elim (eq_or_ne i b) [
      | inl q ↦ ap (λ (j : ℕ). get_or (set now b v) j 0) q ∙ get_or-set_same now b v 0 (omega (arith, k.size)) ∙ e ∙ ap f (sym q)
      | inr q ↦ get_or-set_other now b i v 0 q ∙ k.done i l (omega arith)
    ];
    kept = λ i l. get_or-set_other now b i v 0 (away i l) ∙ k.kept i (outside i l);
  }
    where
      away : (i : ℕ) → (i < a) ⊎ (b + 1 ≤ i) → ¬ (i ≡ b)
      away i (inl l) q = omega arith
      away i (inr l) q = omega arith

      outside : (i : ℕ) → (i < a) ⊎ (b + 1 ≤ i) → (i < a) ⊎ (b ≤ i)
      outside i (inl l) = inl l
      outside i (inr l) = inr (omega arith)

  pub filling_down : {a b : ℕ} (v : ℕ) → Filling f (suc a) b before now → a < b → a < length before → v ≡ f a
      → Filling f a b before (set now a v)
  filling_down {a} {b} v k h room e = record {
    size = length-set now a v ∙ k.size;
    done = λ i l m. elim (eq_or_ne i a) [
      | inl q ↦ ap (λ (j : ℕ). get_or (set now a v) j 0) q ∙ get_or-set_same now a v 0 (omega (arith, k.size)) ∙ e ∙ ap f (sym q)
      | inr q ↦ get_or-set_other now a i v 0 q ∙ k.done i (omega arith) m
    ];
    kept = λ i l. get_or-set_other now a i v 0 (away i l) ∙ k.kept i (outside i l);
  }
    where
      away : (i : ℕ) → (i < a) ⊎ (b ≤ i) → ¬ (i ≡ a)
      away i (inl l) q = omega arith
      away i (inr l) q = omega arith

      outside : (i : ℕ) → (i < a) ⊎ (b ≤ i) → (i < suc a) ⊎ (b ≤ i)
      outside i (inl l) = inl (omega arith)
      outside i (inr l) = inr l

-- all n places are filled
pub filling_end : (f : ℕ → ℕ) (n : ℕ) {before now : List ℕ} → Filling f 0 n before now → n ≤ length before → now ≡ filled f n before
unfolding table
filling_end f n {before} {now} k h = go f n before now k.size (λ i. k.done i (omega arith)) (λ i l. k.kept i (inr l)) h
  where
    go : (f : ℕ → ℕ) (n : ℕ) (before now : List ℕ) → length now ≡ length before → ((i : ℕ) → i < n → get_or now i 0 ≡ f i)
        → ((i : ℕ) → n ≤ i → get_or now i 0 ≡ get_or before i 0) → n ≤ length before
        → now ≡ filled f n before
    go f zero [] [] e d l h = refl
    go f zero [] (y ∷ now) e d l h = absurd (omega arith)
    go f zero (x ∷ before) [] e d l h = absurd (omega arith)
    go f zero (x ∷ before) (y ∷ now) e d l h = λ i. l 0 (omega arith) i ∷ go f zero before now (omega arith) (λ i m. absurd (omega arith)) (λ i m. l (suc i) (omega arith)) (omega arith) i
    go f (suc n) [] now e d l h = absurd (omega arith)
    go f (suc n) (x ∷ before) [] e d l h = absurd (omega arith)
    go f (suc n) (x ∷ before) (y ∷ now) e d l h =
        λ i. d 0 (omega arith) i ∷ go (λ j. f (suc j)) n before now (omega arith) (λ i m. d (suc i) (omega arith)) (λ i m. l (suc i) (omega arith)) (omega arith) i
