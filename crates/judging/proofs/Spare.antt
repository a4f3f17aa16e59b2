-- The spare bits: the low bits of a byte, all clear where shifting them out and back leaves the byte as it was.
use mathlib.Core.Bool.{Bool, true, false, not}
use mathlib.Core.List.{List}
use mathlib.Core.Logic.{◌≢◌, inl, inr}
use mathlib.Core.Path.{◌≡◌, refl, sym, ap, subst, ◌∙◌}
use Prim.Native.Nat.{ℕ, zero, suc, ◌+◌, ◌-◌, ◌*◌, ◌/◌, ◌%◌, ◌^◌, ◌≤◌, ◌<◌}
use native.Mathlib.Omega.{arith}
use lib.Dec.{T, eqb, eqb→eq, eqb_refl}
use lib.ListN.{length, get_or}
use Rattle.finite.specs.Decide.{Tells, eq_or_ne, tells_iff, tells_not, tells_equal}
use Rattle.finite.specs.Every.{every, every_at}
use Rattle.finite.specs.Search.{Some}
use Rattle.bits.specs.Bit.{bit, bit_in, bit_at}
use Rattle.bits.proofs.Pack.{bit_at_byte}

-- how many of the low s bits of a byte are set
low_set : ℕ → ℕ → ℕ
low_set x zero = 0
low_set x (suc s) = bit (bit_in x (7 - s)) + low_set x s

-- the byte with its low s bits shifted out and back, in a word
abbrev pub cleared : ℕ → ℕ → ℕ
cleared x s = x / 2 ^ s * 2 ^ s % 2 ^ 64

agree : Bool → Bool → Bool
agree true b = b
agree false b = not b

-- it is the same byte just where none of them is set: tried on every byte
test : ℕ → ℕ → Bool
test x s = agree (eqb (cleared x s) x) (eqb (low_set x s) 0)

low_test : (x s : ℕ) → x < 256 → s < 8 → T (test x s)
unfolding test agree low_set bit_in
low_test x s a b = every_at 8 (test x) (every_at 256 (λ x. every 8 (test x)) tt x a) s b

same_none : (x s : ℕ) → x < 256 → s < 8 → cleared x s ≡ x → low_set x s ≡ 0
unfolding test agree
same_none x s a b e = eqb→eq (low_set x s) 0 (forth (eqb (cleared x s) x) (eqb (low_set x s) 0) (low_test x s a b) (subst (λ (y : ℕ). T (eqb y x)) (sym e) (eqb_refl x)))
  where
    forth : (a b : Bool) → T (agree a b) → T a → T b
    forth true b t h = t
    forth false b t h = absurd h

other_some : (x s : ℕ) → x < 256 → s < 8 → cleared x s ≢ x → low_set x s ≢ 0
unfolding test agree
other_some x s a b e z = e (eqb→eq (cleared x s) x (back (eqb (cleared x s) x) (eqb (low_set x s) 0) (low_test x s a b) (subst (λ (y : ℕ). T (eqb y 0)) (sym z) (eqb_refl 0))))
  where
    back : (a b : Bool) → T (agree a b) → T b → T a
    back true b t h = tt
    back false true t h = absurd t
    back false false t h = absurd h

low_clear : (x s : ℕ) → low_set x s ≡ 0 → s < 8 → (i : ℕ) → 8 - s ≤ i → i < 8 → bit_in x i ≡ false
unfolding low_set
low_clear x zero z h i a b = absurd (omega arith)
low_clear x (suc s) z h i a b = elim (eq_or_ne i (7 - s)) [
  | inl e ↦ ap (bit_in x) e ∙ clear (bit_in x (7 - s)) (omega arith)
  | inr e ↦ low_clear x s (omega arith) (omega arith) i (omega arith) b
]
  where
    clear : (c : Bool) → bit c ≡ 0 → c ≡ false
    clear true e = absurd (omega arith)
    clear false e = refl

low_some : (x s : ℕ) → low_set x s ≢ 0 → s < 8 → Some (λ i. bit_in x i ≡ true) (8 - s) 8
unfolding low_set
low_some x zero z h = absurd (z refl)
low_some x (suc s) z h = go (bit_in x (7 - s)) refl (λ n. low_some x s n (omega arith))
  where
    go : (c : Bool) → bit_in x (7 - s) ≡ c → (low_set x s ≢ 0 → Some (λ i. bit_in x i ≡ true) (8 - s) 8) → Some (λ i. bit_in x i ≡ true) (8 - suc s) 8
    go true e more = (7 - s, omega arith, omega arith, e)
    go false e more =
        let none : bit (bit_in x (7 - s)) ≡ 0 = ap bit e in
        let r = more (λ q. z (omega arith)) in
        (r.0, omega (arith, r.1), r.2, r.3)

-- ---- the spare bits of a body
module _ (body : List ℕ) (used : ℕ) (long : length body ≡ (used + 7) / 8) (some : 8 * length body - used ≢ 0) where
  abbrev last : ℕ
  last = length body - 1

  abbrev spare : ℕ
  spare = 8 * length body - used

  pub none_spare : get_or body last 0 < 256 → cleared (get_or body last 0) spare ≡ get_or body last 0 → ¬ Some (λ i. bit_at body i ≡ true) used (8 * length body)
  none_spare fits same (i, a, b, e) = clash (at_last ∙ low_clear (get_or body last 0) spare (same_none (get_or body last 0) spare fits (omega arith) same) (omega arith) (i - 8 * last) (omega arith) (omega arith)) e
    where
      at_last : bit_at body i ≡ bit_in (get_or body last 0) (i - 8 * last)
      at_last = let p : i ≡ 8 * last + (i - 8 * last) = omega arith in ap (bit_at body) p ∙ bit_at_byte body last (i - 8 * last) (omega arith)

      clash : {x : Bool} → x ≡ false → x ≡ true → ⊥
      clash p q = let z : ◌≡◌ {A = ℕ} 0 1 = cc in omega arith

  pub some_spare : get_or body last 0 < 256 → cleared (get_or body last 0) spare ≢ get_or body last 0 → Some (λ i. bit_at body i ≡ true) used (8 * length body)
  some_spare fits other =
      let r = low_some (get_or body last 0) spare (other_some (get_or body last 0) spare fits (omega arith) other) (omega arith) in
      (8 * last + r.0, omega (arith, r.1), omega (arith, r.2), bit_at_byte body last r.0 r.2 ∙ r.3)

  -- the comparison tells whether one is set
  pub spare_tells : {x : ℕ} → x ≡ get_or body last 0 → x < 256 → Tells (not (eqb (cleared x spare) x)) (Some (λ i. bit_at body i ≡ true) used (8 * length body))
  spare_tells {x} is fits =
      let small : get_or body last 0 < 256 = omega arith in
      tells_iff (¬ (cleared x spare ≡ x)) _ (not (eqb (cleared x spare) x))
      (λ other. some_spare small (λ same. other (subst (λ (y : ℕ). cleared y spare ≡ y) (sym is) same)))
      (λ set same. none_spare small (subst (λ (y : ℕ). cleared y spare ≡ y) is same) set)
      (tells_not _ _ (tells_equal (cleared x spare) x))
