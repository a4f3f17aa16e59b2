-- The bytes of two groups: two bytes have a bit in common where they are not 0 when and-ed.
use mathlib.Core.Bool.{not}
use mathlib.Core.List.{List}
use mathlib.Core.Logic.{◌≢◌, inl, inr}
use mathlib.Core.Path.{◌≡◌, sym, ap, subst, ◌∙◌}
use Prim.Native.Nat.{ℕ, ◌+◌, ◌-◌, ◌*◌, ◌/◌, ◌%◌, ◌<◌, zero-le}
use native.Mathlib.Omega.{arith}
use lib.Bits.{bit_and, bit_or, and_le_l, and_le_r, or_add_and}
use lib.Dec.{eqb}
use lib.ListN.{get_or}
use Rattle.finite.specs.BitTable.{digit, digit_zero, digit_and, some_digit}
use Rattle.finite.specs.Decide.{Tells, tells_iff, tells_not, tells_equal, eq_or_ne}
use Rattle.finite.specs.Search.{Some}
use Rattle.groups.specs.Group.{Common}

-- ---- bytes with a common bit
-- two digits are both 1 exactly if they are 1 when and-ed
both_ones : (a b : ℕ) → a < 2 → b < 2 → bit_and a b ≡ 1 → (a ≡ 1) × (b ≡ 1)
both_ones a b h k e = (omega (arith, and_le_l a b), omega (arith, and_le_r a b))

module _ (first second : List ℕ) where
  abbrev pub shared_at : ℕ → ℕ
  shared_at at = bit_and (get_or first at 0) (get_or second at 0)

  -- some byte of the first i has a common bit
  abbrev pub SharedBefore : ℕ → Type 0
  SharedBefore i = Some (λ at. shared_at at ≢ 0) 0 i

  pub common→shared : Common first second → SharedBefore 32
  common→shared (k, a, b, (m, l)) = (
    (k - 1) / 8,
    zero-le,
    omega arith,
    λ e.
        let both : digit (shared_at ((k - 1) / 8)) ((k - 1) % 8) ≡ 1 = digit_and (get_or first ((k - 1) / 8) 0) (get_or second ((k - 1) / 8) 0) ((k - 1) % 8) ∙ (λ i. bit_and (m i) (l i)) in
        omega (arith, both, ap (λ (x : ℕ). digit x ((k - 1) % 8)) e ∙ digit_zero ((k - 1) % 8)),
  )

  pub shared→common : ((at : ℕ) → at < 32 → shared_at at < 256) → SharedBefore 32 → Common first second
  shared→common small (at, a, b, not) =
      let (i, c, d, one) = some_digit (shared_at at) (small at b) not in
      let x = get_or first at 0 in
      let y = get_or second at 0 in
      let (p, q) = both_ones (digit x i) (digit y i) (omega arith) (omega arith) (sym (digit_and x y i) ∙ one) in
      let byte : (8 * at + i + 1 - 1) / 8 ≡ at = omega arith in
      let place : (8 * at + i + 1 - 1) % 8 ≡ i = omega arith in (
        8 * at + i + 1,
        omega arith,
        omega arith,
        (
          (λ j. digit (get_or first (byte j) 0) (place j)) ∙ p,
          (λ j. digit (get_or second (byte j) 0) (place j)) ∙ q,
        ),
      )

-- ---- looking at one byte more
or_zero : (a b : ℕ) → bit_or a b ≡ 0 → (a ≡ 0) × (b ≡ 0)
or_zero a b e = (omega (arith, or_add_and a b, and_le_l a b, and_le_r a b), omega (arith, or_add_and a b, and_le_l a b, and_le_r a b))

-- what the bytes before i have in common, or-ed
pub record Looked (first second : List ℕ) (i both : ℕ) : Type 0 where
  pub small : (at : ℕ) → at < i → shared_at first second at < 256
  pub some : both ≢ 0 → SharedBefore first second i
  pub none : both ≡ 0 → ¬ SharedBefore first second i

pub looked_more : (first second : List ℕ) (i both here : ℕ) → Looked first second i both → here ≡ shared_at first second i → here < 256
    → Looked first second (i + 1) (bit_or both here)
looked_more first second i both here now is fits = record {
  small = λ at h. elim (eq_or_ne at i) [
    | inl e ↦ omega (arith, ap (shared_at first second) e)
    | inr e ↦ now.small at (omega arith)
  ];
  some = λ not. elim (eq_or_ne both 0) [
    | inl e ↦ (i, zero-le, omega arith, λ z. not ((λ j. bit_or (e j) ((is ∙ z) j))))
    | inr e ↦ let (at, a, b, h) = now.some e in (at, a, omega arith, h)
  ];
  none = λ zero (at, a, b, not). let (p, q) = or_zero both here zero in elim (eq_or_ne at i) [
    | inl e ↦ not (ap (shared_at first second) e ∙ sym is ∙ q)
    | inr e ↦ now.none p (at, a, omega arith, not)
  ];
}

pub looked_all : (first second : List ℕ) (i both : ℕ) → Looked first second i both → i ≡ 32 → Tells (not (eqb both 0)) (Common first second)
looked_all first second i both now end = tells_iff (both ≢ 0) (Common first second) (not (eqb both 0)) to from (tells_not (both ≡ 0) (eqb both 0) (tells_equal both 0))
  where
    all : Looked first second 32 both
    all = subst (λ (j : ℕ). Looked first second j both) end now

    to : both ≢ 0 → Common first second
    to h = shared→common first second all.small (all.some h)

    from : Common first second → both ≢ 0
    from c e = all.none e (common→shared first second c)
