-- Rows and planes that are swept in place: what a figure comes from still stands when its turn comes.
use mathlib.Core.List.{List}
use mathlib.Core.Logic.{inl, inr}
use mathlib.Core.Path.{◌≡◌, refl, subst, ◌∙◌}
use Prim.Native.Nat.{ℕ, ◌+◌, ◌-◌, ◌*◌, ◌^◌, ◌≤◌, ◌<◌}
use native.Mathlib.Omega.{arith}
use lib.ListN.{get_or}
use Rattle.finite.specs.Decide.{eq_or_ne}
use Rattle.finite.specs.Fill.{Filling}
use Rattle.tallying.specs.Plane.{cell_of, RowFits, PlaneFits, Swept}

-- what a figure comes from is as it was
cell_same : (before now : List ℕ) (at : ℕ) → ((k : ℕ) → at ≤ k → get_or now k 0 ≡ get_or before k 0) → ((k : ℕ) → k + 110 ≤ at → get_or now k 0 ≡ get_or before k 0)
    → 121 ≤ at → cell_of now at ≡ cell_of before at
cell_same before now at later earlier h =
    omega (
      arith,
      later at (omega arith),
      later (at + 1) (omega arith),
      later (at + 10) (omega arith),
      later (at + 11) (omega arith),
      earlier (at - 110) (omega arith),
      earlier (at - 111) (omega arith),
      earlier (at - 120) (omega arith),
      earlier (at - 121) (omega arith),
    )

pub row_cell : {start at : ℕ} {before now : List ℕ} → Filling (cell_of before) start at before now → 121 ≤ start → start ≤ at → at ≤ start + 9
    → cell_of now at ≡ cell_of before at
row_cell {start} {at} {before} {now} k a b c = cell_same before now at (λ j l. k.kept j (inr l)) (λ j l. k.kept j (inl (omega arith))) (omega arith)

-- ---- row by row
module _ {start rows columns : ℕ} {before : List ℕ} (fits : PlaneFits start rows columns before) where
  module _ {i : ℕ} {now : List ℕ} (more : i < rows) (s : Swept start i columns before now) where
    plane_cell : (c : ℕ) → c < columns → cell_of now (start + 10 * i + c) ≡ cell_of before (start + 10 * i + c)
    plane_cell c h =
        cell_same before now (start + 10 * i + c) (λ j l. s.kept j (λ e m. inr (omega (arith, fits.narrow)))) (λ j l. s.kept j (λ e m. inl (omega (arith, fits.low, fits.narrow))))
        (omega (arith, fits.after))

    cell_at : (k : ℕ) → start + 10 * i ≤ k → k < start + 10 * i + columns → cell_of now k ≡ cell_of before k
    cell_at k a b =
        let e : start + 10 * i + (k - (start + 10 * i)) ≡ k = omega arith in
        subst (λ (j : ℕ). cell_of now j ≡ cell_of before j) e (plane_cell (k - (start + 10 * i)) (omega arith))

    cell_small : (k : ℕ) → start + 10 * i ≤ k → k < start + 10 * i + columns → cell_of before k < 2 ^ 64
    cell_small k a b =
        let e : start + 10 * i + (k - (start + 10 * i)) ≡ k = omega arith in
        subst (λ (j : ℕ). cell_of before j < 2 ^ 64) e (fits.small i (k - (start + 10 * i)) more (omega arith))

    pub row_fits : RowFits (start + 10 * i) (start + 10 * i + columns) now
    row_fits = record {
      after = omega (arith, fits.after);
      ordered = omega arith;
      inside = omega (arith, fits.inside, s.size);
      narrow = omega (arith, fits.narrow);
      small = λ k a b. omega (arith, cell_at k a b, cell_small k a b);
    }

    pub swept_more : {after : List ℕ} → Filling (cell_of now) (start + 10 * i) (start + 10 * i + columns) now after → Swept start (i + 1) columns before after
    swept_more {after} fill = record {
      size = fill.size ∙ s.size;
      done = λ j c h l. elim (eq_or_ne j i) [
        | inl e ↦ fill.done (start + 10 * j + c) (omega arith) (omega arith) ∙ cell_at (start + 10 * j + c) (omega arith) (omega arith)
        | inr e ↦ fill.kept (start + 10 * j + c) (inl (omega (arith, fits.narrow))) ∙ s.done j c (omega arith) l
      ];
      kept = λ k outside. fill.kept k (outside i (omega arith)) ∙ s.kept k (λ j h. outside j (omega arith));
    }

pub swept_none : (start columns : ℕ) (before : List ℕ) → Swept start 0 columns before before
swept_none start columns before = record { size = refl; done = λ i c h. absurd (omega arith); kept = λ k outside. refl }
