-- A plane that was swept shows the figures that come from what it and the plane before it showed.
use mathlib.Core.Bool.{true, false}
use mathlib.Core.List.{List}
use mathlib.Core.Logic.{◌⊎◌, inl, inr}
use mathlib.Core.Path.{◌≡◌, refl, sym, ap, ◌∙◌}
use Prim.Native.Nat.{ℕ, zero, suc, ◌+◌, ◌-◌, ◌*◌, ◌^◌, ◌≤◌, ◌<◌}
use native.Mathlib.Omega.{arith}
use lib.ListN.{length, get_or}
use Rattle.finite.specs.Decide.{le_or_lt}
use Rattle.record.specs.Walk.{step}
use Rattle.counting.proofs.Begun.{begun}
use Rattle.tallying.specs.Plane.{cell_of, PlaneFits, Swept}
use Rattle.tallying.specs.Shows.{bordered, Shows}

-- ---- with a border of zeros a step whose run is missing needs no case of its own
pub rises_bordered : (f : ℕ → ℕ → ℕ) (p q : ℕ)
    → begun false f p q ≡ bordered f (suc p) (suc q) + bordered f (suc p) q + bordered f (suc (suc p)) (suc q) + bordered f (suc (suc p)) q
unfolding begun step
rises_bordered f p zero = omega arith
rises_bordered f p (suc q) = omega arith

pub falls_bordered : (f : ℕ → ℕ → ℕ) (p q : ℕ)
    → begun true f p q ≡ bordered f (suc p) (suc q) + bordered f (suc p) (suc (suc q)) + bordered f p (suc q) + bordered f p (suc (suc q))
unfolding begun step
falls_bordered f zero q = omega arith
falls_bordered f (suc p) q = omega arith

-- ---- where a figure stands
pub shown : {f : ℕ → ℕ → ℕ} {base below above : ℕ} {planes : List ℕ} → Shows f base below above planes
    → (u v k : ℕ) → u ≤ below + 1 → v ≤ above + 1 → u ≤ 10 → v ≤ 10 → k ≡ base + 10 * u + (10 - v) → get_or planes k 0 ≡ bordered f u v
shown {planes = planes} s u v k a b c d e = ap (λ (j : ℕ). get_or planes j 0) e ∙ s.at u v a b c d

-- fewer of the same figures, at a place by another name
pub shows_as : {f : ℕ → ℕ → ℕ} {base below above base' below' above' : ℕ} {planes : List ℕ} → Shows f base below above planes
    → base ≡ base' → below' ≤ below → above' ≤ above → Shows f base' below' above' planes
shows_as s e b a = record { at = λ u v hu hv lu lv. shown s u v _ (omega arith) (omega arith) lu lv (omega arith) }

module _ {f g : ℕ → ℕ → ℕ} {base below above : ℕ} {planes : List ℕ}
    (risen : Shows f (base + 110) (below + 1) above planes) (fallen : Shows g base below (above + 1) planes) where
  -- the figure of p and q
  pub cell_is : (p q k : ℕ) → p ≤ below → q ≤ above → p ≤ 8 → q ≤ 8 → k ≡ base + 129 + 10 * p - q → cell_of planes k ≡ begun false f p q + begun true g p q
  cell_is p q k hp hq lp lq e =
      omega (
        arith,
        rises_bordered f p q,
        falls_bordered g p q,
        shown risen (suc p) (suc q) k (omega arith) (omega arith) (omega arith) (omega arith) (omega arith),
        shown risen (suc p) q (k + 1) (omega arith) (omega arith) (omega arith) (omega arith) (omega arith),
        shown risen (suc (suc p)) (suc q) (k + 10) (omega arith) (omega arith) (omega arith) (omega arith) (omega arith),
        shown risen (suc (suc p)) q (k + 11) (omega arith) (omega arith) (omega arith) (omega arith) (omega arith),
        shown fallen (suc p) (suc q) (k - 110) (omega arith) (omega arith) (omega arith) (omega arith) (omega arith),
        shown fallen (suc p) (suc (suc q)) (k - 111) (omega arith) (omega arith) (omega arith) (omega arith) (omega arith),
        shown fallen p (suc q) (k - 120) (omega arith) (omega arith) (omega arith) (omega arith) (omega arith),
        shown fallen p (suc (suc q)) (k - 121) (omega arith) (omega arith) (omega arith) (omega arith) (omega arith),
      )

-- ---- a plane that is swept: p up to `low` and q up to `far` are swept, what else it shows of h it showed before
pub record Step (f g h : ℕ → ℕ → ℕ) (below above low far : ℕ) : Type 0 where
  pub made : (p q : ℕ) → p ≤ low → q ≤ far → h p q ≡ begun false f p q + begun true g p q
  pub rest : (p q : ℕ) → p ≤ below → q ≤ above → (low < p) ⊎ (far < q) → h p q ≡ f p q
  pub small : (p q : ℕ) → h p q ≤ 2 ^ 48
  pub low_few : low ≤ 8
  pub far_few : far ≤ 8
  pub low_below : low ≤ below
  pub far_above : far ≤ above

module _ {f g h : ℕ → ℕ → ℕ} {base below above low far : ℕ} {before : List ℕ} (s : Step f g h below above low far)
    (risen : Shows f (base + 110) (below + 1) above before) (fallen : Shows g base below (above + 1) before) where
  cell_made : (i c : ℕ) → i ≤ low → c ≤ far → cell_of before (base + 129 - far + 10 * i + c) ≡ h i (far - c)
  cell_made i c hi hc =
      cell_is risen fallen i (far - c) (base + 129 - far + 10 * i + c) (omega (arith, s.low_below)) (omega (arith, s.far_above)) (omega (arith, s.low_few)) (omega (arith, s.far_few)) (omega (arith, s.far_few))
      ∙ sym (s.made i (far - c) hi (omega arith))

  pub plane_fits : base + 220 < length before → PlaneFits (base + 129 - far) (low + 1) (far + 1) before
  plane_fits long = record {
    after = omega (arith, s.far_few);
    inside = omega (arith, s.low_few, s.far_few);
    low = omega (arith, s.low_few);
    narrow = omega (arith, s.far_few);
    small = λ i c hi hc. omega (arith, cell_made i c (omega arith) (omega arith), s.small i (far - c));
  }

  module _ {now : List ℕ} (swept : Swept (base + 129 - far) (low + 1) (far + 1) before now) where
    -- a place of the plane that was not swept
    left : (u v : ℕ) → u ≤ below + 1 → v ≤ above + 1 → u ≤ 10 → v ≤ 10 → (u ≡ 0) ⊎ (v ≡ 0) ⊎ (low + 1 < u) ⊎ (far + 1 < v)
        → get_or now (base + 110 + 10 * u + (10 - v)) 0 ≡ bordered f u v
    left u v a b c d which = swept.kept (base + 110 + 10 * u + (10 - v)) (λ i l. away i l which) ∙ risen.at u v (omega arith) b c d
      where
        away : (i : ℕ) → i < low + 1 → (u ≡ 0) ⊎ (v ≡ 0) ⊎ (low + 1 < u) ⊎ (far + 1 < v)
            → (base + 110 + 10 * u + (10 - v) < base + 129 - far + 10 * i) ⊎ (base + 129 - far + 10 * i + (far + 1) ≤ base + 110 + 10 * u + (10 - v))
        away i l (inl e) = inl (omega (arith, s.far_few))
        away i l (inr (inl e)) = elim (le_or_lt u i) [ inl m ↦ inl (omega (arith, s.far_few)) | inr m ↦ inr (omega (arith, s.far_few)) ]
        away i l (inr (inr (inl e))) = inr (omega (arith, s.far_few))
        away i l (inr (inr (inr e))) = elim (le_or_lt u (i + 1)) [ inl m ↦ inl (omega (arith, s.far_few)) | inr m ↦ inr (omega (arith, s.far_few)) ]

    pub swept_shows : Shows h (base + 110) below above now
    swept_shows = record { at = go }
      where
        go : (u v : ℕ) → u ≤ below + 1 → v ≤ above + 1 → u ≤ 10 → v ≤ 10 → get_or now (base + 110 + 10 * u + (10 - v)) 0 ≡ bordered h u v
        go zero v a b c d = left zero v a b c d (inl refl)
        go (suc p) zero a b c d = left (suc p) zero a b c d (inr (inl refl))
        go (suc p) (suc q) a b c d = elim (le_or_lt p low) [
          | inl hp ↦ elim (le_or_lt q far) [
            | inl hq ↦
                let place : base + 110 + 10 * suc p + (10 - suc q) ≡ base + 129 - far + 10 * p + (far - q) = omega (arith, s.far_few) in
                let back : far - (far - q) ≡ q = omega arith in
                ap (λ (k : ℕ). get_or now k 0) place ∙ swept.done p (far - q) (omega arith) (omega arith) ∙ cell_made p (far - q) hp (omega arith) ∙ ap (h p) back
            | inr hq ↦ left (suc p) (suc q) a b c d (inr (inr (inr (omega arith)))) ∙ sym (s.rest p q (omega arith) (omega arith) (inr hq))
          ]
          | inr hp ↦ left (suc p) (suc q) a b c d (inr (inr (inl (omega arith)))) ∙ sym (s.rest p q (omega arith) (omega arith) (inl hp))
        ]

    -- the other planes are as they were
    pub swept_other : {e : ℕ → ℕ → ℕ} {there r c : ℕ} → (there ≤ base) ⊎ (base + 220 ≤ there) → Shows e there r c before → Shows e there r c now
    swept_other {e} {there} {r} {c} which other = record { at = λ u v hu hv lu lv. swept.kept (there + 10 * u + (10 - v)) (λ i l. away which u v lu i l) ∙ other.at u v hu hv lu lv }
      where
        away : (there ≤ base) ⊎ (base + 220 ≤ there) → (u v : ℕ) → u ≤ 10 → (i : ℕ) → i < low + 1
            → (there + 10 * u + (10 - v) < base + 129 - far + 10 * i) ⊎ (base + 129 - far + 10 * i + (far + 1) ≤ there + 10 * u + (10 - v))
        away (inl h) u v l i m = inl (omega (arith, s.far_few))
        away (inr h) u v l i m = inr (omega (arith, s.low_few, s.far_few))
