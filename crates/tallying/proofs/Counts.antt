-- The planes of the counts: sweep after sweep lets one rise more into them.
use mathlib.Core.Bool.{true, false}
use mathlib.Core.List.{List}
use mathlib.Core.Logic.{◌⊎◌, inl, inr}
use mathlib.Core.Path.{◌≡◌, refl, sym, ap, subst, ◌∙◌}
use Prim.Native.Nat.{ℕ, zero, suc, ◌+◌, ◌-◌, ◌*◌, ◌≤◌, ◌<◌, min}
use native.Mathlib.Omega.{arith}
use lib.ListN.{length, get_or}
use Rattle.finite.specs.Decide.{eq_or_ne}
use Rattle.record.specs.Walk.{step}
use Rattle.counting.specs.Ways.{ways, plan_count}
use Rattle.counting.proofs.Begun.{begun, ways_falls, ways_both, falls_most, rises_most, too_few_falls, ways_small}
use Rattle.counting.proofs.Mirror.{too_few_rises}
use Rattle.tallying.specs.Plane.{PlaneFits, Swept}
use Rattle.tallying.specs.Shows.{Shows, plane_after, Planes}
use Rattle.tallying.proofs.Sweeping.{Step, plane_fits, swept_shows, swept_other, shown, shows_as}
use Rattle.tallying.proofs.Start.{one_only, length_one, zeros_show, one_shows}

-- ---- what a plane holds
-- the plane before plane b, of a fall less
abbrev fallen : (sweeps b : ℕ) → ℕ → ℕ → ℕ
fallen sweeps zero p q = 0
fallen sweeps (suc b) p q = plane_after sweeps b p q

no_falls : (p q : ℕ) → begun true (λ p q. 0) p q ≡ 0
no_falls p q = omega (arith, falls_most (λ p q. 0) p q 0 (λ x y l. omega arith))

no_rises : (p q : ℕ) → begun false (λ p q. 0) p q ≡ 0
no_rises p q = omega (arith, rises_most (λ p q. 0) p q 0 (λ x y l m. omega arith))

-- a figure with b falls left and `left` rises, from one with a rise less and one with a fall less
made : (left b p q : ℕ) → p ≤ b → q ≤ left → plane_after (suc left) b p q ≡ begun false (plane_after left b) p q + begun true (fallen (suc left) b) p q
made zero zero zero zero hp hq = only
  where
    only : ways (0 + 0) 0 0 0 ≡ begun false (plane_after 0 0) 0 0 + begun true (fallen 1 0) 0 0
    only = unfold ways begun step in refl
made zero zero zero (suc q) hp hq = absurd (omega arith)
made zero zero (suc p) q hp hq = absurd (omega arith)
made zero (suc b) p q hp hq =
    let e : 0 + suc b ≡ suc b = omega arith in
    let d : b ≡ 0 + b = omega arith in
    ap (λ (k : ℕ). ways k p q 0) e ∙ ways_falls b p q ∙ ap (λ (k : ℕ). begun true (λ p q. ways k p q 0) p q) d ∙ omega (arith, no_rises p q)
made (suc a) zero p q hp hq =
    let e : suc a + 0 ≡ suc a = omega arith in
    let d : a ≡ a + 0 = omega arith in
    ap (λ (k : ℕ). ways k p q (suc a)) e ∙ ways_both a p q a
    ∙ ap (λ (k : ℕ). begun false (λ p q. ways k p q a) p q + begun true (λ p q. ways a p q (suc a)) p q) d
    ∙ omega (arith, no_falls p q, falls_most (λ p q. ways a p q (suc a)) p q 0 (λ x y l. omega (arith, too_few_falls a x y (suc a) (omega arith))))
made (suc a) (suc b) p q hp hq =
    let e : suc a + suc b ≡ suc (a + suc b) = omega arith in
    let d : a + suc b ≡ suc a + b = omega arith in
    ap (λ (k : ℕ). ways k p q (suc a)) e ∙ ways_both (a + suc b) p q a
    ∙ ap (λ (k : ℕ). begun false (λ p q. ways (a + suc b) p q a) p q + begun true (λ p q. ways k p q (suc a)) p q) d

-- too many runs for what is left
none : (sweeps b p q : ℕ) → (b < p) ⊎ (sweeps ≤ q) × (1 ≤ q) → plane_after sweeps b p q ≡ 0
none zero zero p q (inl h) = too_few_falls 0 p q 0 (omega arith)
none zero zero p q (inr h) = too_few_rises 0 p q 0 h.1
none zero (suc b) p q h = refl
none (suc a) b p q (inl h) = too_few_falls (a + b) p q a (omega arith)
none (suc a) b p q (inr h) = too_few_rises (a + b) p q a h.0

-- ---- plane by plane
module _ (rises falls left : ℕ) (some : left ≤ rises) (few : rises + falls ≤ 16) (flat : falls ≤ 8) where
  one_step : (b low far : ℕ) → b ≤ falls → low ≡ min b (rises - left) → far ≡ min left (falls - b)
      → Step (plane_after left b) (fallen (suc left) b) (plane_after (suc left) b) (rises - left) (falls - b) low far
  one_step b low far h few-low few-far = record {
    made = λ p q hp hq. made left b p q (omega arith) (omega arith);
    rest = λ p q hp hq which. rest p q hp hq which;
    small = λ p q. ways_small (left + b) p q left (omega arith);
    low_few = omega arith;
    far_few = omega arith;
    low_below = omega arith;
    far_above = omega arith;
  }
    where
      rest : (p q : ℕ) → p ≤ rises - left → q ≤ falls - b → (low < p) ⊎ (far < q) → plane_after (suc left) b p q ≡ plane_after left b p q
      rest p q hp hq (inl l) = none (suc left) b p q (inl (omega arith)) ∙ sym (none left b p q (inl (omega arith)))
      rest p q hp hq (inr l) = none (suc left) b p q (inr (omega arith, omega arith)) ∙ sym (none left b p q (inr (omega arith, omega arith)))

  -- the planes before plane b have their rise
  pub record Sweeping (b : ℕ) (planes : List ℕ) : Type 0 where
    pub size : length planes ≡ 1101
    pub zeros : Shows (λ p q. 0) 0 17 17 planes
    pub done : (j : ℕ) → j < b → Shows (plane_after (suc left) j) (110 * suc j) (rises - left) (falls - j) planes
    pub rest : (j : ℕ) → b ≤ j → j ≤ falls → Shows (plane_after left j) (110 * suc j) (suc rises - left) (falls - j) planes
    pub most : b ≤ suc falls

  pub sweeping_first : {planes : List ℕ} → Planes rises falls left planes → Sweeping 0 planes
  sweeping_first p = record { size = p.size; zeros = p.zeros; done = λ j h. absurd (omega arith); rest = λ j h l. p.each j l; most = omega arith }

  pub sweeping_end : {b : ℕ} {planes : List ℕ} → Sweeping b planes → falls < b → Planes rises falls (suc left) planes
  sweeping_end s h = record { size = s.size; zeros = s.zeros; each = λ j l. shows_as (s.done j (omega arith)) refl (omega arith) (omega arith) }

  module _ {b low far : ℕ} {planes : List ℕ} (s : Sweeping b planes) (more : b ≤ falls) (e-low : low ≡ min b (rises - left)) (e-far : far ≡ min left (falls - b)) where
    turn : Step (plane_after left b) (fallen (suc left) b) (plane_after (suc left) b) (rises - left) (falls - b) low far
    turn = one_step b low far more e-low e-far

    risen : Shows (plane_after left b) (110 * b + 110) (rises - left + 1) (falls - b) planes
    risen = shows_as (s.rest b (omega arith) more) (omega arith) (omega arith) (omega arith)

    before : (j : ℕ) → j ≡ b → Shows (fallen (suc left) j) (110 * j) (rises - left) (falls - j + 1) planes
    before zero e = shows_as s.zeros refl (omega arith) (omega arith)
    before (suc j) e = shows_as (s.done j (omega arith)) refl (omega arith) (omega arith)

    pub rise_fits : PlaneFits (110 * b + 129 - far) (low + 1) (far + 1) planes
    rise_fits = plane_fits turn risen (before b refl) (omega (arith, s.size))

    pub sweeping_next : {now : List ℕ} → Swept (110 * b + 129 - far) (low + 1) (far + 1) planes now → Sweeping (b + 1) now
    sweeping_next {now} swept = record {
      size = swept.size ∙ s.size;
      zeros = other (inl (omega arith)) s.zeros;
      done = λ j h. elim (eq_or_ne j b) [
        | inl e ↦ subst (λ (i : ℕ). Shows (plane_after (suc left) i) (110 * suc i) (rises - left) (falls - i) now) (sym e) (shows_as (swept_shows turn risen (before b refl) swept) (omega arith) (omega arith) (omega arith))
        | inr e ↦ other (inl (omega arith)) (s.done j (omega arith))
      ];
      rest = λ j h l. other (inr (omega arith)) (s.rest j (omega arith) l);
      most = omega arith;
    }
      where
        other : {e : ℕ → ℕ → ℕ} {there r c : ℕ} → (there ≤ 110 * b) ⊎ (110 * b + 220 ≤ there) → Shows e there r c planes → Shows e there r c now
        other which shows = swept_other turn risen (before b refl) swept which shows

-- ---- the first planes
over : (p q : ℕ) → 1 ≤ p + q → ways 0 p q 0 ≡ 0
over zero zero h = absurd (omega arith)
over zero (suc q) h = unfold ways in refl
over (suc p) q h = unfold ways in refl

over_here : ways 0 0 0 0 ≡ 1
over_here = unfold ways in refl

pub first_planes : (rises falls : ℕ) → falls ≤ 8 → Planes rises falls 0 (one_only 1101)
first_planes rises falls few = record {
  size = length_one 1101;
  zeros = zeros_show 1101 0 (omega arith) (inl (omega arith));
  each = each;
}
  where
    each : (b : ℕ) → b ≤ falls → Shows (plane_after 0 b) (110 * suc b) (suc rises - 0) (falls - b) (one_only 1101)
    each zero h = one_shows 1101 (omega arith) (λ p q. ways 0 p q 0) over_here over
    each (suc b) h = zeros_show 1101 (110 * suc (suc b)) (omega arith) (inr (omega arith))

-- the figure at the end
pub counted : (rises falls : ℕ) {planes : List ℕ} → Planes rises falls (suc rises) planes → get_or planes (110 * falls + 129) 0 ≡ plan_count (suc (rises + falls)) rises
unfolding plan_count
counted rises falls p = shown (p.each falls (omega arith)) 1 1 (110 * falls + 129) (omega arith) (omega arith) (omega arith) (omega arith) (omega arith)
