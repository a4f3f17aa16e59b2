-- A pattern by the sides on which its labels lie. In the first condition the last label is next above the first one, in the second next
-- below it. The label at j lies on that side of the first label, too, and the label at k on the other side.
use Rattle.std.specs.Prelude.{Bool, true, false, not, ◌≢◌, ◌⊎◌, ◌≡◌, refl, ℕ}
use Rattle.std.proofs.Common.{inl, inr, arith, ltb-true, ltb-false, lt-ltb, le-ltb}
use Rattle.record.specs.Labels.{EachOnce}
use Rattle.patterns.specs.Pattern.{Four, PatternAt}
use Rattle.patterns.specs.declared.Condition.{Condition}
use Rattle.patterns.specs.declared.Condition.TheVariants as condition
use Rattle.patterns.specs.Sides.{Beyond, BySides, condition_of}

pub one_of_two : (above : Bool) (which : Condition) → (which ≡ condition_of above) ⊎ (which ≡ condition_of (not above))
one_of_two true condition.First = inl refl
one_of_two true condition.Second = inr refl
one_of_two false condition.First = inr refl
one_of_two false condition.Second = inl refl

pub not_both : (f : ℕ → ℕ) (above : Bool) (label at : ℕ) → Beyond f above label at → ¬ Beyond f (not above) label at
not_both f true label at a b = let z : ◌≡◌ {A = ℕ} 0 1 = cc in omega arith
not_both f false label at a b = let z : ◌≡◌ {A = ℕ} 0 1 = cc in omega arith

module _ (f : ℕ → ℕ) (n : ℕ) (p : Four) where
  pub by_sides : (above : Bool) → PatternAt f n (condition_of above) p → BySides f n above p
  by_sides true x =
      let j-above = lt-ltb (f p.i) (f p.j) (omega (arith, x.meets)) in
      let k-below = le-ltb (f p.i) (f p.k) (omega (arith, x.meets)) in
      record { order = x.order; j_side = j-above; k_side = k-below; last = x.meets.1 }
  by_sides false x =
      let j-below = le-ltb (f p.i) (f p.j) (omega (arith, x.meets)) in
      let k-above = lt-ltb (f p.i) (f p.k) (omega (arith, x.meets)) in
      record { order = x.order; j_side = j-below; k_side = k-above; last = x.meets.1 }

  -- and such positions are a pattern where no label occurs twice
  pub sides_pattern : EachOnce f n → (above : Bool) → BySides f n above p → PatternAt f n (condition_of above) p
  sides_pattern each true x =
      let o = x.order in
      let apart : f p.j ≢ f p.l =
      λ e. omega (arith, o, each.once p.j p.l (omega (arith, o)) (omega (arith, o)) (omega (arith, o)) o.end e) in
      let j-above = ltb-true (f p.i) (f p.j) x.j_side in
      let k-below = ltb-false (f p.i) (f p.k) x.k_side in
      record { order = o; meets = omega (arith, x.last) }
  sides_pattern each false x =
      let o = x.order in
      let apart : f p.i ≢ f p.j =
      λ e. omega (arith, o, each.once p.i p.j o.start (omega (arith, o)) (omega (arith, o)) (omega (arith, o)) e) in
      let j-below = ltb-false (f p.i) (f p.j) x.j_side in
      let k-above = ltb-true (f p.i) (f p.k) x.k_side in
      record { order = o; meets = omega (arith, x.last) }
