-- A floorplan upside down: left stays, below turns round. So what was proved for the upper right holds for the lower right.
use Rattle.std.specs.Prelude.{◌≡◌, refl, ◌⊎◌, ℕ, suc, ◌+◌, ◌-◌, ◌≤◌, ◌<◌}
use Rattle.std.proofs.Common.{sym, ◌∙◌, subst, inl, inr, arith}
use Rattle.rooms.specs.Chain.{chain_map, chain_turn}
use Rattle.rooms.specs.Plan.{Plan, swap, OnUpright, Inner, Floorplan, UprightEdge, FlatEdge, LeftStep, Left, BelowStep, Below, left_a<}
use Rattle.rooms.specs.UpperRight.{upper_right→left_or_below}
use Rattle.rooms.specs.Staircase.{not_left_and_below}

-- q is p upside down, at the height h: a relation, and a symmetric one, so that what carries over from p to q carries over back
pub record Flipped (p q : Plan) (h : ℕ) : Type 0 where
  count : p.count ≡ q.count
  left : (i : ℕ) → i < p.count → p.left i ≡ q.left i
  right : (i : ℕ) → i < p.count → p.right i ≡ q.right i
  bottom_top : (i : ℕ) → i < p.count → p.bottom i + q.top i ≡ h
  top_bottom : (i : ℕ) → i < p.count → p.top i + q.bottom i ≡ h

pub flipped_sym : {p q : Plan} {h : ℕ} → Flipped p q h → Flipped q p h
flipped_sym f = record {
  count = sym f.count;
  left = λ i l. sym (f.left i (omega (arith, f.count)));
  right = λ i l. sym (f.right i (omega (arith, f.count)));
  bottom_top = λ i l. omega (arith, f.top_bottom i (omega (arith, f.count)));
  top_bottom = λ i l. omega (arith, f.bottom_top i (omega (arith, f.count)));
}

module _ {p q : Plan} {h : ℕ} (f : Flipped p q h) where
  lt : {i : ℕ} → i < p.count → i < q.count
  lt l = omega (arith, f.count)

  flip_upright : (x y z : ℕ) → y + suc z ≡ h → UprightEdge p x y → UprightEdge q x z
  flip_upright x y z e (i, li, hi, o) =
      let side : (q.left i ≡ x) ⊎ (q.right i ≡ x) = elim o.side [ inl t ↦ inl (sym (f.left i hi) ∙ t) | inr t ↦ inr (sym (f.right i hi) ∙ t) ] in
      let on : OnUpright q x z i = record { side = side; bottom = omega (arith, o, f.top_bottom i hi); top = omega (arith, o, f.bottom_top i hi) } in
      (i, li, lt hi, on)

  flip_left_step : (a b : ℕ) → LeftStep p a b → LeftStep q a b
  flip_left_step a b d =
      let bottom-a = f.bottom_top a d.a< in
      let bottom-b = f.bottom_top b d.b< in
      let top-a = f.top_bottom a d.a< in
      let top-b = f.top_bottom b d.b< in
      record {
        a< = lt d.a<;
        b< = lt d.b<;
        meet = omega (arith, d.meet, f.right a d.a<, f.left b d.b<);
        line = λ z lo hi. subst (λ (x : ℕ). UprightEdge q x z) (f.left b d.b<) (flip_upright (p.left b) (h - suc z) z (omega arith) (d.line (h - suc z) (omega arith) (omega arith)));
      }

  pub flip_left : {a b : ℕ} → Left p a b → Left q a b
  flip_left r = chain_map (λ x. x) flip_left_step r

  flip_flat : (x y z : ℕ) → y + z ≡ h → FlatEdge p x y → FlatEdge q x z
  flip_flat x y z e (i, li, hi, o) =
      let side : (q.bottom i ≡ z) ⊎ (q.top i ≡ z) = elim o.side [ inl t ↦ inr (omega (arith, f.bottom_top i hi)) | inr t ↦ inl (omega (arith, f.top_bottom i hi)) ] in
      let on : OnUpright (swap q) z x i = record { side = side; bottom = omega (arith, o, f.left i hi); top = omega (arith, o, f.right i hi) } in
      (i, li, lt hi, on)

  flip_below_step : (a b : ℕ) → BelowStep p a b → BelowStep q b a
  flip_below_step a b d =
      let left-a = f.left a d.a< in
      let left-b = f.left b d.b< in
      let right-a = f.right a d.a< in
      let right-b = f.right b d.b< in
      let meet : q.top b ≡ q.bottom a = omega (arith, d.meet, f.top_bottom a d.a<, f.bottom_top b d.b<) in
      record {
        a< = lt d.b<;
        b< = lt d.a<;
        meet = meet;
        line = λ x lo hi. flip_flat x (p.bottom b) (q.bottom a) (omega (arith, f.bottom_top b d.b<)) (d.line x (omega arith) (omega arith));
      }

  pub flip_below : {a b : ℕ} → Below p a b → Below q b a
  flip_below r = chain_turn flip_below_step r

-- the plan upside down
abbrev pub flip : Plan → Plan
flip p = record { count = p.count; left = p.left; right = p.right; bottom = λ i. p.north - p.top i; top = λ i. p.north - p.bottom i; west = p.west; east = p.east; south = 0; north = p.north - p.south }

module _ (p : Plan) (k : Floorplan p) where
  open p use {count, left, bottom, right, top, north}

  pub flipped : Flipped p (flip p) north
  flipped = record { count = refl; left = λ i l. refl; right = λ i l. refl; bottom_top = λ i l. omega (arith, k.fits i l); top_bottom = λ i l. omega (arith, k.fits i l) }

  pub flip_floorplan : Floorplan (flip p)
  flip_floorplan = record {
    fits = λ i l. omega (arith, k.fits i l);
    apart = λ i j x y hi hj u v. k.apart i j x (north - suc y) hi hj (omega (arith, k.fits i hi, u)) (omega (arith, k.fits j hj, v));
    covered = λ x y h. let r = k.covered x (north - suc y) (omega arith) in (r.0, r.1, r.2, omega (arith, h, k.fits r.0 r.2, r.3));
    no_cross = λ x y h. no_cross_at x y (north - y) (omega (arith, h.top)) h;
  }
    where
      back : Flipped (flip p) p north
      back = flipped_sym flipped

      no_cross_at : (x y z : ℕ) → y + z ≡ north → Inner (flip p) x y → UprightEdge (flip p) x (y - 1) → UprightEdge (flip p) x y
          → FlatEdge (flip p) (x - 1) y → FlatEdge (flip p) x y → ⊥
      no_cross_at x y z e h low high near far =
          k.no_cross x z (record { left = h.left; right = h.right; bottom = omega (arith, h.top); top = omega (arith, h.bottom) })
          (flip_upright back x y (z - 1) (omega (arith, h.top)) high) (flip_upright back x (y - 1) z (omega (arith, h.bottom)) low) (flip_flat back (x - 1) y z e near) (flip_flat back x y z e far)

  -- b lies to the lower right of a
  pub lower_right→left_or_above : (a b : ℕ) → a < count → b < count → right a ≤ left b → top b ≤ bottom a → Left p a b ⊎ Below p b a
  lower_right→left_or_above a b ha hb e s = elim (upper_right→left_or_below (flip p) flip_floorplan a b ha hb e (omega arith)) [
    | inl r ↦ inl (flip_left (flipped_sym flipped) r)
    | inr r ↦ inr (flip_below (flipped_sym flipped) r)
  ]

  pub not_left_and_above : {a b : ℕ} → Left p a b → Below p b a → ⊥
  not_left_and_above {a} l q = not_left_and_below (flip p) flip_floorplan a (left_a< l) (flip_left flipped l) (flip_below flipped q)
