-- A room b to the upper right of a room a: a is left of b or below b. By induction on how far up and to the right b lies. At b's
-- lower-left corner a line ends on another: where the upright line goes on downward, the room under b stands on b's line and is
-- nearer to a; else the same holds with x and y swapped. UpsideDown has the lower right.
use Rattle.std.specs.Prelude.{refl, ◌≢◌, ◌⊎◌, ℕ, zero, suc, ◌+◌, ◌-◌, ◌≤◌, ◌<◌}
use Rattle.std.proofs.Common.{sym, ap, subst, inl, inr, zero-le, arith}
use Rattle.finite.specs.Decide.{le_or_lt, eq_or_ne}
use Rattle.rooms.specs.Orders.{one, step}
use Rattle.rooms.specs.Plan.{Plan, RoomCovers, swap, swap_covers, tiles, owner, owner_covers, Floorplan, swap_floorplan, Left, Below}
use Rattle.rooms.specs.EdgesAtPoint.{two_rooms→sides_meet, edge→sides_meet}
use Rattle.rooms.specs.SharedRow.{adjacent→left_step, row→left}
use Rattle.rooms.specs.LeftThrough.{left_through}

pub other_way_lem : {A B : Type 0} → A ⊎ B → B ⊎ A
other_way_lem (inl a) = inr a
other_way_lem (inr b) = inl b

module _ (p : Plan) (k : Floorplan p) where
  open p use {count, left, bottom, right, top}

  -- the step of the induction: u is the room under b at b's lower-left corner, and v the room left of both
  step_down : (a b u v : ℕ) → a < count → b < count → u < count → v < count → right a ≤ left b → top a ≤ bottom b
      → RoomCovers p u (left b) (bottom b - 1) → RoomCovers p v (left b - 1) (bottom b - 1) → RoomCovers p v (left b - 1) (bottom b)
      → (left u + bottom u < left b + bottom b → right a ≤ left u → top a ≤ bottom u → Left p a u ⊎ Below p a u) → Left p a b ⊎ Below p a b
  step_down a b u v ha hb hu hv before under at-u at-v beside nearer =
      let fa = k.fits a ha in
      let fb = k.fits b hb in
      let fu = k.fits u hu in
      let (top-u, bottom-b) = edge→sides_meet (swap p) (tiles (swap_floorplan k)) u b (bottom b) (left b) hu hb (omega arith) (swap_covers at-u) (omega arith)
      (b, zero-le, hb, record { side = inl refl; bottom = omega arith; top = omega arith }) in
      let differ : v ≢ u = λ e. omega (arith, ap top e) in
      let (right-v, left-u) = two_rooms→sides_meet p (tiles k) v u (left b) (bottom b - 1) hv hu (omega arith) at-v at-u differ in
      let v-u = adjacent→left_step p k v u (bottom b - 1) hv hu (omega arith) (omega arith) (omega arith) in
      let v-b = adjacent→left_step p k v b (bottom b) hv hb right-v (omega arith) (omega arith) in
      let u-b = adjacent→left_step (swap p) (swap_floorplan k) u b (left b) hu hb top-u (omega arith) (omega arith) in
      elim (le_or_lt (top a) (bottom u)) [
        | inl h ↦ elim (nearer (omega arith) (omega arith) h) [ inl r ↦ inl (left_through p k r v-u (one v-b)) | inr r ↦ inr (step r u-b) ]
        | inr h ↦ inl (left_through p k (row→left p k a u (top a - 1) ha hu (omega arith) (omega arith) (omega arith)) v-u (one v-b))
      ]

module _ (p : Plan) (k : Floorplan p) where
  open p use {count, left, bottom, right, top}

  upper_right_within : (far a b : ℕ) → left b + bottom b ≤ far → a < count → b < count → right a ≤ left b → top a ≤ bottom b
      → Left p a b ⊎ Below p a b
  upper_right_within zero a b l ha hb before under = absurd (omega (arith, k.fits a ha))
  upper_right_within (suc far) a b l ha hb before under =
      let fa = k.fits a ha in
      let fb = k.fits b hb in
      let se = owner p (left b) (bottom b - 1) in
      let sw = owner p (left b - 1) (bottom b - 1) in
      let nw = owner p (left b - 1) (bottom b) in
      let (hse, ise) = owner_covers (tiles k) (left b) (bottom b - 1) (omega arith) in
      let (hsw, isw) = owner_covers (tiles k) (left b - 1) (bottom b - 1) (omega arith) in
      let (hnw, inw) = owner_covers (tiles k) (left b - 1) (bottom b) (omega arith) in
      elim (eq_or_ne nw sw) [
        | inl e ↦ step_down p k a b se sw ha hb hse hsw before under ise isw (subst (λ (i : ℕ). RoomCovers p i (left b - 1) (bottom b)) e inw)
            (λ m g h. upper_right_within far a se (omega arith) ha hse g h)
        | inr d ↦ elim (eq_or_ne se sw) [
          | inl e ↦ other_way_lem (step_down (swap p) (swap_floorplan k) a b nw sw ha hb hnw hsw under before (swap_covers inw) (swap_covers isw)
              (swap_covers (subst (λ (i : ℕ). RoomCovers p i (left b) (bottom b - 1)) e ise)) (λ m g h. other_way_lem (upper_right_within far a nw (omega arith) ha hnw h g)))
          | inr c ↦
              let across = (two_rooms→sides_meet p (tiles k) sw se (left b) (bottom b - 1) hsw hse (omega arith) isw ise (λ e. c (sym e))).0 in
              let up = (two_rooms→sides_meet (swap p) (tiles (swap_floorplan k)) sw nw (bottom b) (left b - 1) hsw hnw (omega arith) (swap_covers isw) (swap_covers inw) (λ e. d (sym e))).0 in
              absurd (k.no_cross (left b) (bottom b) (omega arith) (sw, zero-le, hsw, record { side = inr across; bottom = isw.bottom; top = isw.top })
              (b, zero-le, hb, record { side = inl refl; bottom = omega arith; top = omega arith }) (sw, zero-le, hsw, record { side = inr up; bottom = isw.left; top = isw.right })
              (b, zero-le, hb, record { side = inl refl; bottom = omega arith; top = omega arith }))
        ]
      ]

  pub upper_right→left_or_below : (a b : ℕ) → a < count → b < count → right a ≤ left b → top a ≤ bottom b → Left p a b ⊎ Below p a b
  upper_right→left_or_below a b = upper_right_within (left b + bottom b) a b (omega arith)
