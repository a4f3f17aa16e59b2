-- The room that follows b by position, found along the line of b's right side: b is directly left of the last room c down that line from
-- b's upper-right corner, and no room z stands between them. Were z left of c, then the last step into c starts on the same line, at b or
-- below b; were z below c, then the last step into c also leads to the lowest room left of the line, which is b or below b.
use Rattle.std.specs.Prelude.{◌≡◌, refl, ◌⊎◌, ℕ, zero, ◌-◌, ◌≤◌, ◌<◌, min, max}
use Rattle.std.proofs.Common.{sym, ap, ◌∙◌, subst, inl, inr, zero-le, arith}
use Rattle.finite.specs.Decide.{le_or_lt, eq_or_ne}
use Rattle.rooms.specs.Orders.{one, step}
use Rattle.rooms.specs.Chain.{chain_trans}
use Rattle.rooms.specs.Plan.{Plan, Floorplan, tiles, swap, swap_floorplan, owner, owner_covers, UprightEdge, FlatEdge, LeftStep, BelowStep, Left, Below, left→right≤left, left_step→none_between}
use Rattle.rooms.specs.EdgesAtPoint.{edge→sides_meet, no_edge→one_room}
use Rattle.rooms.specs.SharedRow.{row→left_or_right}
use Rattle.rooms.specs.Staircase.{not_left_and_below}
use Rattle.rooms.specs.UpsideDown.{not_left_and_above}
use Rattle.rooms.specs.FourRelations.{left_asym}
use Rattle.orders.specs.Starts.{Starts}
use Rattle.orders.specs.AlongLine.{Reached, first, further, End, reached→room, reached→on, reached→starts}
use Rattle.orders.specs.Successor.{Successor}

module _ (p : Plan) (k : Floorplan p) where
  open p use {count, left, bottom, right, top, west}

  -- the line is drawn along the rooms that are reached on the way down
  record DrawnDown (line point c : ℕ) : Type 0 where
    under : top c ≤ point
    drawn : (y : ℕ) → bottom c ≤ y → y < point → UprightEdge p line y

  reached→drawn : {line point c : ℕ} → Reached count left top bottom line point c → DrawnDown line point c
  reached→drawn (first {c = c} h e f) = record {
    under = omega arith;
    drawn = λ y lo hi. (c, zero-le, h, record { side = inl e; bottom = lo; top = omega arith });
  }
  reached→drawn (further {c = c} {d = d} r h e f) = let s = reached→drawn r in record {
    under = omega (arith, s.under, k.fits c (reached→room r));
    drawn = λ y lo hi. elim (le_or_lt (bottom c) y)
        [ inl g ↦ s.drawn y g hi | inr g ↦ (d, zero-le, h, record { side = inl e; bottom = lo; top = omega arith }) ];
  }

  -- of two rooms in one column, the one that starts under the other's top is the same room or below it
  column→same_or_below : (w b x : ℕ) → w < count → b < count → left w ≤ x → x < right w → left b ≤ x → x < right b → bottom w < top b
      → (w ≡ b) ⊎ Below p w b
  column→same_or_below w b x hw hb w-from w-to b-from b-to h = elim (eq_or_ne w b) [
    | inl e ↦ inl e
    | inr ne ↦ elim (row→left_or_right (swap p) (swap_floorplan k) w b x hw hb ne (omega arith) (omega arith)) [
      | inl r ↦ inr r
      | inr r ↦ absurd (omega (arith, left→right≤left (swap_floorplan k) r))
    ]
  ]

  -- the line ends at b's upper-right corner, where another room has its upper-left corner there
  no_edge_above : (b c : ℕ) → b < count → c < count → left c ≡ right b → top c ≡ top b → ¬ UprightEdge p (right b) (top b)
  no_edge_above b c hb hc e f edge =
      let fb = k.fits b hb in
      let fc = k.fits c hc in
      let (i, l, hi, o) = edge in
      let fi = k.fits i hi in
      k.no_cross (right b) (top b) (omega (arith, o.top))
      (b, zero-le, hb, record { side = inr refl; bottom = omega arith; top = omega arith }) edge
      (b, zero-le, hb, record { side = inr refl; bottom = omega arith; top = omega arith }) (
        c,
        zero-le,
        hc,
        record {
          side = inr f;
          bottom = omega arith;
          top = omega arith;
        },
      )

  -- and at the lower-left corner of a room c, where no room starts there
  no_edge_below : (line c : ℕ) → c < count → west < line → left c ≡ line → ¬ Starts count left top line (bottom c) → zero < bottom c
      → ¬ UprightEdge p line (bottom c - 1)
  no_edge_below line c hc inside e stop some edge =
      let fc = k.fits c hc in
      let (i, l, hi, o) = edge in
      let fi = k.fits i hi in
      let low = o.bottom in
      let sw = owner p (line - 1) (bottom c - 1) in
      let se = owner p line (bottom c - 1) in
      let (hsw, isw) = owner_covers (tiles k) (line - 1) (bottom c - 1) (omega arith) in
      let (hse, ise) = owner_covers (tiles k) line (bottom c - 1) (omega arith) in
      let (q, r) = edge→sides_meet p (tiles k) sw se line (bottom c - 1) hsw hse (omega arith) isw ise edge in
      let t : top se ≡ bottom c = elim (le_or_lt (top se) (bottom c)) [
        | inl g ↦ omega arith
        | inr g ↦ absurd (omega (arith, ap bottom (k.apart se c line (bottom c) hse hc (omega arith) (omega arith))))
      ] in
      stop (se, zero-le, hse, (r, t))

  module _ (b c : ℕ) (hb : b < count) (end : End count left top bottom (right b) (top b) c) where
    hc : c < count
    hc = reached→room end.reached

    directly_left : LeftStep p b c
    directly_left = let s = reached→drawn end.reached in record {
      a< = hb;
      b< = hc;
      meet = sym (reached→on end.reached);
      line = λ y lo hi. subst (λ (x : ℕ). UprightEdge p x y) (sym (reached→on end.reached)) (elim (le_or_lt (bottom b) y) [
        | inl g ↦ (b, zero-le, hb, record { side = inr refl; bottom = g; top = omega (arith, s.under) })
        | inr g ↦ s.drawn y (omega arith) (omega (arith, s.under))
      ]);
    }

    -- what is directly left of c is b or below b
    into_left : (w : ℕ) → LeftStep p w c → (w ≡ b) ⊎ Below p w b
    into_left w d =
        let s = reached→drawn end.reached in
        let under = s.under in
        let fb = k.fits b hb in
        let fc = k.fits c hc in
        let fw = k.fits w d.a< in
        let meet = d.meet in
        let on = reached→on end.reached in
        elim (le_or_lt (top w) (top b)) [
          | inl g ↦ column→same_or_below w b (right b - 1) d.a< hb (omega arith) (omega arith) (omega arith) (omega arith) (omega arith)
          | inr g ↦
              let (a, l, ha, at) = reached→starts end.reached in
              absurd (no_edge_above b a hb ha at.0 at.1
              (subst (λ (x : ℕ). UprightEdge p x (top b)) on (d.line (top b) (omega arith) (omega arith))))
        ]

    -- a flat line under c goes on under the room v left of c that starts at the same height
    line_under : (v w : ℕ) → v < count → right v ≡ right b → bottom v ≡ bottom c → BelowStep p w c → (x : ℕ) → min (left w) (left v) ≤ x
        → x < max (right w) (right v) → FlatEdge p x (bottom c)
    line_under v w hv r t d x lo hi =
        let fv = k.fits v hv in
        let fc = k.fits c hc in
        let on = reached→on end.reached in
        elim (le_or_lt (left v) x) [
          | inl g ↦ elim (le_or_lt (right v) x) [
            | inr h ↦ (v, zero-le, hv, record { side = inl t; bottom = g; top = h })
            | inl h ↦ d.line x (omega arith) (omega arith)
          ]
          | inr g ↦ d.line x (omega arith) (omega arith)
        ]

    -- what is directly below c is below b
    into_below : (w : ℕ) → BelowStep p w c → Below p w b
    into_below w d =
        let s = reached→drawn end.reached in
        let under = s.under in
        let fb = k.fits b hb in
        let fc = k.fits c hc in
        let fw = k.fits w d.a< in
        let meet : top w ≡ bottom c = d.meet in
        let on = reached→on end.reached in
        let v = owner p (right b - 1) (bottom c) in
        let u = owner p (right b) (bottom c - 1) in
        let (hv, iv) = owner_covers (tiles k) (right b - 1) (bottom c) (omega arith) in
        let (hu, iu) = owner_covers (tiles k) (right b) (bottom c - 1) (omega arith) in
        let (r, q) = edge→sides_meet p (tiles k) v c (right b) (bottom c) hv hc (omega arith) iv (omega arith)
        (s.drawn (bottom c) (omega arith) (omega arith)) in
        let t : bottom v ≡ bottom c = elim (le_or_lt (bottom c) (bottom v)) [
          | inl g ↦ omega arith
          | inr g ↦ absurd (omega (
            arith,
            iu,
            ap right (no_edge→one_room p (tiles k) v u (right b) (bottom c - 1) hv hu (omega arith) (omega arith) iu
                (no_edge_below (right b) c hc (omega arith) on end.stop (omega arith))),
          ))
        ] in
        let under_v : BelowStep p w v = record {
          a< = d.a<;
          b< = hv;
          meet = meet ∙ sym t;
          line = λ x lo hi. subst (λ (y : ℕ). FlatEdge p x y) (sym t) (line_under v w hv r t d x lo hi);
        } in
        elim (column→same_or_below v b (right b - 1) hv hb iv.left iv.right (omega arith) (omega arith) (omega arith)) [
          | inl g ↦ subst (Below p w) g (one under_v)
          | inr g ↦ chain_trans (one under_v) g
        ]

    none_between : (z : ℕ) → Left p b z ⊎ Below p b z → Left p z c ⊎ Below p z c → ⊥
    none_between z (inl l) (inl r) = left_step→none_between k directly_left z l r
    none_between z (inr l) (inr r) = not_left_and_below p k b hb (one directly_left) (chain_trans l r)
    none_between z (inr l) (inl (one d)) = elim (into_left z d) [
      | inl e ↦ omega (arith, left→right≤left (swap_floorplan k) l, ap bottom e, k.fits b hb)
      | inr q ↦ left_asym (swap p) (swap_floorplan k) l q
    ]
    none_between z (inr l) (inl (step {b = w} r d)) = elim (into_left w d) [
      | inl e ↦ not_left_and_above p k (subst (Left p z) e r) l
      | inr q ↦ not_left_and_above p k r (chain_trans q l)
    ]
    none_between z (inl l) (inr (one d)) = not_left_and_above p k l (into_below z d)
    none_between z (inl l) (inr (step {b = w} r d)) = not_left_and_above p k l (chain_trans r (into_below w d))

    pub end→successor : Successor (λ a d. Left p a d ⊎ Below p a d) b c
    end→successor = record { after = inl (one directly_left); none_between = none_between }
