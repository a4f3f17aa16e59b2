-- The rule of the next room for the two orders of a floorplan. For positions, "left or below": the first room has its lower-left corner
-- at the outline's, and next comes the room that follows. Over the line of a room's top that is NextRoom with x and y swapped. For
-- labels, "left or above", it is the same of the plan upside down.
use Rattle.std.specs.Prelude.{◌≡◌, ◌⊎◌, ℕ, ◌-◌, ◌≤◌, ◌<◌}
use Rattle.std.proofs.Common.{ap, inl, inr, zero-le, arith}
use Rattle.finite.specs.Decide.{le_or_lt}
use Rattle.finite.specs.Search.{Some}
use Rattle.rooms.specs.Plan.{Plan, Fits, RoomCovers, Floorplan, tiles, swap, swap_floorplan, owner, owner_covers, Left, Below, left_a<, left_b<, left→right≤left}
use Rattle.rooms.specs.UpperRight.{other_way_lem}
use Rattle.rooms.specs.UpsideDown.{flip, flipped, flipped_sym, flip_floorplan, flip_left, flip_below}
use Rattle.orders.specs.Starts.{Starts}
use Rattle.orders.specs.AlongLine.{StartsAtCorner, Reached, first, further, Follows, beside, across, reached→room}
use Rattle.orders.specs.Successor.{Successor, successor_map}
use Rattle.orders.specs.NextRoom.{end→successor}

-- an order in which the room with its corner at (x, y) comes first, and after each room the one that follows it, unless it is the last
pub record Ordered (n : ℕ) (left bottom right top : ℕ → ℕ) (x y : ℕ) (R : ℕ → ℕ → Type 0) : Type 0 where
  pub some_first : 0 < n → Starts n left bottom x y
  pub first : (a : ℕ) → a < n → left a ≡ x → bottom a ≡ y → (j : ℕ) → ¬ R j a
  pub next : (b c : ℕ) → b < n → Follows n left bottom right top b c → Successor R b c
  pub starts_or_last : (b : ℕ) → b < n → StartsAtCorner n left bottom right top b ⊎ ((j : ℕ) → ¬ R b j)

pub ordered_map : {n : ℕ} {left bottom right top : ℕ → ℕ} {x y : ℕ} {R Q : ℕ → ℕ → Type 0} → ((a b : ℕ) → R a b → Q a b)
    → ((a b : ℕ) → Q a b → R a b) → Ordered n left bottom right top x y R → Ordered n left bottom right top x y Q
ordered_map to from o = record {
  some_first = o.some_first;
  first = λ a ha e f j q. o.first a ha e f j (from j a q);
  next = λ b c hb f. successor_map to from (o.next b c hb f);
  starts_or_last = λ b hb. elim (o.starts_or_last b hb) [ inl s ↦ inl s | inr none ↦ inr (λ j q. none j (from b j q)) ];
}

-- ---- positions
-- a is left of b or below b
abbrev pub LeftOrBelow : Plan → (a b : ℕ) → Type 0
LeftOrBelow p a b = Left p a b ⊎ Below p a b

-- the room beyond b's right side, at its upper end
beyond_right : (p : Plan) → Floorplan p → (b : ℕ) → b < p.count → p.right b < p.east
    → Some (λ c. RoomCovers p c (p.right b) (p.top b - 1) × (p.left c ≡ p.right b)) 0 p.count
beyond_right p k b hb h =
    let fb = k.fits b hb in
    let c = owner p (p.right b) (p.top b - 1) in
    let (hc, i) = owner_covers (tiles k) (p.right b) (p.top b - 1) (omega arith) in
    let e : p.left c ≡ p.right b = elim (le_or_lt (p.right b) (p.left c)) [
      | inl g ↦ omega arith
      | inr g ↦ absurd (omega (arith, ap p.right (k.apart c b (p.right b - 1) (p.top b - 1) hc hb (omega arith) (omega arith))))
    ] in
    (c, zero-le, hc, (i, e))

module _ (p : Plan) (k : Floorplan p) where
  open p use {count, left, bottom, right, top, west, south, east, north}

  -- where the room beyond b's upper-right corner reaches higher than b, or there is none, a room starts on the line of b's top
  starts_over : (b : ℕ) → b < count → top b < north
      → (east ≤ right b) ⊎ Some (λ c. RoomCovers p c (right b) (top b) × (left c ≡ right b)) 0 count
      → Starts count bottom right (top b) (right b)
  starts_over b hb h beyond =
      let fb = k.fits b hb in
      let (d, l, hd, s) = beyond_right (swap p) (swap_floorplan k) b hb h in
      let i = s.0 in
      let e : bottom d ≡ top b = s.1 in
      let fd = k.fits d hd in
      let r : right d ≡ right b = elim (le_or_lt (right d) (right b)) [
        | inl g ↦ omega arith
        | inr g ↦ elim beyond [
          | inl q ↦ omega arith
          | inr q ↦ let (c, l, hc, t) = q in
              absurd (omega (arith, t.1, ap left (k.apart d c (right b) (top b) hd hc (omega arith) t.0)))
        ]
      ] in
      (d, zero-le, hd, (e, r))

  -- one of the two lines has a room that starts at b's upper-right corner, unless that is the outline's
  starts_or_corner : (b : ℕ) → b < count → StartsAtCorner count left bottom right top b ⊎ ((right b ≡ east) × (top b ≡ north))
  starts_or_corner b hb = go (k.fits b hb) (le_or_lt east (right b)) (le_or_lt north (top b))
    where
      go : Fits p b → (east ≤ right b) ⊎ (right b < east) → (north ≤ top b) ⊎ (top b < north)
          → StartsAtCorner count left bottom right top b ⊎ ((right b ≡ east) × (top b ≡ north))
      go f (inl h) (inl g) = inr (omega arith, omega arith)
      go f (inl h) (inr g) = inl (inr (starts_over b hb g (inl h)))
      go f (inr h) g =
          let (c, l, hc, q) = beyond_right p k b hb h in
          let i = q.0 in
          let fc = k.fits c hc in
          elim (le_or_lt (top c) (top b)) [
            | inl s ↦ inl (inl (c, zero-le, hc, (q.1, omega arith)))
            | inr s ↦ inl (inr (starts_over b hb (omega arith) (inr (c, zero-le, hc, (omega arith, q.1)))))
          ]

  follows→successor : (b c : ℕ) → b < count → Follows count left bottom right top b c → Successor (LeftOrBelow p) b c
  follows→successor b c hb (beside e) = end→successor p k b c hb e
  follows→successor b c hb (across e) =
      successor_map (λ u v. other_way_lem) (λ u v. other_way_lem) (end→successor (swap p) (swap_floorplan k) b c hb e)

  pub position_order : Ordered count left bottom right top west south (LeftOrBelow p)
  position_order = record {
    some_first = λ h.
        let f = k.fits 0 h in
        let (ha, i) = owner_covers (tiles k) west south (omega arith) in
        let fa = k.fits (owner p west south) ha in
        (owner p west south, zero-le, ha, (omega arith, omega arith));
    first = λ a ha e f j. none_before a e f j;
    next = follows→successor;
    starts_or_last = λ b hb. elim (starts_or_corner b hb) [ inl s ↦ inl s | inr q ↦ inr (none_after b q.0 q.1) ];
  }
    where
      none_before : (a : ℕ) → left a ≡ west → bottom a ≡ south → (j : ℕ) → ¬ LeftOrBelow p j a
      none_before a e f j (inl r) = omega (arith, left→right≤left k r, k.fits j (left_a< r))
      none_before a e f j (inr r) = omega (arith, left→right≤left (swap_floorplan k) r, k.fits j (left_a< r))

      none_after : (b : ℕ) → right b ≡ east → top b ≡ north → (j : ℕ) → ¬ LeftOrBelow p b j
      none_after b e f j (inl r) = omega (arith, left→right≤left k r, k.fits j (left_b< r))
      none_after b e f j (inr r) = omega (arith, left→right≤left (swap_floorplan k) r, k.fits j (left_b< r))

-- ---- labels, by the plan upside down
-- a is left of b or above b
abbrev pub LeftOrAbove : Plan → (a b : ℕ) → Type 0
LeftOrAbove p a b = Left p a b ⊎ Below p b a

reached_map : (f g : ℕ → ℕ) {n : ℕ} {on from to : ℕ → ℕ} {line point c : ℕ} → Reached n on from to line point c
    → Reached n (λ i. f (on i)) (λ i. g (from i)) (λ i. g (to i)) (f line) (g point) c
reached_map f g (first h a b) = first h (ap f a) (ap g b)
reached_map f g (further r h a b) = further (reached_map f g r) h (ap f a) (ap g b)

module _ (p : Plan) (k : Floorplan p) where
  open p use {count, left, bottom, right, top, west, south, east, north}

  upside : Ordered count left (flip p).bottom right (flip p).top west 0 (LeftOrBelow (flip p))
  upside = position_order (flip p) (flip_floorplan p k)

  flip_follows : (b c : ℕ) → b < count → Follows count left top right bottom b c
      → Follows count left (flip p).bottom right (flip p).top b c
  flip_follows b c hb (beside e) = beside (record {
    reached = reached_map (λ z. z) (λ z. north - z) e.reached;
    stop = λ (d, l, hd, q). e.stop (d, l, hd, (q.0, omega (arith, q.1, k.fits d hd, k.fits c (reached→room e.reached))));
  })
  flip_follows b c hb (across e) = across (record {
    reached = reached_map (λ z. north - z) (λ z. z) e.reached;
    stop = λ (d, l, hd, q). e.stop (d, l, hd, (omega (arith, q.0, k.fits d hd, k.fits b hb), q.1));
  })

  to_above : (a b : ℕ) → LeftOrBelow (flip p) a b → LeftOrAbove p a b
  to_above a b (inl r) = inl (flip_left (flipped_sym (flipped p k)) r)
  to_above a b (inr r) = inr (flip_below (flipped_sym (flipped p k)) r)

  to_below : (a b : ℕ) → LeftOrAbove p a b → LeftOrBelow (flip p) a b
  to_below a b (inl r) = inl (flip_left (flipped p k) r)
  to_below a b (inr r) = inr (flip_below (flipped p k) r)

  pub label_order : Ordered count left top right bottom west north (LeftOrAbove p)
  label_order = let o = ordered_map to_above to_below upside in record {
    some_first = λ h. let (a, l, ha, q) = o.some_first h in (a, l, ha, (q.0, omega (arith, q.1, k.fits a ha)));
    first = λ a ha e f. o.first a ha e (omega arith);
    next = λ b c hb f. o.next b c hb (flip_follows b c hb f);
    starts_or_last = λ b hb. elim (o.starts_or_last b hb) [
      | inl t ↦ inl (elim t [
        | inl s ↦ let (c, l, hc, q) = s in inl (c, l, hc, (q.0, omega (arith, q.1, k.fits c hc, k.fits b hb)))
        | inr s ↦ let (c, l, hc, q) = s in inr (c, l, hc, (omega (arith, q.0, k.fits c hc, k.fits b hb), q.1))
      ])
      | inr none ↦ inr none
    ];
  }
