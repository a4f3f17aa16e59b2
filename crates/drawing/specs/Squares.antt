-- Unit squares: each unit square of the outline is covered by the room of exactly one position, its owner.
-- The square (x, y) is the one from the point (x, y) to the point (x + 1, y + 1); it lies in column x and in row y.
use Rattle.std.specs.Prelude.{◌≡◌, ◌⊎◌, ℕ, zero, suc, ◌+◌, ◌-◌, ◌≤◌, ◌<◌, max}
use Rattle.std.proofs.Common.{subst, inl, inr, arith}
use Rattle.std.proofs.Math.Decide.{dec_lt}
use Rattle.finite.specs.Decide.{le_or_lt}
use Rattle.record.specs.Labels.{EachOnce}
use Rattle.record.specs.Way.{up, down}
use Rattle.drawing.specs.declared.Room.{Room}
use Rattle.drawing.specs.Drawing.{last_before, first_later, room_at}
use Rattle.drawing.specs.Nearest.{Nearest, reach→clear, clear→reach, last_nearest, first_nearest}

-- a box covers the unit square (x, y)
pub record BoxCovers (west south east north x y : ℕ) : Type 0 where
  pub left : west ≤ x
  pub right : x < east
  pub bottom : south ≤ y
  pub top : y < north

-- a room covers it
abbrev pub Covers : Room → (x y : ℕ) → Type 0
Covers room x y = BoxCovers room.left room.bottom room.right room.top x y

-- ---- columns and rows alike
-- an order of the positions by their labels: for columns, R a b says that the label at a is smaller than the one at b; for rows,
-- that it is larger
record Ordered (R : ℕ → ℕ → Type 0) : Type 0 where
  dec : (a b : ℕ) → Dec (R a b)
  total : (a b : ℕ) → (¬ R a b) ⊎ (¬ R b a)
  chain : {a b c : ℕ} → ¬ R a b → ¬ R b c → ¬ R a c

abbrev Smaller : (ℕ → ℕ) → ℕ → ℕ → Type 0
Smaller f a b = f a < f b

abbrev rising : (f : ℕ → ℕ) → Ordered (Smaller f)
rising f = record {
  dec = λ a b. dec_lt (f a) (f b);
  total = λ a b. elim (le_or_lt (f a) (f b)) [ inl h ↦ inr (omega arith) | inr h ↦ inl (omega arith) ];
  chain = λ h k. omega arith;
}

abbrev turned : {R : ℕ → ℕ → Type 0} → Ordered R → Ordered (λ a b. R b a)
turned s = record { dec = λ a b. s.dec b a; total = λ a b. s.total b a; chain = λ h k. s.chain k h }

-- nothing from position i to column x stops the room at i
record Spans (R : ℕ → ℕ → Type 0) (i x : ℕ) : Type 0 where
  before : (j : ℕ) → x < j → j < i → ¬ R j i
  later : (j : ℕ) → i < j → j ≤ suc x → ¬ R i j

module _ {R : ℕ → ℕ → Type 0} (s : Ordered R) where
  -- the left and the right of the room at i; for rows, the bottom and the top
  abbrev start : (i : ℕ) → ℕ
  start i = last_before (λ j. R j i) (λ j. s.dec j i) i

  abbrev end : (n i : ℕ) → ℕ
  end n i = first_later (λ j. R i j) (λ j. s.dec i j) i n

  module _ (n i : ℕ) (from : 1 ≤ i) (to : i ≤ n) where
    back : Nearest down (λ j. R j i) n i (start i)
    back = last_nearest (λ j. R j i) (λ j. s.dec j i) n i from to

    ahead : Nearest up (λ j. R i j) n i (suc (end n i))
    ahead = first_nearest (λ j. R i j) (λ j. s.dec i j) n i from to

    extent : (start i < i) × (i ≤ end n i) × (end n i ≤ n)
    extent = omega (arith, back.past, ahead.past, ahead.within)

    extent→spans : (x : ℕ) → start i ≤ x → x < end n i → Spans R i x
    extent→spans x l r = record {
      before = λ j a b. reach→clear down from to back x (omega arith) j b a;
      later = λ j a b. reach→clear up from to ahead (suc (suc x)) (omega arith) j a (omega arith);
    }

    spans→extent : (x : ℕ) → x < n → Spans R i x → (start i ≤ x) × (x < end n i)
    spans→extent x h k = omega (
      arith,
      clear→reach down from to back x (omega arith) (λ j a b. k.before j b a),
      clear→reach up from to ahead (suc (suc x)) (omega arith) (λ j a b. k.later j a (omega arith)),
    )

  -- of two rooms in one column, the earlier does not have the smaller label
  spans→not_R : {i k x : ℕ} → i < k → Spans R i x → Spans R k x → ¬ R i k
  spans→not_R {i} {k} {x} l u v = elim (le_or_lt i x) [
    | inr h ↦ v.before i h l
    | inl h ↦ elim (le_or_lt k (suc x)) [
      | inl g ↦ u.later k l g
      | inr g ↦ s.chain (u.later (suc x) (omega arith) (omega arith)) (v.before (suc x) (omega arith) g)
    ]
  ]

  not_self : {j k : ℕ} → j ≡ k → ¬ R j k
  not_self {j} e = subst (λ (k : ℕ). ¬ R j k) e (elim (s.total j j) [ inl h ↦ h | inr h ↦ h ])

-- the position of the smallest label among p and the m positions after it
record Lowest (R : ℕ → ℕ → Type 0) (p m : ℕ) : Type 0 where
  at : ℕ
  from : p ≤ at
  to : at ≤ p + m
  least : (j : ℕ) → p ≤ j → j ≤ p + m → ¬ R j at

lowest : {R : ℕ → ℕ → Type 0} → Ordered R → (p m : ℕ) → Lowest R p m
lowest s p zero = record { at = p; from = omega arith; to = omega arith; least = λ j a b. not_self s (omega arith) }
lowest {R} s p (suc m) = go (lowest s p m)
  where
    go : Lowest R p m → Lowest R p (suc m)
    go r = elim (s.total (p + suc m) r.at) [
      | inl h ↦ record {
        at = r.at;
        from = r.from;
        to = omega arith;
        least = λ j a b. elim (either j a b) [ inl l ↦ l | inr l ↦ s.chain l h ];
      }
      | inr h ↦ record {
        at = p + suc m;
        from = omega arith;
        to = omega arith;
        least = λ j a b. elim (either j a b) [ inl l ↦ s.chain l h | inr l ↦ l ];
      }
    ]
      where
        either : (j : ℕ) → p ≤ j → j ≤ p + suc m → (¬ R j r.at) ⊎ (¬ R j (p + suc m))
        either j a b = elim (le_or_lt j (p + m)) [ inl l ↦ inl (r.least j a l) | inr l ↦ inr (not_self s (omega arith)) ]

-- ---- columns and rows together
-- nothing stops the room at i before column x and row y
record Reaches (R : ℕ → ℕ → Type 0) (i x y : ℕ) : Type 0 where
  column : Spans R i x
  row : Spans (λ a b. R b a) i y

-- a room that reaches the square
record Found (R : ℕ → ℕ → Type 0) (x y : ℕ) : Type 0 where
  at : ℕ
  from : 1 ≤ at
  to : at ≤ suc (max x y)
  reaches : Reaches R at x y

lowest_found : {R : ℕ → ℕ → Type 0} → Ordered R → (x y : ℕ) → x ≤ y → Found R x y
lowest_found s x y h = let r = lowest s (suc x) (y - x) in record {
  at = r.at;
  from = omega (arith, r.from);
  to = omega (arith, r.to);
  reaches = record {
    column = record { before = λ j a b. r.least j a (omega arith); later = λ j a b. absurd (omega arith) };
    row = record { before = λ j a b. absurd (omega arith); later = λ j a b. r.least j (omega arith) (omega arith) };
  };
}

found : (f : ℕ → ℕ) (x y : ℕ) → Found (Smaller f) x y
found f x y = elim (le_or_lt x y) [
  | inl h ↦ lowest_found (rising f) x y h
  | inr h ↦
      let r = lowest_found (turned (rising f)) y x (omega arith) in
      record { at = r.at; from = r.from; to = omega (arith, r.to); reaches = record { column = r.reaches.row; row = r.reaches.column } }
]

-- the position of the smallest label from x + 1 to y + 1; where y is less than x, of the largest from y + 1 to x + 1
pub owner_of : (ℕ → ℕ) → (x y : ℕ) → ℕ
owner_of f x y = (found f x y).at

module _ (f : ℕ → ℕ) (n : ℕ) where
  module _ (i : ℕ) (from : 1 ≤ i) (to : i ≤ n) where
    -- the room at i covers the i-th square of the diagonal
    pub covers_own : Covers (room_at f n i) (i - 1) (i - 1)
    covers_own = omega (arith, extent (rising f) n i from to, extent (turned (rising f)) n i from to)

    pub room_inside : ((room_at f n i).right ≤ n) × ((room_at f n i).top ≤ n)
    room_inside = omega (arith, extent (rising f) n i from to, extent (turned (rising f)) n i from to)

    covers→reaches : {x y : ℕ} → Covers (room_at f n i) x y → Reaches (Smaller f) i x y
    covers→reaches {x} {y} c = record {
      column = extent→spans (rising f) n i from to x c.left c.right;
      row = extent→spans (turned (rising f)) n i from to y c.bottom c.top;
    }

    reaches→covers : {x y : ℕ} → x < n → y < n → Reaches (Smaller f) i x y → Covers (room_at f n i) x y
    reaches→covers {x} {y} hx hy r =
        omega (arith, spans→extent (rising f) n i from to x hx r.column, spans→extent (turned (rising f)) n i from to y hy r.row)

  module _ (x y : ℕ) (hx : x < n) (hy : y < n) where
    pub owner_position : (1 ≤ owner_of f x y) × (owner_of f x y ≤ n)
    unfolding owner_of
    owner_position = let r = found f x y in omega (arith, r.from, r.to)

    -- the owner's room covers the square
    pub owner_covers : Covers (room_at f n (owner_of f x y)) x y
    unfolding owner_of
    owner_covers = reaches→covers (owner_of f x y) owner_position.0 owner_position.1 hx hy (found f x y).reaches

    -- and no other room does
    pub owner_only : EachOnce f n → (i : ℕ) → 1 ≤ i → i ≤ n → Covers (room_at f n i) x y → i ≡ owner_of f x y
    unfolding owner_of
    owner_only once i from to c =
        let (first, last) = owner_position in
        let r = covers→reaches i from to c in
        let q = (found f x y).reaches in
        omega (arith, not_earlier i (owner_of f x y) from to first last r q, not_earlier (owner_of f x y) i first last from to q r)
      where
        not_earlier : (i k : ℕ) → 1 ≤ i → i ≤ n → 1 ≤ k → k ≤ n → Reaches (Smaller f) i x y → Reaches (Smaller f) k x y → ¬ (i < k)
        not_earlier i k fi ti fk tk u v l =
            let column = spans→not_R (rising f) l u.column v.column in
            let row = spans→not_R (turned (rising f)) l u.row v.row in
            omega (arith, once.once i k fi ti fk tk (omega arith))
