-- The unit edges that are drawn on a grid line. On the line k only the rooms at positions k and k + 1 matter: where the label rises
-- from k to k + 1, the upright unit edges drawn at x = k are those from the bottom of the later room to the top of the earlier one,
-- and where it falls none is. Swap x and y, and rise is fall: the two are one law, since smaller and larger labels are the two ways to
-- look along the labels.
use Rattle.std.specs.Prelude.{◌≡◌, List, ℕ, suc, ◌≤◌, ◌<◌, length}
use Rattle.std.proofs.Common.{sym, subst, inl, inr, zero-le, eq-or-lt_of_le, arith}
use Rattle.std.proofs.Math.Decide.{dec_lt}
use Rattle.finite.specs.Decide.{le_or_lt}
use Rattle.record.specs.Labels.{label_at}
use Rattle.record.specs.Way.{Way, up, down, Less, Past, past_trans, past_not_self}
use Rattle.drawing.specs.declared.Room.{Room}
use Rattle.drawing.specs.Drawing.{drawing_of}
use Rattle.drawing.specs.Nearest.{Nearest, clear→reach, nearest_same, last_nearest, first_nearest}
use Rattle.rooms.specs.Outline.{room_in}
use Rattle.rooms.specs.Plan.{Plan, room_of, UprightEdge}
use Rattle.rooms.specs.GridFloorplan.{place→position, room_in_drawing}

-- ---- numbers, one way
not_past_trans : (way : Way) {x y z : ℕ} → ¬ Past way x y → ¬ Past way y z → ¬ Past way x z
not_past_trans up {x} {y} {z} p q r = elim (le_or_lt y x) [ inl h ↦ q (omega arith) | inr h ↦ p (omega arith) ]
not_past_trans down {x} {y} {z} p q r = elim (le_or_lt x y) [ inl h ↦ q (omega arith) | inr h ↦ p (omega arith) ]

past_as_far : (way : Way) {x y z : ℕ} → Past way x y → ¬ Past way z y → Past way x z
past_as_far up {x} {y} {z} p q = elim (le_or_lt y z) [ inl h ↦ omega arith | inr h ↦ absurd (q (omega arith)) ]
past_as_far down {x} {y} {z} p q = elim (le_or_lt z y) [ inl h ↦ omega arith | inr h ↦ absurd (q (omega arith)) ]

past_from : (way : Way) {x y z : ℕ} → ¬ Past way x y → Past way x z → Past way y z
past_from up {x} {y} {z} p q = elim (le_or_lt y x) [ inl h ↦ omega arith | inr h ↦ absurd (p (omega arith)) ]
past_from down {x} {y} {z} p q = elim (le_or_lt x y) [ inl h ↦ omega arith | inr h ↦ absurd (p (omega arith)) ]

-- ---- a room of the drawing
-- the room at position i, where f is the label at a position: for the way up as it is drawn, for the way down with x and y swapped
pub record DrawnFor (f : ℕ → ℕ) (n : ℕ) (way : Way) (i : ℕ) (room : Room) : Type 0 where
  pub left : Nearest down (λ j. Less way (f j) (f i)) n i room.left
  pub bottom : Nearest down (λ j. Less way (f i) (f j)) n i room.bottom
  pub right : Nearest up (λ j. Less way (f i) (f j)) n i (suc room.right)
  pub top : Nearest up (λ j. Less way (f j) (f i)) n i (suc room.top)

-- as far as a side, no label stops the room
module _ {f : ℕ → ℕ} {n : ℕ} {way : Way} {i : ℕ} {room : Room} (d : DrawnFor f n way i room) where
  after_left : (j : ℕ) → room.left < j → j ≤ i → ¬ Past way (f j) (f i)
  after_left j a b p = elim (eq-or-lt_of_le b) [ inl e ↦ past_not_self (subst (λ (k : ℕ). Past way (f k) (f i)) e p) | inr l ↦ d.left.clear j l a p.less ]

  above_bottom : (j : ℕ) → room.bottom < j → j ≤ i → ¬ Past way (f i) (f j)
  above_bottom j a b p = elim (eq-or-lt_of_le b) [ inl e ↦ past_not_self (subst (λ (k : ℕ). Past way (f i) (f k)) e p) | inr l ↦ d.bottom.clear j l a p.less ]

  up_to_right : (j : ℕ) → i ≤ j → j ≤ room.right → ¬ Past way (f i) (f j)
  up_to_right j a b p = elim (eq-or-lt_of_le a) [ inl e ↦ past_not_self (subst (λ (k : ℕ). Past way (f i) (f k)) (sym e) p) | inr l ↦ d.right.clear j l (omega arith) p.less ]

  up_to_top : (j : ℕ) → i ≤ j → j ≤ room.top → ¬ Past way (f j) (f i)
  up_to_top j a b p = elim (eq-or-lt_of_le a) [ inl e ↦ past_not_self (subst (λ (k : ℕ). Past way (f k) (f i)) (sym e) p) | inr l ↦ d.top.clear j l (omega arith) p.less ]

  -- and where none does, the room goes as far
  bottom_at_most : 1 ≤ i → i ≤ n → (y : ℕ) → y ≤ n → ((j : ℕ) → y < j → j ≤ i → ¬ Past way (f i) (f j)) → room.bottom ≤ y
  bottom_at_most from to y h clear = omega (arith, clear→reach down from to d.bottom y (omega arith) (λ j a b p. clear j b (omega arith) record { less = p }))

  top_at_least : 1 ≤ i → i ≤ n → (y : ℕ) → y ≤ n → ((j : ℕ) → i ≤ j → j ≤ y → ¬ Past way (f j) (f i)) → y ≤ room.top
  top_at_least from to y h clear = omega (arith, clear→reach up from to d.top (suc y) (omega arith) (λ j a b p. clear j (omega arith) (omega arith) record { less = p }))

-- ---- the line c + 1 of a plan in which the room in place a stands at position a + 1: it lies between the rooms in places c and c + 1
-- the label rises, and the row y lies between the bottom of the later room and the top of the earlier one
pub record OnLine (f : ℕ → ℕ) (way : Way) (p : Plan) (c y : ℕ) : Type 0 where
  pub rises : Past way (f (suc c)) (f (suc (suc c)))
  pub from : p.bottom (suc c) ≤ y
  pub to : y < p.top c

module _ (f : ℕ → ℕ) (n : ℕ) (way : Way) (p : Plan) (size : p.count ≡ n)
    (drawn : (a : ℕ) → a < p.count → DrawnFor f n way (suc a) (room_of p a)) (c : ℕ) (h : suc c < p.count) where
  earlier : DrawnFor f n way (suc c) (room_of p c)
  earlier = drawn c (omega arith)

  later : DrawnFor f n way (suc (suc c)) (room_of p (suc c))
  later = drawn (suc c) h

  -- a room that starts on the line
  left→on_line : (a y : ℕ) → a < p.count → p.left a ≡ suc c → p.bottom a ≤ y → y < p.top a → OnLine f way p c y
  left→on_line a y ha meet lo hi = record {
    rises = past_as_far way smaller (after_left d (suc (suc c)) (omega arith) behind);
    from = bottom_at_most later (omega arith) (omega arith) y (omega (arith, d.top.within))
        (λ j u v. not_past_trans way (after_left d (suc (suc c)) (omega arith) behind) (above_bottom d j (omega arith) (omega (arith, behind))));
    to = top_at_least earlier (omega arith) (omega arith) (suc y) (omega (arith, d.top.within)) (λ j u v q. elim (eq-or-lt_of_le u) [
      | inl e ↦ past_not_self (subst (λ (m : ℕ). Past way (f m) (f (suc c))) (sym e) q)
      | inr l ↦ elim (le_or_lt j (suc a)) [ inl r ↦ after_left d j (omega arith) r (past_trans q smaller) | inr r ↦ up_to_top d j (omega arith) (omega arith) (past_trans q smaller) ]
    ]);
  }
    where
      d : DrawnFor f n way (suc a) (room_of p a)
      d = drawn a ha

      behind : suc c < suc a
      behind = omega (arith, d.left.past)

      smaller : Past way (f (suc c)) (f (suc a))
      smaller = subst (λ (m : ℕ). Past way (f m) (f (suc a))) meet record { less = d.left.has (omega arith) (omega arith) }

  -- a room that ends on it
  right→on_line : (a y : ℕ) → a < p.count → p.right a ≡ suc c → p.bottom a ≤ y → y < p.top a → OnLine f way p c y
  right→on_line a y ha meet lo hi = record {
    rises = past_from way (up_to_right d (suc c) before (omega arith)) larger;
    from = bottom_at_most later (omega arith) (omega arith) y (omega (arith, d.top.within)) (λ j u v q. elim (eq-or-lt_of_le v) [
      | inl e ↦ past_not_self (subst (λ (m : ℕ). Past way (f (suc (suc c))) (f m)) e q)
      | inr l ↦ elim (le_or_lt j (suc a)) [ inl r ↦ above_bottom d j (omega arith) r (past_trans larger q) | inr r ↦ up_to_right d j (omega arith) (omega arith) (past_trans larger q) ]
    ]);
    to = top_at_least earlier (omega arith) (omega arith) (suc y) (omega (arith, d.top.within))
        (λ j u v. not_past_trans way (up_to_top d j (omega (arith, before)) (omega arith)) (up_to_right d (suc c) before (omega arith)));
  }
    where
      d : DrawnFor f n way (suc a) (room_of p a)
      d = drawn a ha

      before : suc a ≤ suc c
      before = omega (arith, d.right.past)

      larger : Past way (f (suc a)) (f (suc (suc c)))
      larger = subst (λ (m : ℕ). Past way (f (suc a)) (f (suc m))) meet record { less = d.right.has (omega arith) (omega arith) }

  pub edge→on_line : {y : ℕ} → UprightEdge p (suc c) y → OnLine f way p c y
  edge→on_line {y} (a, l, ha, o) = elim o.side [ inl meet ↦ left→on_line a y ha meet o.bottom o.top | inr meet ↦ right→on_line a y ha meet o.bottom o.top ]

  -- where the label rises, the later room starts on the line and the earlier one ends on it
  rises→later_left : Past way (f (suc c)) (f (suc (suc c))) → p.left (suc c) ≡ suc c
  rises→later_left rises =
      nearest_same down (omega arith) (omega arith) later.left (record { past = omega arith; within = omega arith; has = λ u v. rises.less; clear = λ j u v q. absurd (omega arith) })

  rises→earlier_right : Past way (f (suc c)) (f (suc (suc c))) → p.right c ≡ suc c
  rises→earlier_right rises = omega (
    arith,
    nearest_same up (omega arith) (omega arith) earlier.right (record { past = omega arith; within = omega arith; has = λ u v. rises.less; clear = λ j u v q. absurd (omega arith) }),
  )

  pub on_line→edge : {y : ℕ} → OnLine f way p c y → UprightEdge p (suc c) y
  on_line→edge {y} o = elim (le_or_lt (suc c) y) [
    | inl l ↦ (c, zero-le, omega arith, record { side = inr (rises→earlier_right o.rises); bottom = omega (arith, earlier.bottom.past); top = o.to })
    | inr l ↦ (suc c, zero-le, h, record { side = inl (rises→later_left o.rises); bottom = o.from; top = omega (arith, later.top.past) })
  ]

  -- and the line is not empty
  pub rises→some : Past way (f (suc c)) (f (suc (suc c))) → p.bottom (suc c) < p.top c
  rises→some rises =
      let tall : p.bottom c < p.top c = omega (arith, earlier.bottom.past, earlier.top.past) in
      omega (arith, right→on_line c (p.bottom c) (omega arith) (rises→earlier_right rises) (omega arith) tall)

-- ---- the rooms of the drawing, as they are drawn
pub place_drawn : (labels : List ℕ) (a : ℕ) → a < length (drawing_of labels)
    → DrawnFor (label_at labels) (length labels) up (suc a) (room_in (drawing_of labels) a)
place_drawn labels a h = subst (DrawnFor f n up (suc a)) (sym (room_in_drawing labels a h)) (record {
  left = last_nearest (λ j. f j < f (suc a)) (λ j. dec_lt (f j) (f (suc a))) n (suc a) from to;
  bottom = last_nearest (λ j. f (suc a) < f j) (λ j. dec_lt (f (suc a)) (f j)) n (suc a) from to;
  right = first_nearest (λ j. f (suc a) < f j) (λ j. dec_lt (f (suc a)) (f j)) n (suc a) from to;
  top = first_nearest (λ j. f j < f (suc a)) (λ j. dec_lt (f j) (f (suc a))) n (suc a) from to;
})
  where
    f : ℕ → ℕ
    f = label_at labels

    n : ℕ
    n = length labels

    from : 1 ≤ suc a
    from = omega arith

    to : suc a ≤ length labels
    to = place→position labels h
