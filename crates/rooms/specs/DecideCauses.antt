-- The causes 2 to 5 and 20 are decided, and so is whether a room list is accepted.
use Rattle.std.specs.Prelude.{◌≡◌, ◌≢◌, ◌⊎◌, List, ℕ, suc, ◌<◌, min, max, length}
use Rattle.std.proofs.Common.{inl, inr, zero-le, arith}
use Rattle.std.proofs.Math.Decide.{dec_le, dec_lt, ℕ_discrete}
use Rattle.finite.specs.Decide.{dec-×, dec-×₃, dec-⊎, dec-¬, dec_iff}
use Rattle.finite.specs.Search.{Some, dec_some}
use Rattle.record.specs.Causes.{dec_count}
use Rattle.drawing.specs.declared.Room.{Room}
use Rattle.drawing.specs.Tiling.{Different}
use Rattle.finite.specs.Extremes.{least, greatest}
use Rattle.rooms.specs.Outline.{Covers, room_in, SomeRoom, Corner, outline}
use Rattle.rooms.specs.Causes.{RoomSize, ShareSquare, Overlap, Uncovered, MeetAtPoint, FourMeet, NameTwice, AcceptedRooms}

unfoldable pub dec_room_size : (rooms : List Room) → Dec (RoomSize rooms)
unfolding dec-⊎ dec_le dec_some
dec_room_size rooms =
    dec_some _ (λ i. dec-⊎ (dec_le (room_in rooms i).right (room_in rooms i).left) (dec_le (room_in rooms i).top (room_in rooms i).bottom)) 0 (length rooms)

-- two rooms share a unit square where they have a column and a row in common
unfoldable pub dec_share : (r s : Room) → Dec (ShareSquare r s)
unfolding dec-× dec_iff dec_lt
dec_share r s = dec_iff
    (λ (h : (max r.left s.left < min r.right s.right) × (max r.bottom s.bottom < min r.top s.top)).
    (max r.left s.left, max r.bottom s.bottom, omega arith, omega arith))
    (λ h. omega arith)
    (dec-× (dec_lt (max r.left s.left) (min r.right s.right)) (dec_lt (max r.bottom s.bottom) (min r.top s.top)))

unfoldable pub dec_overlap : (rooms : List Room) → Dec (Overlap rooms)
unfolding dec-× dec-¬ dec_some dec_share ℕ_discrete
dec_overlap rooms =
    dec_some _ (λ i. dec_some _ (λ j. dec-× (dec-¬ (ℕ_discrete i j)) (dec_share (room_in rooms i) (room_in rooms j))) 0 (length rooms)) 0 (length rooms)

unfoldable pub dec_covers : (room : Room) (x y : ℕ) → Dec (Covers room x y)
unfolding dec-× dec_iff dec_le dec_lt
dec_covers room x y = dec_iff (λ h. omega arith) (λ h. omega arith)
    (dec-× (dec-× (dec_le room.left x) (dec_lt x room.right)) (dec-× (dec_le room.bottom y) (dec_lt y room.top)))

-- the squares of the outline lie left of its right and below its top
unfoldable pub dec_uncovered : (rooms : List Room) → Dec (Uncovered rooms)
unfolding dec-× dec-¬ dec_iff dec_some dec_covers least greatest
dec_uncovered rooms = dec_iff
    (λ (h : Some (λ x. Some (λ y. Covers (outline rooms) x y × (¬ SomeRoom rooms (λ i. Covers (room_in rooms i) x y))) 0 (outline rooms).top) 0 (outline rooms).right).
    (h.0, h.3.0, h.3.3.0, h.3.3.1))
    (λ h. (h.0, zero-le, h.2.right, (h.1, zero-le, h.2.top, (h.2, h.3))))
    (dec_some _ (λ x. dec_some _ (λ y. dec-× (dec_covers (outline rooms) x y) (dec-¬ (dec_some _ (λ i. dec_covers (room_in rooms i) x y) 0 (length rooms))))
    0 (outline rooms).top) 0 (outline rooms).right)

unfoldable pub dec_corner : (room : Room) (x y : ℕ) → Dec (Corner room x y)
unfolding dec-× dec-⊎ ℕ_discrete
dec_corner room x y =
    dec-× (dec-⊎ (ℕ_discrete room.left x) (ℕ_discrete room.right x)) (dec-⊎ (ℕ_discrete room.bottom y) (ℕ_discrete room.top y))

unfoldable pub dec_different : (a b c d : ℕ) → Dec (Different a b c d)
unfolding dec-× dec-×₃ dec-¬ dec_iff ℕ_discrete
dec_different a b c d = dec_iff (λ h. (h.0.0, h.0.1, h.0.2, h.1.0, h.1.1, h.1.2)) (λ h. ((h.0, h.1, h.2), (h.3, h.4, h.5)))
    (dec-× (dec-×₃ (ne a b) (ne a c) (ne a d)) (dec-×₃ (ne b c) (ne b d) (ne c d)))
  where
    ne : (x y : ℕ) → Dec (x ≢ y)
    ne x y = dec-¬ (ℕ_discrete x y)

-- a corner of a room lies within its coordinates
pub end_bound : {from to x : ℕ} → (from ≡ x) ⊎ (to ≡ x) → x < suc (max from to)
end_bound (inl e) = omega arith
end_bound (inr e) = omega arith

unfoldable pub dec_meet : (a b c d : Room) → Dec (MeetAtPoint a b c d)
unfolding dec-× dec_iff dec_some dec_corner
dec_meet a b c d = dec_iff
    (λ (x, l, h, (y, m, g, ((at_a, at_b), (at_c, at-d)))). (x, y, at_a, at_b, at_c, at-d))
    (λ (x, y, at_a, at_b, at_c, at-d). (x, zero-le, end_bound at_a.0, (y, zero-le, end_bound at_a.1, ((at_a, at_b), (at_c, at-d)))))
    (dec_some _ (λ x. dec_some _ (λ y. dec-× (dec-× (dec_corner a x y) (dec_corner b x y)) (dec-× (dec_corner c x y) (dec_corner d x y))) 0 (suc (max a.bottom a.top))) 0 (suc (max a.left a.right)))

unfoldable pub dec_four_meet : (rooms : List Room) → Dec (FourMeet rooms)
unfolding dec-× dec_some dec_different dec_meet
dec_four_meet rooms =
    dec_some _ (λ a. dec_some _ (λ b. dec_some _ (λ c. dec_some _ (λ d.
    dec-× (dec_different a b c d) (dec_meet (room_in rooms a) (room_in rooms b) (room_in rooms c) (room_in rooms d)))
    0 (length rooms)) 0 (length rooms)) 0 (length rooms)) 0 (length rooms)

unfoldable pub dec_name_twice : (rooms : List Room) → Dec (NameTwice rooms)
unfolding dec-×₃ dec-¬ dec_some ℕ_discrete
dec_name_twice rooms =
    dec_some _ (λ i. dec_some _ (λ j.
    dec-×₃ (dec-¬ (ℕ_discrete i j)) (dec-¬ (ℕ_discrete (room_in rooms i).name 0)) (ℕ_discrete (room_in rooms i).name (room_in rooms j).name))
    0 (length rooms)) 0 (length rooms)

unfoldable pub dec_accepted : (rooms : List Room) → Dec (AcceptedRooms rooms)
unfolding dec-×₃ dec-¬ dec_iff dec_count dec_room_size dec_overlap dec_uncovered dec_four_meet dec_name_twice dec-×
dec_accepted rooms = dec_iff
    (λ h. record { count = h.0.0; size = h.0.1; overlap = h.0.2; uncovered = h.1.0; four_meet = h.1.1; names = h.1.2 })
    (λ h. ((h.count, h.size, h.overlap), (h.uncovered, h.four_meet, h.names)))
    (dec-× (dec-×₃ (dec-¬ (dec_count (length rooms))) (dec-¬ (dec_room_size rooms)) (dec-¬ (dec_overlap rooms)))
    (dec-×₃ (dec-¬ (dec_uncovered rooms)) (dec-¬ (dec_four_meet rooms)) (dec-¬ (dec_name_twice rooms))))
