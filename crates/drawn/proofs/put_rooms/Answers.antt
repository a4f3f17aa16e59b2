-- `drawn::put_rooms` meets its contract: the five numbers of a room, stored one by one, store the room.
use Rattle.std.proofs.Common.{◌≡◌, refl, ap, ◌∙◌, ℕ, zero, suc, ◌<◌, List, [], ◌∷◌, length, get_or, arith}
use Rattle.std.proofs.Math.ListN.{set}
use Rattle.finite.specs.Fill.{filled_none, length_filled, filled_store}
use Rattle.drawing.specs.Corners.{room_in}
use Rattle.drawing.specs.declared.Room.{Room}
use Rattle.drawn.proofs.put_rooms.Goals as goal

-- the room at an index
abbrev at : List Room → ℕ → Room
at rooms i = get_or rooms i (record { left = 0; bottom = 0; right = 0; top = 0; name = 0 })

-- one number of it stored
abbrev put_left : List Room → ℕ → ℕ → List Room
put_left rooms i v = set rooms i (record (at rooms i) { left = v })

abbrev put_bottom : List Room → ℕ → ℕ → List Room
put_bottom rooms i v = set rooms i (record (at rooms i) { bottom = v })

abbrev put_right : List Room → ℕ → ℕ → List Room
put_right rooms i v = set rooms i (record (at rooms i) { right = v })

abbrev put_top : List Room → ℕ → ℕ → List Room
put_top rooms i v = set rooms i (record (at rooms i) { top = v })

abbrev put_name : List Room → ℕ → ℕ → List Room
put_name rooms i v = set rooms i (record (at rooms i) { name = v })

-- all five
abbrev put : List Room → ℕ → Room → List Room
put rooms i r = put_name (put_top (put_right (put_bottom (put_left rooms i r.left) i r.bottom) i r.right) i r.top) i r.name

put_all : (rooms : List Room) (i : ℕ) (r : Room) → i < length rooms → put rooms i r ≡ set rooms i r
put_all [] i r h = absurd (omega arith)
put_all (x ∷ rooms) zero r h = refl
put_all (x ∷ rooms) (suc i) r h = ap (λ (rest : List Room). x ∷ rest) (put_all rooms i r (omega arith))

pub loop-i-init : goal.loop-i-init
loop-i-init c = filled_none _ c.args.rooms.now

pub loop-i-preserved : goal.loop-i-preserved
loop-i-preserved c =
    let rooms = c.args.rooms.now in
    let f = λ (i : ℕ). room_in c.args.corners.now (suc i) in
    let i = c.loop-i.i in
    let now = c.loop-i.invariant in
    let inside : i < length rooms = omega (arith, c.loop-i-test.true, c.requires.1) in
    let same : length c.loop-i.rooms ≡ length rooms = ap length now ∙ length_filled f i rooms (omega arith) in
    put_all c.loop-i.rooms i c.room-room.result (omega arith) ∙ (λ j. set (now j) i (c.room-room.ensures j)) ∙ filled_store f i rooms inside
