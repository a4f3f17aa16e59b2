-- Unnamed rooms whose corners stand in four lists, each corner at the room's place.
use Rattle.std.specs.Prelude.{List, ◌≡◌, ℕ, ◌<◌, length, get_or}
use Rattle.std.proofs.Common.{ap, arith}
use Rattle.finite.specs.Table.{table, length_table, get_d_table}
use Rattle.drawing.specs.declared.Room.{Room}
use Rattle.rooms.specs.Outline.{room_in}

-- four lists of one length
pub record OneLength (lefts bottoms rights tops : List ℕ) : Type 0 where
  pub bottoms_length : length bottoms ≡ length lefts
  pub rights_length : length rights ≡ length lefts
  pub tops_length : length tops ≡ length lefts

-- the room at place i
abbrev pub corners_at : (lefts bottoms rights tops : List ℕ) → (i : ℕ) → Room
corners_at lefts bottoms rights tops i = record {
  left = get_or lefts i 0;
  bottom = get_or bottoms i 0;
  right = get_or rights i 0;
  top = get_or tops i 0;
  name = 0;
}

-- the first n of them
unfoldable pub rooms_of : (lefts bottoms rights tops : List ℕ) → (n : ℕ) → List Room
unfolding table
rooms_of lefts bottoms rights tops n = table (corners_at lefts bottoms rights tops) n

module _ (lefts bottoms rights tops : List ℕ) (n : ℕ) where
  pub length_rooms : length (rooms_of lefts bottoms rights tops n) ≡ n
  unfolding rooms_of
  length_rooms = length_table (corners_at lefts bottoms rights tops) n

  pub room_of_lem : (i : ℕ) → i < n → room_in (rooms_of lefts bottoms rights tops n) i ≡ corners_at lefts bottoms rights tops i
  unfolding rooms_of
  room_of_lem i h = get_d_table (corners_at lefts bottoms rights tops) n i _ h

  -- they are unnamed
  pub rooms_unnamed : (i : ℕ) → i < length (rooms_of lefts bottoms rights tops n) → (room_in (rooms_of lefts bottoms rights tops n) i).name ≡ 0
  rooms_unnamed i h = ap (λ (room : Room). room.name) (room_of_lem i (omega (arith, length_rooms)))
