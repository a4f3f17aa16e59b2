-- Rooms whose corners and names stand in five lists, each at the room's place: beside the unnamed rooms of the four lists of corners, from
-- which the causes 2 to 5, labels and positions are told, they differ in names alone.
use Rattle.std.specs.Prelude.{◌≡◌, refl, List, ◌++◌, ℕ, ◌<◌, length, get_or, drop}
use Rattle.std.proofs.Common.{sym, ap, subst₂, ◌∙◌, inl, inr, arith}
use Rattle.std.proofs.Math.ListN.{get_or-eq_default}
use Rattle.finite.specs.Decide.{le_or_lt}
use Rattle.finite.specs.Table.{table, table_same, length_table, get_d_table}
use Rattle.drawing.specs.declared.Room.{Room}
use Rattle.rooms.specs.Outline.{room_in}
use Rattle.rooms.specs.Causes.{NameTwice, AcceptedRooms}
use Rattle.rooms.specs.declared.CornerLists.{CornerLists}
use Rattle.rooms.specs.Corners.{length_rooms, room_of_lem}
use Rattle.rooms.specs.LabelList.{label_of, position_of}
use Rattle.rooms.specs.SameButNames.{SameCorners, SameButNames, same_accepted}
use Rattle.rooms.proofs.M106.{m106_same_label, m106_same_position}
use Rattle.corners.specs.ListPlan.{rooms_from}
use Rattle.naming.specs.Twice.{Twice}
use Rattle.orders.specs.InOrder.{Numbered}

abbrev pub named_at : (lefts bottoms rights tops names : List ℕ) (i : ℕ) → Room
named_at lefts bottoms rights tops names i = record {
  left = get_or lefts i 0;
  bottom = get_or bottoms i 0;
  right = get_or rights i 0;
  top = get_or tops i 0;
  name = get_or names i 0;
}

abbrev pub named_rooms : (lefts bottoms rights tops names : List ℕ) → List Room
named_rooms lefts bottoms rights tops names = table (named_at lefts bottoms rights tops names) (length lefts)

-- the rooms whose corners and names the code has in five lists
abbrev pub named_in : (lists : CornerLists) (names : List ℕ) → List Room
named_in lists names = named_rooms lists.left.now lists.bottom.now lists.right.now lists.top.now names

module _ (lefts bottoms rights tops names : List ℕ) where
  abbrev n : ℕ
  n = length lefts

  abbrev unnamed : List Room
  unnamed = rooms_from lefts bottoms rights tops

  abbrev named : List Room
  named = named_rooms lefts bottoms rights tops names

  unnamed_count : length unnamed ≡ n
  unnamed_count = length_rooms lefts bottoms rights tops n

  pub named_count : length named ≡ n
  named_count = length_table (named_at lefts bottoms rights tops names) n

  pub named_at_lem : (i : ℕ) → i < n → room_in named i ≡ named_at lefts bottoms rights tops names i
  named_at_lem i h = get_d_table (named_at lefts bottoms rights tops names) n i _ h

  pub unnamed_named : SameButNames unnamed named
  unnamed_named = record { count = unnamed_count ∙ sym named_count; corners = λ i l h. corners i (omega (arith, unnamed_count)) }
    where
      corners : (i : ℕ) → i < n → SameCorners (room_in unnamed i) (room_in named i)
      corners i h =
          subst₂ SameCorners (sym (room_of_lem lefts bottoms rights tops n i h)) (sym (named_at_lem i h))
          (record { left = refl; bottom = refl; right = refl; top = refl })

  -- ---- the names of the list are those of the rooms
  module _ (size : length names ≡ n) where
    pub name_at_lem : (i : ℕ) → (room_in named i).name ≡ get_or names i 0
    name_at_lem i = elim (le_or_lt n i) [
      | inr h ↦ ap (λ (room : Room). room.name) (named_at_lem i h)
      | inl past ↦
          ap (λ (room : Room). room.name) (get_or-eq_default named _ (omega (arith, named_count)))
          ∙ sym (get_or-eq_default names 0 (omega arith))
    ]

    pub twice_named : Twice (λ i. get_or names i 0) (length names) → NameTwice named
    twice_named = subst₂ Twice (λ j i. sym (name_at_lem i) j) (size ∙ sym named_count)

    pub named_twice : NameTwice named → Twice (λ i. get_or names i 0) (length names)
    named_twice = subst₂ Twice (λ j i. name_at_lem i j) (named_count ∙ sym size)

  -- ---- labels and positions
  module _ (accepted : AcceptedRooms unnamed) (names-differ : ¬ NameTwice named) where
    pub named_accepted : AcceptedRooms named
    named_accepted = same_accepted unnamed_named accepted names-differ

    pub numbered_named : {by labels-before labels positions-before positions : List ℕ}
        → Numbered unnamed n by labels-before labels positions-before positions
        → Numbered named n by labels-before labels positions-before positions
    numbered_named {labels-before = labels-before} {positions-before = positions-before} g = record {
      by_position = λ k h. let (inside, rank) = g.by_position k h in (inside, sym (position _ inside) ∙ rank);
      labels_are = g.labels_are
          ∙ ap (λ (part : List ℕ). part ++ drop n labels-before) (table_same (label_of unnamed) (label_of named) n label);
      positions_are = g.positions_are
          ∙ ap (λ (part : List ℕ). part ++ drop n positions-before) (table_same (position_of unnamed) (position_of named) n position);
    }
      where
        label : (i : ℕ) → i < n → label_of unnamed i ≡ label_of named i
        label i h = m106_same_label unnamed named unnamed_named accepted named_accepted i (omega (arith, unnamed_count))

        position : (i : ℕ) → i < n → position_of unnamed i ≡ position_of named i
        position i h = m106_same_position unnamed named unnamed_named accepted named_accepted i (omega (arith, unnamed_count))
