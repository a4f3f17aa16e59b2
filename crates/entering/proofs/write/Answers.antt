-- `write` meets its contract: a slice that is too short is refused; then both orders are walked, the names are put by position, and Labels
-- in writes the record of the label list.
use Rattle.std.proofs.Common.{◌≡◌, sym, ◌∙◌, inl, inr, ◌⊎◌, Err, List, ℕ, ◌+◌, ◌*◌, ◌/◌, ◌<◌, ◌≤◌, length, get_or, take_all, arith}
use Rattle.record.specs.declared.Refusal.TheVariants.{ShortOutput}
use Rattle.drawing.specs.declared.Room.{Room}
use Rattle.rooms.specs.Causes.{NameTwice, AcceptedRooms}
use Rattle.rooms.specs.Lists.{count_of, rooms_in}
use Rattle.rooms.specs.declared.CornerLists.{CornerLists}
use Rattle.naming.specs.Twice.{Twice}
use Rattle.orders.specs.InOrder.{Numbered, LabelsInOrder}
use Rattle.entering.specs.Answer.{Short, Slices, slices, RoomsIn}
use Rattle.entering.specs.Demand1.{short}
use Rattle.entering.specs.Named.{named_in, named_count, name_at_lem, named_twice, named_accepted, numbered_named}
use Rattle.entering.specs.Written.{refused, size_is, listed_from, written_for}
use Rattle.entering.proofs.write.Goals as goal
use Rattle.entering.proofs.write.Goals.{After-labels_and_positions, then-labels-n-via-then-labels-n, then-labels-n-via-else-labels-n+then-positions-n, then-labels-n-via-else-labels-n+else-positions-n+then-names-n}

-- the rooms of the lists: the unnamed ones are accepted, and so are those with their names, of which no two are the same
module _ (lists : CornerLists) (names : List ℕ) (unnamed : AcceptedRooms (rooms_in lists)) (all : length names ≡ count_of lists)
    (apart : ¬ Twice (λ i. get_or names i 0) (length names)) where
  abbrev rooms_at : List Room
  rooms_at = named_in lists names

  many : length rooms_at ≡ count_of lists
  many = named_count lists.left.now lists.bottom.now lists.right.now lists.top.now names

  differ : ¬ NameTwice rooms_at
  differ h = apart (named_twice lists.left.now lists.bottom.now lists.right.now lists.top.now names all h)

  accepted : AcceptedRooms rooms_at
  accepted = named_accepted lists.left.now lists.bottom.now lists.right.now lists.top.now names unnamed differ

  -- labels and positions of the unnamed rooms are those of the rooms
  numbered : {by labels-before labels positions-before positions : List ℕ}
      → Numbered (rooms_in lists) (count_of lists) by labels-before labels positions-before positions
      → Numbered rooms_at (count_of lists) by labels-before labels positions-before positions
  numbered g = numbered_named lists.left.now lists.bottom.now lists.right.now lists.top.now names unnamed differ g

  -- the labels at the rooms' places and the rooms by position, of which the label list is made
  ordered : {by labels-before labels positions-before positions : List ℕ}
      → Numbered (rooms_in lists) (count_of lists) by labels-before labels positions-before positions
      → length by ≡ count_of lists → count_of lists ≤ length labels → LabelsInOrder rooms_at labels by
  ordered g size places = listed_from rooms_at accepted (numbered g) (sym many) size places

  module _ (before : Slices) where
    long : 1 + (3 * count_of lists + 4) / 8 ≤ length before.bytes → count_of lists ≤ length before.labels
        → count_of lists ≤ length before.positions → count_of lists ≤ length before.names
        → ¬ Short rooms_at (length before.bytes) (length before.labels) (length before.positions) (length before.names)
    long e f g h (inl k) = omega (arith, size_is rooms_at accepted, many)
    long e f g h (inr (inl k)) = omega (arith, many)
    long e f g h (inr (inr (inl k))) = omega (arith, many)
    long e f g h (inr (inr (inr k))) = omega (arith, many)

    -- a slice that is too short
    too_short : (length before.bytes < 1 + (3 * count_of lists + 4) / 8) ⊎ ((length before.labels < count_of lists)
        ⊎ ((length before.positions < count_of lists) ⊎ (length before.names < count_of lists)))
        → RoomsIn rooms_at before (Err ShortOutput) before
    too_short (inl h) = refused before (short accepted (inl (omega (arith, size_is rooms_at accepted, many))))
    too_short (inr (inl h)) = refused before (short accepted (inr (inl (omega (arith, many)))))
    too_short (inr (inr (inl h))) = refused before (short accepted (inr (inr (inl (omega (arith, many))))))
    too_short (inr (inr (inr h))) = refused before (short accepted (inr (inr (inr (omega (arith, many))))))

pub returns-then-record-n : goal.returns-then-record-n
returns-then-record-n c =
    let a = c.args in
    let q = c.requires in
    too_short a.lists.now a.name.now q.paired_plan.accepted q.all_named q.no_name_twice
    (slices a.«record».now a.labels.now a.positions.now a.names.now) (inl (rw c.len-n.ensures at c.if-record-n.true))

pub returns-then-labels-n : goal.returns-then-labels-n
returns-then-labels-n c =
    let a = c.args in
    let q = c.requires in
    let n = c.len-n.ensures in
    too_short a.lists.now a.name.now q.paired_plan.accepted q.all_named q.no_name_twice
    (slices a.«record».now a.labels.now a.positions.now a.names.now) (elim c.then-labels-n.branch [
      | then-labels-n-via-then-labels-n w ↦ inr (inl (rw n at w.if-labels-n.true))
      | then-labels-n-via-else-labels-n+then-positions-n w ↦ inr (inr (inl (rw n at w.if-positions-n.true)))
      | then-labels-n-via-else-labels-n+else-positions-n+then-names-n w ↦ inr (inr (inr (rw n at w.if-names-n.true)))
    ])

-- the rooms by position fill their slice
by_size : (e : After-labels_and_positions) → length e.labels_and_positions.new.by_position ≡ count_of e.args.lists.now
by_size e = omega (arith, e.labels_and_positions.auto.by_position, e.requires.places.0)

pub label_list-requires-clause-labels_in_order : goal.label_list-requires-clause-labels_in_order
label_list-requires-clause-labels_in_order c =
    let a = c.args in
    let q = c.requires in
    let size = by_size (goal.at.label_list-requires-clause-labels_in_order c).After-labels_and_positions in (
      named_in a.lists.now a.name.now,
      ordered a.lists.now a.name.now q.paired_plan.accepted q.all_named q.no_name_twice c.labels_and_positions.ensures size
          (omega (arith, c.len-n.ensures, c.if-labels-n.false)),
    )

pub returns : goal.returns
returns c =
    let a = c.args in
    let q = c.requires in
    let n = c.len-n.ensures in
    let lists = a.lists.now in
    let names = a.name.now in
    let unnamed = q.paired_plan.accepted in
    let walked = c.labels_and_positions.ensures in
    let by = c.labels_and_positions.new.by_position in
    let size = by_size (goal.at.returns c).After-labels_and_positions in
    let before = slices a.«record».now a.labels.now a.positions.now a.names.now in
    let listed = c.label_list.ensures (named_in lists names)
    (ordered lists names unnamed q.all_named q.no_name_twice walked size (omega (arith, n, c.if-labels-n.false))) in
    let whole = take_all (length by) c.label_list.new.list (omega (
      arith,
      size,
      q.places.1,
      c.labels_and_positions.auto.by_label,
      c.label_list.auto.list,
    )) in
    written_for (named_in lists names) (accepted lists names unnamed q.all_named q.no_name_twice) before
    (long lists names unnamed q.all_named q.no_name_twice before (omega (arith, n, c.if-record-n.false))
    (omega (arith, n, c.if-labels-n.false)) (omega (arith, n, c.if-positions-n.false)) (omega (arith, n, c.if-names-n.false)))
    _ _ (sym (many lists names unnamed q.all_named q.no_name_twice)) (sym whole ∙ listed)
    c.labels_in.ensures.answered c.labels_in.ensures.left (numbered lists names unnamed q.all_named q.no_name_twice walked)
    (λ k. get_or names (get_or by k 0) 0)
    (λ k h. sym (name_at_lem lists.left.now lists.bottom.now lists.right.now lists.top.now names q.all_named (get_or by k 0)))
    (rw size at c.by_position.ensures)
