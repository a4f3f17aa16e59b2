-- `walk` meets its contract: before each turn either walk is on its way, the rooms of the ranks before stand in order, and one of the two
-- has rooms to come.
use Rattle.std.proofs.Common.{refl, ◌∙◌, ◌<◌, length, arith}
use Rattle.orders.specs.Walks.{WalkBoth}
use Rattle.orders.proofs.Walking.{sets_out, at_room, arrived}
use Rattle.orders.proofs.ToGo.{Stepped, steps, waits}
use Rattle.orders.proofs.walk.Goals as goal
use Rattle.orders.proofs.walk.Goals.{Joined-k-n, then-k-n, else-k-n}

-- the two walks at the start of a turn
abbrev Both : Joined-k-n → Type 0
Both e = let a = e.args in WalkBoth a.lists.now a.up.now a.down.now a.first_up a.first_down

-- the first walk after its part of the turn
between : (e : Joined-k-n) (w : Both e)
    → Stepped w.by_position e.args.by_position.now e.loop-k.k e.loop-k.at e.if-k-n.k e.if-k-n.at e.if-k-n.by_position
between e w = elim e.if-k-n.branch [
  | then-k-n t ↦ steps w.by_position (e.loop-k.invariant w).0 (rw e.len-n.ensures at t.if-k-n.true) e.requires.places.0 t.by_position-is
      (t.at-is ∙ t.from-at.ensures) t.k-is
  | else-k-n t ↦ waits w.by_position (e.loop-k.invariant w).0 (rw e.len-n.ensures at t.if-k-n.false) t.by_position-is t.at-is t.k-is
]

pub loop-k-init : goal.loop-k-init
loop-k-init c = λ w. (sets_out w.by_position, sets_out w.by_label)

pub overflow_add-k : goal.overflow_add-k
overflow_add-k c =
    let w = c.requires.walk_both in
    let (up, down) = c.loop-k.invariant w in
    record { fits = omega (arith, w.by_position.few, up.within, down.within) }

pub overflow_cast-by_position : goal.overflow_cast-by_position
overflow_cast-by_position c = let w = c.requires.walk_both in
    record { fits = omega (arith, at_room _ (c.loop-k.invariant w).0 (rw c.len-n.ensures at c.if-k-n.true), w.by_position.few) }

pub offset_bounds-up-at : goal.offset_bounds-up-at
offset_bounds-up-at c = let w = c.requires.walk_both in
    record { fits = omega (arith, at_room _ (c.loop-k.invariant w).0 (rw c.len-n.ensures at c.if-k-n.true), w.by_position.few) }

pub bounds-up-at : goal.bounds-up-at
bounds-up-at c = let w = c.requires.walk_both in
    omega (arith, at_room _ (c.loop-k.invariant w).0 (rw c.len-n.ensures at c.if-k-n.true), w.by_position.places)

pub overflow_cast-by_label : goal.overflow_cast-by_label
overflow_cast-by_label c = let w = c.requires.walk_both in
    record { fits = omega (arith, at_room _ (c.loop-k.invariant w).1 (rw c.len-n.ensures at c.if-j-n.true), w.by_position.few) }

pub offset_bounds-down-other : goal.offset_bounds-down-other
offset_bounds-down-other c = let w = c.requires.walk_both in
    record { fits = omega (arith, at_room _ (c.loop-k.invariant w).1 (rw c.len-n.ensures at c.if-j-n.true), w.by_position.few) }

pub bounds-down-other : goal.bounds-down-other
bounds-down-other c = let w = c.requires.walk_both in
    omega (arith, at_room _ (c.loop-k.invariant w).1 (rw c.len-n.ensures at c.if-j-n.true), w.by_label.places)

pub loop-k-smaller-then-j-n : goal.loop-k-smaller-then-j-n
loop-k-smaller-then-j-n c =
    let w = c.requires.walk_both in
    let up = between (goal.at.loop-k-smaller-then-j-n c).Joined-k-n w in
    let down = steps w.by_label (c.loop-k.invariant w).1
    (rw c.len-n.ensures at c.if-j-n.true) c.requires.places.1 refl c.from-other.ensures refl in
    omega (arith, up.no_further, down.nearer (rw c.len-n.ensures at c.if-j-n.true))

pub loop-k-preserved-then-j-n : goal.loop-k-preserved-then-j-n
loop-k-preserved-then-j-n c = λ w.
    let up = between (goal.at.loop-k-preserved-then-j-n c).Joined-k-n w in
    let down = steps w.by_label (c.loop-k.invariant w).1
    (rw c.len-n.ensures at c.if-j-n.true) c.requires.places.1 refl c.from-other.ensures refl in
    (up.way, down.way)

pub loop-k-smaller : goal.loop-k-smaller
loop-k-smaller c =
    let w = c.requires.walk_both in
    let more : c.loop-k.k < length c.args.lists.now.left.now =
    omega (arith, c.len-n.ensures, c.loop-k-test.true, c.if-j-n.false, (c.loop-k.invariant w).1.within) in
    let up = between (goal.at.loop-k-smaller c).Joined-k-n w in
    omega (arith, up.nearer more)

pub loop-k-preserved : goal.loop-k-preserved
loop-k-preserved c = λ w.
    let up = between (goal.at.loop-k-preserved c).Joined-k-n w in
    (up.way, (c.loop-k.invariant w).1)

pub returns : goal.returns
returns c =
    let w = c.requires.walk_both in
    let (up, down) = c.loop-k.invariant w in
    let past = c.loop-k-test.false in
    record {
      positions = arrived w.by_position up (omega (arith, past, up.within, down.within));
      labels = arrived w.by_label down (omega (arith, past, up.within, down.within));
    }
