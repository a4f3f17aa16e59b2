-- `replaying::write` meets its contract: between two turns Written holds, and each kind of move has its law.
use mathlib.Core.Path.{refl}
use Prim.Native.Nat.{◌+◌, ◌-◌, ◌≤◌}
use native.Mathlib.Omega.{arith}
use Rattle.replaying.proofs.Entries.{entry_small}
use Rattle.replaying.proofs.Writing.{Moved, moved_as, Gained, one_body, body_small, gained, moved_add, left_small, moved_back, written_first, written_room, written_next, written_end}
use Rattle.replaying.proofs.write.Goals as goal
use Rattle.replaying.proofs.write.Goals.{After-gain-entry, After-from, Joined-kind-eq1, then-kind-eq1, else-kind-eq1}

-- the entry with a room more
grows : (c : After-gain-entry) →
    Gained (c.loop-at.invariant.standing) c.loop-at-test.true c.if-kind-eq1.true (c.loop-at.entry + c.gain-entry.result)
grows c =
    gained (c.loop-at.invariant.standing) c.loop-at-test.true c.if-kind-eq1.true c.gain-entry.result c.gain-entry.ensures.0

-- the rooms that are left
few : (c : After-from) →
    let left = c.loop-at.rooms + c.from.result - 3 in (1 ≤ left) × (left ≤ 255)
few c =
    left_small (c.loop-at.invariant.standing) c.loop-at-test.true c.if-kind-eq1.false {kind = c.from.result} (omega arith) refl

-- what the move has made
moved : (c : Joined-kind-eq1)
    → Moved (c.loop-at.invariant.standing) c.if-kind-eq1.kept c.if-kind-eq1.at c.if-kind-eq1.rooms c.if-kind-eq1.entry
moved c =
    let s = c.loop-at.invariant.standing in
    let h = c.loop-at-test.true in
    elim c.if-kind-eq1.branch [
      | then-kind-eq1 w ↦
          let one = w.if-kind-eq1.true in
          moved_as s (moved_add s h one (gained s h one w.gain-entry.result w.gain-entry.ensures.0)) w.kept-is w.at-is w.rooms-is w.entry-is
      | else-kind-eq1 w ↦
          moved_as s (moved_back s h w.if-kind-eq1.false {kind = w.from.result} (omega arith) refl w.from-entry.result (omega arith)) w.kept-is w.at-is w.rooms-is
          w.entry-is
    ]

pub loop-at-init : goal.loop-at-init
loop-at-init c = written_first _ _ _ c.requires.1 refl refl

pub bounds-trace-at-then-kind-eq1 : goal.bounds-trace-at-then-kind-eq1
bounds-trace-at-then-kind-eq1 c = one_body (c.loop-at.invariant.standing) c.loop-at-test.true c.if-kind-eq1.true

pub gain-entry-requires : goal.gain-entry-requires
gain-entry-requires c = body_small (c.loop-at.invariant.standing) c.loop-at-test.true c.if-kind-eq1.true

pub overflow_add-entry : goal.overflow_add-entry
overflow_add-entry c = omega (arith, (grows c).small)

pub overflow_cast-kept : goal.overflow_cast-kept
overflow_cast-kept c = record { fits = omega (arith, (grows c).small) }

pub bounds-kept-rooms : goal.bounds-kept-rooms
bounds-kept-rooms c = omega (arith, (grows c).room)

pub overflow_sub-rooms : goal.overflow_sub-rooms
overflow_sub-rooms c = omega (arith, few c)

pub bounds-kept-rooms-else-kind-eq1 : goal.bounds-kept-rooms-else-kind-eq1
bounds-kept-rooms-else-kind-eq1 c = omega (arith, few c)

pub overflow_cast-states : goal.overflow_cast-states
overflow_cast-states c =
    let next = (moved (goal.at.overflow_cast-states c).Joined-kind-eq1).next in
    record { fits = omega (arith, next.entry_is, entry_small next.built) }

pub bounds-states-moves : goal.bounds-states-moves
bounds-states-moves c =
    omega (arith, written_room c.loop-at.invariant (moved (goal.at.bounds-states-moves c).Joined-kind-eq1) c.requires.2, c.loop-at.invariant.now_long)

pub loop-at-preserved : goal.loop-at-preserved
loop-at-preserved c = written_next c.loop-at.invariant (moved (goal.at.loop-at-preserved c).Joined-kind-eq1) c.requires.2

pub returns : goal.returns
returns c = written_end c.loop-at.invariant c.loop-at-test.false
