-- `bookkeeping::next_record` meets its contract: the part is the one that the answer names.
use mathlib.Core.Path.{sym}
use Prim.Native.Nat.{◌+◌, ◌≤◌}
use native.Mathlib.Omega.{arith}
use lib.ListN.{length, drop, length-take, length-drop}
use Rattle.book.specs.Parts.{size_is}
use Rattle.book.specs.M107.{m107_next_part}
use borrow.Author.Rules.{rules}
use Rattle.bookkeeping.proofs.next_record.Goals as goal
use Rattle.bookkeeping.proofs.next_record.Goals.{In-Ok-Some}

-- the answer is a record, which lies in the lent bytes
inside : (k : In-Ok-Some) → let s = k.args in
    (s.place + k.in-Ok-Some.size ≤ length s.book.now) × (s.place + k.in-Ok-Some.size ≤ s.used)
inside k =
    let s = k.args in
    let size = k.in-Ok-Some.size in
    let part = m107_next_part s.book.now s.used s.place size (sym (rw k.in-Ok-Some.field-0-is at k.in-Ok-Some.ensures)) in
    let some = size_is part.1 in
    (omega (arith, part.2, some, length-take size (drop s.place s.book.now), length-drop s.place s.book.now), part.3)

pub overflow_add-end : goal.overflow_add-end
overflow_add-end c = search (rules, (inside (goal.at.overflow_add-end c).In-Ok-Some).1)

pub slice_bounds-result-end : goal.slice_bounds-result-end
slice_bounds-result-end c = (inside (goal.at.slice_bounds-result-end c).In-Ok-Some).0
