-- `tallying::plan_total` meets its contract: the recursion's total is how many records there are.
use Rattle.std.specs.Prelude.{Ok}
use Prim.Native.Nat.{◌≤◌}
use mathlib.Core.Path.{◌≡◌, ap, ◌∙◌}
use native.Mathlib.Omega.{arith}
use Rattle.counting.specs.Ways.{plan_total}
use Rattle.counting.proofs.Reported.{outside, counted_rooms, inside, total_reported}
use borrow.Author.Rules.{rules}
use Rattle.tallying.proofs.plan_total.Goals as goal
use Rattle.tallying.proofs.plan_total.Goals.{Else-not_counted}

-- the number of rooms is one that is counted
rooms : (c : Else-not_counted) → let n = c.args.n in (1 ≤ n) × (n ≤ 17)
rooms c = counted_rooms c.args.n (rw c.if-not_counted.false at c.not_counted.ensures)

pub returns-then-not_counted : goal.returns-then-not_counted
returns-then-not_counted c =
    let a = c.args in
    total_reported a.n (search rules) (outside a.n (plan_total a.n) (rw c.if-not_counted.true at c.not_counted.ensures))

pub returns : goal.returns
returns c =
    let n = c.args.n in
    let (some, few) = rooms (goal.at.returns c).Else-not_counted in
    let same : c.from.result ≡ n = omega arith in
    total_reported n (omega arith) (ap Ok (c.total_of.ensures ∙ ap plan_total same) ∙ inside n (plan_total n) some few)
