-- `tallying::plan_count` meets its contract: the recursion's figure is how many records there are.
use mathlib.Core.Path.{◌≡◌, sym, ap, ◌∙◌}
use Rattle.std.specs.Prelude.{Ok}
use Prim.Native.Nat.{ℕ, suc, ◌+◌, ◌-◌, ◌≤◌}
use native.Mathlib.Omega.{arith}
use Rattle.counting.specs.Ways.{plan_count}
use Rattle.counting.proofs.Begun.{count_none}
use Rattle.counting.proofs.Mirror.{count_mirrored}
use Rattle.counting.proofs.Reported.{outside, counted_rooms, inside, count_reported}
use borrow.Author.Rules.{rules}
use Rattle.tallying.proofs.plan_count.Goals as goal
use Rattle.tallying.proofs.plan_count.Goals.{Else-not_counted}

-- the number of rooms is one that is counted
rooms : (c : Else-not_counted) → let n = c.args.n in (1 ≤ n) × (n ≤ 17)
rooms c = counted_rooms c.args.n (rw c.if-not_counted.false at c.not_counted.ensures)

pub returns-then-not_counted : goal.returns-then-not_counted
returns-then-not_counted c =
    let a = c.args in
    count_reported a.n a.rises (search rules) (outside a.n (plan_count a.n a.rises) (rw c.if-not_counted.true at c.not_counted.ensures))

pub returns-then-n-rises : goal.returns-then-n-rises
returns-then-n-rises c =
    let a = c.args in
    let (some, few) = rooms (goal.at.returns-then-n-rises c).Else-not_counted in
    count_reported a.n a.rises (omega arith) (ap Ok (sym (count_none a.n a.rises (omega arith))) ∙ inside a.n (plan_count a.n a.rises) some few)

-- a figure of so many rises and falls, which make n rooms
figure_of : (n rises r f : ℕ) {figure : ℕ} → figure ≡ plan_count (suc (r + f)) r → r ≡ rises → suc (rises + f) ≡ n → figure ≡ plan_count n rises
figure_of n rises r f is e size = let d : suc (r + f) ≡ n = omega arith in is ∙ (λ i. plan_count (d i) (e i))

pub returns-then-rises-falls : goal.returns-then-rises-falls
returns-then-rises-falls c =
    let a = c.args in
    let (some, few) = rooms (goal.at.returns-then-rises-falls c).Else-not_counted in
    let falls = a.n - 1 - a.rises in
    let counted : c.count_of.result ≡ plan_count a.n falls = figure_of a.n falls _ _ c.count_of.ensures (omega arith) (omega arith) in
    count_reported a.n a.rises (omega arith)
    (ap Ok (counted ∙ count_mirrored a.n falls a.rises (omega arith)) ∙ inside a.n (plan_count a.n a.rises) some few)

pub returns : goal.returns
returns c =
    let a = c.args in
    let (some, few) = rooms (goal.at.returns c).Else-not_counted in
    let counted : c.count_of-2.result ≡ plan_count a.n a.rises = figure_of a.n a.rises _ _ c.count_of-2.ensures (omega arith) (omega arith) in
    count_reported a.n a.rises (omega arith) (ap Ok counted ∙ inside a.n (plan_count a.n a.rises) some few)
