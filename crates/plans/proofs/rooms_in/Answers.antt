-- `plans::rooms_in` meets its contract: what is answered for the rooms read back from the arrays is so for the rooms that were lent.
use Rattle.std.proofs.Common.{◌≡◌, subst, ℕ, length, arith}
use Rattle.entering.specs.Gathered.{Holds, holds_none, holds_more, copied_in}
use Rattle.plans.proofs.rooms_in.Goals as goal

pub loop-i-init : goal.loop-i-init
loop-i-init c = holds_none c.args.rooms.now _
    (record { left = omega arith; bottom = omega arith; right = omega arith; top = omega arith; name = omega arith })

pub loop-i-preserved : goal.loop-i-preserved
loop-i-preserved c = rw c.put.ensures (holds_more c.args.rooms.now c.loop-i.i c.loop-i.copied c.loop-i.invariant)

pub returns : goal.returns
returns c =
    let all : c.loop-i.i ≡ length c.args.rooms.now = omega (arith, c.loop-i-test.false) in
    copied_in c.args.rooms.now c.loop-i.copied (subst (λ (k : ℕ). Holds c.args.rooms.now k c.loop-i.copied) all c.loop-i.invariant)
    c.finish.ensures
