-- `flat` meets its contract: what is found in the lists is found in the room list.
use Rattle.std.proofs.Common.{nat_eq, arith}
use Rattle.finite.specs.Marks.{marks_tell}
use Rattle.checks.proofs.Places.{flat_tells}
use Rattle.checks.proofs.flat.Goals as goal

pub returns : goal.returns
returns c =
    flat_tells c.args.lists.now (nat_eq c.loop-i.found 1)
    (marks_tell _ _ c.loop-i.i c.loop-i.found (omega (arith, c.len-i-end.ensures, c.loop-i-test.false)) c.loop-i.invariant)
