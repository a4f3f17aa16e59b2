-- `overlap` meets its contract: of two rooms that share a unit square one is the earlier.
use Rattle.std.proofs.Common.{zero-le, arith}
use Rattle.finite.specs.Marks.{none_here, none_at_all}
use Rattle.finite.specs.Decide.{told_true, told_false}
use Rattle.checks.proofs.Places.{shares_earlier→overlap, overlap→shares_earlier}
use Rattle.checks.specs.CornerLists.{SharesEarlier}
use Rattle.checks.proofs.overlap.Goals as goal

pub returns-then-shares_earlier : goal.returns-then-shares_earlier
returns-then-shares_earlier c =
    let told = told_true (SharesEarlier c.args.lists.now c.loop-j.j) c.shares_earlier.result c.if-shares_earlier.true
    c.shares_earlier.ensures in
    shares_earlier→overlap c.args.lists.now (c.loop-j.j, zero-le, omega (arith, c.len-j-end.ensures, c.loop-j-test.true), told)

pub loop-j-preserved : goal.loop-j-preserved
loop-j-preserved c =
    let told = told_false (SharesEarlier c.args.lists.now c.loop-j.j) c.shares_earlier.result c.if-shares_earlier.false
    c.shares_earlier.ensures in
    none_here (SharesEarlier c.args.lists.now) c.loop-j.j c.loop-j.invariant told

pub returns : goal.returns
returns c = λ shared. none_at_all _ _ c.loop-j.j (omega (arith, c.len-j-end.ensures, c.loop-j-test.false)) c.loop-j.invariant
    (overlap→shares_earlier c.args.lists.now shared)
