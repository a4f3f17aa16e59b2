-- `grouping::in_common` meets its contract: what the bytes so far have in common is not 0 exactly if some position of theirs is in both
-- groups.
use native.Mathlib.Omega.{arith}
use Rattle.grouping.proofs.Bytes.{looked_more, looked_all}
use Rattle.grouping.proofs.in_common.Goals as goal

pub loop-i-preserved : goal.loop-i-preserved
loop-i-preserved c =
    looked_more c.args.first.now c.args.second.now c.loop-i.i c.loop-i.both c.shared-both.result c.loop-i.invariant c.shared-both.ensures.0
    c.shared-both.ensures.1

pub returns : goal.returns
returns c = looked_all c.args.first.now c.args.second.now c.loop-i.i c.loop-i.both c.loop-i.invariant (omega arith)
