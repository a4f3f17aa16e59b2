-- A part has fewer rooms, or all of them where they are one block of its cut. In the loop the rooms before `start` are put.
use Prim.Native.Nat.{◌+◌, ◌-◌, ◌*◌}
use Rattle.trees.specs.Block.{one_block}
use Rattle.trees.proofs.PartByPart.{Begun}
use Rattle.trees.proofs.+put_blocks_put_part.Given as goal

abbrev pub decreases-put_blocks : goal.decreases-put_blocks
decreases-put_blocks l = 4 * (l.to - l.from) + 2 * one_block l.labels.now l.cut l.from l.to

abbrev pub decreases-put_part : goal.decreases-put_part
decreases-put_part l = 4 * (l.to - l.from) + 1

abbrev pub invariant-put_blocks-loop-start : goal.invariant-put_blocks-loop-start
invariant-put_blocks-loop-start l = Begun l.labels l.cut l.from l.to l.initial.tree l.at l.tree l.start l.low l.next l.number

abbrev pub decreases-put_blocks-loop-start : goal.decreases-put_blocks-loop-start
decreases-put_blocks-loop-start l = l.to - l.start
