-- `judging::spare_bit` meets its contract: shifting the low bits of the last byte out and back leaves it just where none is set.
use Rattle.std.proofs.Common.{arith}
use Rattle.judging.proofs.Spare.{spare_tells}
use Rattle.judging.proofs.spare_bit.Goals as goal

pub returns : goal.returns
returns c = spare_tells c.args.body.now c.args.used c.requires.1 c.if-spare-eq0.false c.from-last.ensures (omega arith)
