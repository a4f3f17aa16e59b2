-- `steps::counted` meets its contract: where neither count is below 2, both are what they were raised from.
use Rattle.std.proofs.Common.{sym, arith}
use Rattle.steps.specs.Table.{less_is}
use Rattle.steps.proofs.counted.Goals as goal

pub returns : goal.returns
returns c = sym (less_is (omega arith) (omega arith))
