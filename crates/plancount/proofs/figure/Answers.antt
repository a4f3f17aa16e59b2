-- `figure`: of 1 to 17 rooms the call reports the figure.
use Rattle.std.proofs.Common.{arith, rules}
use Rattle.counting.proofs.Reported.{count_is}
use Rattle.plancount.proofs.figure.Goals as goal

pub returns : goal.returns
returns c = count_is c.args.n c.args.rises (omega arith) c.requires.0 c.plan_count.ensures (search rules)
