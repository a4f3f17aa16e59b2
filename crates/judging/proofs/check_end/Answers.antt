-- `judging::check_end` meets its contract: a case each.
use Rattle.std.proofs.Common.{arith}
use Rattle.judging.specs.Judge.{missing_run, several_runs}
use Rattle.judging.proofs.check_end.Goals as goal

pub returns-in-None : goal.returns-in-None
returns-in-None c = rw c.in-None.is (missing_run tt)

pub returns-in-Some-2 : goal.returns-in-Some-2
returns-in-Some-2 c = rw c.in-Some.is (several_runs (λ z. z) (omega (arith, c.if-runs-eq0-2.false)))

pub returns-in-Some-2-2 : goal.returns-in-Some-2-2
returns-in-Some-2-2 c = rw c.in-Some.is (several_runs (λ z. z) (omega (arith, c.if-runs-eq0.false)))
