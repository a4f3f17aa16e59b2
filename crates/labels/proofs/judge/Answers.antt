-- `labels::judge` meets its contract: the record has 97 bytes of room, so the answer of Labels in tells the verdict.
use mathlib.Core.Path.{ap, ◌∙◌}
use native.Mathlib.Omega.{arith}
use Rattle.labels.proofs.Answered.{told, told_is}
use Rattle.labels.proofs.judge.Goals as goal

pub returns-in-Err : goal.returns-in-Err
returns-in-Err c = ap told c.in-Err.ensures.answered ∙ told_is c.args.labels.now _ (omega arith)
