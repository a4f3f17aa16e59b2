-- `plans::finish` meets its contract: no room and too many are refused.
use Rattle.std.proofs.Common.{inl, inr, arith}
use Rattle.finite.specs.Table.{length_table}
use Rattle.entering.specs.Answer.{slices}
use Rattle.entering.specs.Copied.{copied_at}
use Rattle.entering.specs.Demand1.{count}
use Rattle.entering.specs.Written.{refused}
use Rattle.plans.proofs.finish.Goals as goal
use Rattle.plans.proofs.finish.Goals.{then-n-eq0-via-then-n-eq0, then-n-eq0-via-else-n-eq0+then-n-gt255}

pub returns-then-n-eq0 : goal.returns-then-n-eq0
returns-then-n-eq0 c =
    let a = c.args in
    let many = length_table (copied_at a.copied.now) a.n in
    refused (slices a.«record».now a.labels.now a.positions.now a.names.now) (count (elim c.then-n-eq0.branch [
      | then-n-eq0-via-then-n-eq0 w ↦ inl (omega (arith, many, w.if-n-eq0.true))
      | then-n-eq0-via-else-n-eq0+then-n-gt255 w ↦ inr (omega (arith, many, w.if-n-gt255.true))
    ]))
