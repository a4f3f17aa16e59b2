-- `steps::step` meets its contract: an arm is a row of the table.
use mathlib.Core.Bool.{true, false}
use mathlib.Core.Path.{◌≡◌}
use native.Mathlib.Omega.{arith}
use Rattle.record.specs.Triple.{triple}
use Rattle.steps.specs.Table.{rows}
use Rattle.steps.proofs.step.Goals as goal

pub returns-in-0 : goal.returns-in-0
returns-in-0 c = rw c.in-0.is (rows (triple false false false) _ _ _ _ (omega arith) (omega arith))

pub returns-in-1 : goal.returns-in-1
returns-in-1 c = rw c.in-1.is (rows (triple false false true) _ _ _ _ (omega arith) (omega arith))

pub returns-in-2 : goal.returns-in-2
returns-in-2 c = rw c.in-2.is (rows (triple false true false) _ _ _ _ (omega arith) (omega arith))

pub returns-in-3 : goal.returns-in-3
returns-in-3 c = rw c.in-3.is (rows (triple false true true) _ _ _ _ (omega arith) (omega arith))

pub returns-in-4 : goal.returns-in-4
returns-in-4 c = rw c.in-4.is (rows (triple true false false) _ _ _ _ (omega arith) (omega arith))

pub returns-in-5 : goal.returns-in-5
returns-in-5 c = rw c.in-5.is (rows (triple true false true) _ _ _ _ (omega arith) (omega arith))

pub returns-in-6 : goal.returns-in-6
returns-in-6 c = rw c.in-6.is (rows (triple true true false) _ _ _ _ (omega arith) (omega arith))

pub returns-in_default : goal.returns-in_default
returns-in_default c = let seven : c.args.triple ≡ 7 = omega arith in rw seven (rows (triple true true true) _ _ _ _ (omega arith) (omega arith))
