-- `put_head`: the head is a form with four numbers.
use Rattle.std.proofs.Common.{arith}
use Rattle.std.proofs.Math.Decide.{ℕ_discrete}
use Rattle.text.specs.Form.{filled}
use Rattle.shapes.proofs.put_head.Goals as goal

pub returns : goal.returns
unfolding filled ℕ_discrete
returns c = let shape = c.put_form.ensures in (shape.0, omega (arith, shape.1))
