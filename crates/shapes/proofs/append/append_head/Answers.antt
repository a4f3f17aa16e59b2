-- `append_head`: the head is a form with four numbers.
use Rattle.std.proofs.Math.Decide.{ℕ_discrete}
use Rattle.text.specs.Form.{filled}
use Rattle.shapes.proofs.append.append_head.Goals as goal

pub returns-clause-items : goal.returns-clause-items
unfolding filled ℕ_discrete
returns-clause-items g c = rw c.from-inside.ensures at c.append_form.ensures.items
