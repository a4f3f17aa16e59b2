-- `put_names`: the names are a form with seven numbers.
use Rattle.std.proofs.Common.{arith}
use Rattle.std.proofs.Math.Decide.{ℕ_discrete}
use Rattle.text.specs.Form.{filled}
use Rattle.shapes.proofs.put_names.Goals as goal

pub returns : goal.returns
unfolding filled ℕ_discrete
returns c =
    let names = c.put_form.ensures in
    (rw (c.short_side-size.ensures, c.from.ensures, c.from-2.ensures) at names.0, omega (arith, names.1))
