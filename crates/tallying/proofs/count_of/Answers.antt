-- `tallying::count_of` meets its contract: sweep after sweep, until the planes have all rises.
use mathlib.Core.Path.{◌≡◌, subst}
use Prim.Native.Nat.{ℕ, suc}
use native.Mathlib.Omega.{arith}
use Rattle.tallying.specs.Shows.{Planes}
use Rattle.tallying.proofs.Counts.{first_planes, counted}
use Rattle.tallying.proofs.count_of.Goals as goal

pub loop-rises_left-init : goal.loop-rises_left-init
loop-rises_left-init c = first_planes c.args.rises c.args.falls (omega (arith, c.requires))

pub returns : goal.returns
returns c =
    let a = c.args in
    let all : c.loop-rises_left.rises_left ≡ suc a.rises = omega arith in
    counted a.rises a.falls (subst (λ (k : ℕ). Planes a.rises a.falls k c.loop-rises_left.planes) all c.loop-rises_left.invariant)
