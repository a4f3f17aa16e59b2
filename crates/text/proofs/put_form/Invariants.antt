use Prim.Native.Nat.{◌-◌}
use lib.ListN.{length}
use Rattle.text.specs.FilledStore.{FillingStore}
use Rattle.text.proofs.put_form.Given as goal

abbrev pub invariant-loop-i : goal.invariant-loop-i
invariant-loop-i l = FillingStore l.initial.text l.start l.form l.numbers l.text l.at l.i l.k

abbrev pub decreases-loop-i : goal.decreases-loop-i
decreases-loop-i l = length l.form - l.i
