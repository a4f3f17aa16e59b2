use Rattle.text.specs.Filled.{Filling}
use Rattle.text.proofs.append.append_form.Given as goal

abbrev pub invariant-loop-byte : goal.invariant-loop-byte
invariant-loop-byte g l = Filling l.initial.text.items l.form l.numbers l.text.items l.left l.byte-index
