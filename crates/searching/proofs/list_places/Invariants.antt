use Prim.Native.Nat.{suc}
use Rattle.finite.specs.Search.{Some}
use Rattle.record.specs.Labels.{label_at}
use Rattle.searching.specs.Places.{Places}
use Rattle.searching.proofs.Table.{TwiceAt}
use Rattle.searching.proofs.list_places.Given as goal

abbrev pub invariant-loop-i : goal.invariant-loop-i
invariant-loop-i l = Places (label_at l.labels) l.i l.places × ¬ Some (TwiceAt (label_at l.labels)) 1 (suc l.i)
