use mathlib.Core.List.{List}
use mathlib.Core.Path.{◌≡◌}
use Prim.Native.Nat.{ℕ, suc}
use Rattle.finite.specs.Search.{Some}
use Rattle.record.specs.Labels.{label_at}
use Rattle.record.specs.Triple.{Earlier}
use Rattle.encoding.specs.Marked.{seen_of}
use Rattle.labels.proofs.twice.Given as goal

-- the label of position j stands at an earlier position too
abbrev pub TwiceAt : List ℕ → ℕ → Type 0
TwiceAt labels j = Earlier (label_at labels) (label_at labels j) j

abbrev pub invariant-loop-label : goal.invariant-loop-label
invariant-loop-label l = (l.seen ≡ seen_of l.labels l.label-index) × ¬ Some (TwiceAt l.labels) 1 (suc l.label-index)
