use mathlib.Core.List.{List}
use mathlib.Core.Logic.{◌⊎◌}
use Prim.Native.Nat.{ℕ, suc, ◌<◌}
use lib.ListN.{length}
use Rattle.finite.specs.Decide.{Tells}
use Rattle.finite.specs.Search.{Some}
use Rattle.record.specs.Labels.{label_at}
use Rattle.labels.proofs.outside.Given as goal

-- the label of position j is outside 1 to n
abbrev pub OutsideAt : List ℕ → ℕ → Type 0
OutsideAt labels j = (label_at labels j < 1) ⊎ (length labels < label_at labels j)

abbrev pub invariant-loop-label : goal.invariant-loop-label
invariant-loop-label l = Tells l.found (Some (OutsideAt l.labels) 1 (suc l.label-index))
