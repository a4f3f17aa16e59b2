-- The label that is read at a position of a block is one of the block's.
use mathlib.Core.List.{List}
use mathlib.Core.Path.{◌≡◌, ◌∙◌}
use Prim.Native.Nat.{ℕ, ◌+◌, ◌-◌, ◌≤◌, ◌<◌}
use native.Mathlib.Omega.{arith}
use lib.ListN.{get_or}
use Rattle.record.specs.Labels.{label_at, label_at_lem}
use Rattle.trees.specs.Block.{BlockOf}

module _ {labels : List ℕ} {from to lowest : ℕ} (b : BlockOf labels from to lowest) {position label : ℕ} (a : from ≤ position)
    (h : position < to) (is : label ≡ get_or labels (position - 1) 0) where
  pub label_is : label ≡ label_at labels position
  label_is = is ∙ label_at_lem labels position (omega (arith, b.position))

  pub label_in_block : (lowest ≤ label) × (label + from < lowest + to) × (lowest + to ≤ 511)
  label_in_block =
      let r = b.interval.range position a h in
      (omega (arith, label_is, r), omega (arith, label_is, r), omega (arith, b.bytes, b.within, b.few))
