-- What the writer leaves for a whole plan.
use Rattle.std.specs.Prelude.{List, ◌≡◌, ℕ, ◌+◌, ◌*◌, ◌≤◌, length, take, Option, Some, None}
use Rattle.record.specs.Labels.{label_at, EachOnce}
use Rattle.slicing.specs.Slicing.{Shaped, Slicing}
use Rattle.slicing.specs.Tree.{bytes_of}
use Rattle.slicing.specs.Cutting.{cutting_tree}
use Rattle.trees.specs.declared.TreesPut.{TreesPut}

-- the labels of a plan, by position
pub record Plan (labels : List ℕ) : Type 0 where
  pub once : EachOnce (label_at labels) (length labels)
  pub some : 1 ≤ length labels
  pub few : length labels ≤ 255

-- the plan is slicing, and its tree stands at the front
pub record TreeWritten (f : ℕ → ℕ) (n end : ℕ) (after : List ℕ) : Type 0 where
  pub slicing : Slicing f n
  pub size : end ≡ length (bytes_of (cutting_tree f n))
  pub small : end + 2 ≤ 3 * n
  pub front : take end after ≡ bytes_of (cutting_tree f n)

-- its tree stands there, or it is not slicing
abbrev pub Writes : Option TreesPut → (f : ℕ → ℕ) → (n : ℕ) → (after : List ℕ) → Type 0
Writes (Some put) f n after = TreeWritten f n put.end after
Writes None f n after = Shaped f n
