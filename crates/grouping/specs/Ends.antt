-- What the functions find of two groups: the extremes of their positions, and which relations occur.
use Rattle.std.specs.Prelude.{Bool, true, false, List, ℕ, ◌≤◌, ◌<◌, Option, Some, None}
use Rattle.drawing.specs.declared.Side.{Side}
use Rattle.groups.specs.Group.{Member, EachIn, Empty}

-- the last position in a group, if it has one
pub record IsLast (group : List ℕ) (last : ℕ) : Type 0 where
  pub from : 1 ≤ last
  pub few : last ≤ 256
  pub has : Member group last
  pub none_past : EachIn group (λ k. k ≤ last)

abbrev pub LastIn : (group : List ℕ) → Option ℕ → Type 0
LastIn group (Some last) = IsLast group last
LastIn group None = Empty group

-- the first position in a group, if it has one
pub record IsFirst (group : List ℕ) (first : ℕ) : Type 0 where
  pub from : 1 ≤ first
  pub few : first ≤ 256
  pub has : Member group first
  pub none_before : EachIn group (λ k. first ≤ k)

abbrev pub FirstIn : (group : List ℕ) → Option ℕ → Type 0
FirstIn group (Some first) = IsFirst group first
FirstIn group None = Empty group

-- a last position is past n
abbrev pub Past : (n : ℕ) → Option ℕ → Type 0
Past n (Some last) = n < last
Past n None = ⊥

-- what is answered where the two relations of a group that comes before another one are `one`, left, and `other`, below
abbrev pub verdict_of : (some_left some_below : Bool) (one other : Side) → Option Side
verdict_of some_left false one other = Some one
verdict_of false true one other = Some other
verdict_of true true one other = None
