-- What the tree writer's contracts cite: a block of rooms, the room that its trees need, and what is put of them.
use Rattle.std.specs.Prelude.{List, ◌≡◌, ℕ, suc, ◌+◌, ◌-◌, ◌*◌, ◌≤◌, ◌<◌, length, Option, Some, None}
use Rattle.std.proofs.Math.Logic.{ite}
use Rattle.finite.specs.Put.{Put}
use Rattle.record.specs.Labels.{label_at}
use Rattle.slicing.specs.Cuts.{Before, Parts, dec_before}
use Rattle.slicing.specs.Tree.{Trees, count, Blocks, bytes_of_all}
use Rattle.slicing.specs.Blocks.{Whole}
use Rattle.slicing.specs.Interval.{Interval}
use Rattle.slicing.specs.declared.Cut.{Cut}
use Rattle.trees.specs.declared.TreesPut.{TreesPut}

-- the rooms at positions `from` to `to` - 1 of a list of labels: their labels are those from `lowest` on
pub record BlockOf (labels : List ℕ) (from to lowest : ℕ) : Type 0 where
  pub interval : Interval (label_at labels) from to lowest
  pub position : 1 ≤ from
  pub within : to ≤ suc (length labels)
  pub few : length labels ≤ 255
  pub bytes : lowest + to ≤ from + 256

-- the first of these rooms stands before the last: they are several blocks of the cut, or have no tree
abbrev pub FirstBefore : (labels : List ℕ) → Cut → (from to : ℕ) → Type 0
FirstBefore labels cut from to = Before cut (label_at labels from) (label_at labels (to - 1))

-- 0 where it does; 1 where they are one block
unfoldable pub one_block : (labels : List ℕ) → Cut → (from to : ℕ) → ℕ
one_block labels cut from to = ite (dec_before cut (label_at labels from) (label_at labels (to - 1))) 0 1

-- the room for their trees: one tree needs at most 3 bytes for each room, less 2, and several trees less 4
abbrev pub PartFits : (from to at places : ℕ) → Type 0
PartFits from to at places = at + 3 * to ≤ places + 3 * from + 2

abbrev pub BlocksFit : (labels : List ℕ) → Cut → (from to at places : ℕ) → Type 0
BlocksFit labels cut from to at places = at + 3 * to + 2 * one_block labels cut from to ≤ places + 3 * from + 4

-- a line that parts rooms, or that there is none
abbrev pub FindsLine : Option ℕ → (ℕ → ℕ) → Cut → (s e : ℕ) → Type 0
FindsLine (Some m) f cut s e = (s < m) × (m < e) × Parts f cut s m e
FindsLine None f cut s e = Whole f cut s e

-- the trees of the blocks of a cut are put
pub record TreesStand (f : ℕ → ℕ) (cut : Cut) (s e : ℕ) (before : List ℕ) (at : ℕ) (after : List ℕ) (end number : ℕ) : Type 0 where
  pub children : Trees
  pub blocks : Blocks f cut children s e
  pub counted : number ≡ count children
  pub put : Put before at (bytes_of_all children) after end

-- there are no such trees
pub record NoTrees (f : ℕ → ℕ) (cut : Cut) (s e : ℕ) : Type 0 where
  pub none_such : (children : Trees) → ¬ Blocks f cut children s e

-- the one or the other
abbrev pub Puts : Option TreesPut → (ℕ → ℕ) → Cut → (s e : ℕ) → (before : List ℕ) → (at : ℕ) → (after : List ℕ) → Type 0
Puts (Some put) f cut s e before at after = TreesStand f cut s e before at after put.end put.number
Puts None f cut s e before at after = NoTrees f cut s e

-- where the first part of rooms ends: at a line, or, where all are one block, with the last room; or that they have no tree
pub record Part (labels : List ℕ) (cut : Cut) (from m to : ℕ) : Type 0 where
  pub some : from < m
  pub within : m ≤ to
  pub parts : Parts (label_at labels) cut from m to
  pub whole : m ≡ to → ¬ FirstBefore labels cut from to

abbrev pub EndsPart : Option ℕ → (labels : List ℕ) → Cut → (from to : ℕ) → Type 0
EndsPart (Some m) labels cut from to = Part labels cut from m to
EndsPart None labels cut from to = NoTrees (label_at labels) cut from to
