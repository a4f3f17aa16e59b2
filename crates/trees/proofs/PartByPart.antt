-- Rooms that are put part by part: what holds where the loop's test is reached.
use mathlib.Core.List.{List}
use mathlib.Core.Logic.{inl, inr}
use mathlib.Core.Path.{◌≡◌, sym, subst}
use Prim.Native.Nat.{ℕ, ◌+◌, ◌-◌, ◌*◌, ◌≤◌, ◌<◌}
use native.Mathlib.Omega.{arith}
use lib.ListN.{length}
use Rattle.finite.specs.Decide.{eq_or_ne}
use Rattle.record.specs.Labels.{label_at}
use Rattle.slicing.specs.Cuts.{Parts}
use Rattle.slicing.specs.Interval.{lowest_of_rest}
use Rattle.slicing.specs.declared.Cut.{Cut}
use Rattle.trees.specs.Block.{BlockOf, FirstBefore, one_block, PartFits, BlocksFit, TreesStand, NoTrees, Part}
use Rattle.trees.proofs.Putting.{block_after, one→1, none_stand, parts_on, stand_more, part_missing, rest_missing}
use Rattle.trees.proofs.Putting.{trees_small, some_tree}

-- the rooms before `start` are put, and a line stands there
pub record Begun (labels : List ℕ) (cut : Cut) (from to : ℕ) (before : List ℕ) (at : ℕ) (now : List ℕ) (start low next number : ℕ)
    : Type 0 where
  pub begun : from ≤ start
  pub within : start ≤ to
  pub block : start < to → BlockOf labels start to low
  pub behind : Parts (label_at labels) cut from start to
  pub stand : TreesStand (label_at labels) cut from start before at now next number

-- before the first part
pub begin : {labels : List ℕ} {from to lowest : ℕ} (cut : Cut) (before : List ℕ) (at : ℕ) → BlockOf labels from to lowest
    → Begun labels cut from to before at before from lowest at 0
begin {from = from} cut before at b = record {
  begun = omega arith;
  within = omega (arith, b.interval.some);
  block = λ more. b;
  behind = λ i a c j d e. absurd (omega arith);
  stand = none_stand from before at;
}

module _ {labels : List ℕ} {cut : Cut} {from to : ℕ} {before : List ℕ} {at : ℕ} {now : List ℕ} {start low next number : ℕ}
    (h : Begun labels cut from to before at now start low next number) (more : start < to) where
  -- rooms that have no tree
  pub none_of_rest : NoTrees (label_at labels) cut start to → NoTrees (label_at labels) cut from to
  none_of_rest missing = rest_missing (label_at labels) cut from start to h.begun more h.behind missing

  module _ {m : ℕ} (part : Part labels cut start m to) where
    pub none_of_part : NoTrees (label_at labels) cut start m → NoTrees (label_at labels) cut from to
    none_of_part missing =
        part_missing (label_at labels) cut from start m to h.begun part.some part.within h.behind part.parts missing

    -- one part more
    pub go_on : {after : List ℕ} {low' end number' total : ℕ} → TreesStand (label_at labels) cut start m now next after end number'
        → low' ≡ lowest_of_rest cut start m low → total ≡ number + number' → Begun labels cut from to before at after m low' end total
    go_on stand lowest sum = record {
      begun = omega (arith, h.begun, part.some);
      within = part.within;
      block = λ rest. subst (BlockOf labels m to) (sym lowest)
          (block_after (h.block more) cut m part.some part.within part.parts rest);
      behind = parts_on (label_at labels) cut from start m to h.begun part.some part.within h.behind part.parts;
      stand = stand_more (label_at labels) cut from start m to h.begun part.some part.within h.behind part.parts
          h.stand stand sum;
    }

    -- all rooms are one part only where they are one block
    all_rooms : start ≡ from → m ≡ to → one_block labels cut from to ≡ 1
    all_rooms p q = one→1 labels cut from to (subst (λ (x : ℕ). ¬ FirstBefore labels cut x to) p (part.whole q))

    -- so a part is smaller, or all rooms are one block
    pub part_less : {t : ℕ} → 4 * (to - from) + 2 * one_block labels cut from to ≡ t → 4 * (m - start) + 1 < t
    part_less is = elim (eq_or_ne start from) [
      | inl p ↦ elim (eq_or_ne m to) [
        | inl q ↦ omega (arith, all_rooms p q)
        | inr ne ↦ omega (arith, part.within, part.some, h.begun)
      ]
      | inr ne ↦ omega (arith, part.within, part.some, h.begun)
    ]

    -- and it has room
    pub part_fits : BlocksFit labels cut from to at (length before) → PartFits start m next (length now)
    part_fits fits = elim (eq_or_ne start from) [
      | inl p ↦ elim (eq_or_ne m to) [
        | inl q ↦ omega (arith, all_rooms p q, trees_small h.stand, h.stand.put.size)
        | inr ne ↦ omega (arith, part.within, trees_small h.stand, h.stand.put.size)
      ]
      | inr ne ↦ omega (arith, part.within, trees_small h.stand, some_tree h.stand (omega (arith, h.begun)), h.stand.put.size)
    ]
