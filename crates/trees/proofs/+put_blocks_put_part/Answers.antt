-- `trees::put_blocks` and `trees::put_part` meet their contracts, each by way of the other.
use Rattle.std.proofs.Common.{◌≡◌, ◌≢◌, refl, sym, subst, ℕ, suc, ◌+◌, ◌-◌, ◌<◌, List, true, false, get_or, arith}
use Rattle.slicing.specs.Cuts.{opposite, Before}
use Rattle.slicing.specs.declared.Cut.{Cut}
use Rattle.trees.specs.Block.{BlockOf, FirstBefore}
use Rattle.trees.proofs.Putting.{block_before, other_way_lem, several→0, first_told, leaf_stands, node_stands, inner_missing, number_small}
use Rattle.trees.proofs.PartByPart.{begin, none_of_rest, none_of_part, go_on, part_less, part_fits}
use Rattle.trees.proofs.+put_blocks_put_part.Goals as goal

-- ---- put_blocks
pub put_blocks-loop-start-init : goal.put_blocks-loop-start-init
put_blocks-loop-start-init t c = begin c.args.cut c.args.tree.now c.args.at c.requires.0

pub put_blocks-returns-in_err-end : goal.put_blocks-returns-in_err-end
put_blocks-returns-in_err-end t c =
    rw c.from_residual.ensures (none_of_rest c.loop-start.invariant c.loop-start-test.true c.in_err-end.ensures)

pub put_blocks-put_part-requires : goal.put_blocks-put_part-requires
put_blocks-put_part-requires t c =
    let now = c.loop-start.invariant in
    let more = c.loop-start-test.true in
    let part = c.in_ok-end.ensures in
    (part_less now more part c.decreases, (subst (BlockOf c.args.labels.now c.loop-start.start c.in_ok-end.end) (sym c.lowest_before-first.ensures) (block_before (now.block more) c.args.cut c.in_ok-end.end part.some part.within part.parts), part_fits now more part c.requires.1))

pub put_blocks-returns-in_err-part : goal.put_blocks-returns-in_err-part
put_blocks-returns-in_err-part t c =
    rw c.from_residual-in_err-part.ensures (none_of_part c.loop-start.invariant c.loop-start-test.true c.in_ok-end.ensures c.in_err-part.ensures)

pub put_blocks-overflow_add-number : goal.put_blocks-overflow_add-number
put_blocks-overflow_add-number t c =
    let b = c.loop-start.invariant.block c.loop-start-test.true in
    omega (arith, number_small c.loop-start.invariant.stand, number_small c.in_ok-part.ensures, b.within, b.few, c.in_ok-end.ensures.within)

pub put_blocks-loop-start-preserved : goal.put_blocks-loop-start-preserved
put_blocks-loop-start-preserved t c =
    go_on c.loop-start.invariant c.loop-start-test.true c.in_ok-end.ensures c.in_ok-part.ensures c.lowest_after-low.ensures refl

-- ---- put_part
-- the first and the last label tell whether the first room stands before the last in the order of the one cut, and else in that of the other
module _ {labels : List ℕ} {from to lowest : ℕ} (b : BlockOf labels from to lowest) (cut : Cut) where
  first : Before cut (get_or labels (from - 1) 0) (get_or labels (to - 2) 0) → FirstBefore labels cut from to
  first told = first_told labels cut from to true b.position b.interval.some told

  last_first : ¬ Before cut (get_or labels (from - 1) 0) (get_or labels (to - 2) 0) → ¬ FirstBefore labels cut from to
  last_first told = first_told labels cut from to false b.position b.interval.some told

  turned : ¬ Before cut (get_or labels (from - 1) 0) (get_or labels (to - 2) 0) → {lines : Cut} → lines ≡ opposite cut → from + 1 ≢ to
      → (suc from < to) × FirstBefore labels lines from to
  turned told e more =
      (omega (arith, b.interval.some, more), subst (λ (lines : Cut). FirstBefore labels lines from to) (sym e) (other_way_lem b cut more (last_first told)))

pub put_part-returns-then-from-to : goal.put_part-returns-then-from-to
put_part-returns-then-from-to t c = leaf_stands c.if-from-to.true (omega (arith, c.requires.1, c.if-from-to.true))

pub put_part-put_blocks-requires : goal.put_part-put_blocks-requires
put_part-put_blocks-requires t c =
    let a = c.args in
    let p = c.requires in
    let several = several→0 a.labels.now a.cut a.from a.to (first p.0 a.cut c.if-stands_before.ensures) in
    (omega (arith, c.decreases, several), (p.0, omega (arith, p.1, several)))

pub put_part-put_blocks-requires-2 : goal.put_part-put_blocks-requires-2
put_part-put_blocks-requires-2 t c =
    let a = c.args in
    let p = c.requires in
    let two = turned p.0 a.cut c.if-stands_before.ensures c.opposite-lines.ensures c.if-from-to.false in
    let several = several→0 a.labels.now c.opposite-lines.result a.from a.to two.1 in
    (omega (arith, c.decreases, several), (p.0, omega (arith, p.1, several)))

pub put_part-returns-in_err-end : goal.put_part-returns-in_err-end
put_part-returns-in_err-end t c =
    let p = c.requires in
    let two = turned p.0 c.args.cut c.if-stands_before.ensures c.opposite-lines.ensures c.if-from-to.false in
    rw c.from_residual.ensures (inner_missing two.0 (last_first p.0 c.args.cut c.if-stands_before.ensures) c.opposite-lines.ensures c.in_err-end.ensures)

pub put_part-overflow_cast-tree : goal.put_part-overflow_cast-tree
put_part-overflow_cast-tree t c =
    let b = c.requires.0 in
    omega (arith, number_small c.in_ok-end.ensures, b.position, b.within, b.few)

pub put_part-returns : goal.put_part-returns
put_part-returns t c =
    let p = c.requires in
    let two = turned p.0 c.args.cut c.if-stands_before.ensures c.opposite-lines.ensures c.if-from-to.false in
    node_stands (omega (arith, p.1, two.0)) two.0 two.1 c.opposite-lines.ensures c.kind.ensures c.in_ok-end.ensures
