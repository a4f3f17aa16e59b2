-- A whole plan is a block, and what is put of it is its cutting tree.
use mathlib.Core.List.{List, append-nil}
use mathlib.Core.Path.{◌≡◌, sym, ap, subst, ◌∙◌}
use Rattle.std.specs.Prelude.{Option, Some, None}
use Prim.Native.Nat.{ℕ, suc, ◌+◌, ◌-◌}
use native.Mathlib.Omega.{arith}
use lib.ListN.{length, get_or}
use Rattle.finite.specs.Decide.{stable}
use Rattle.record.specs.Labels.{label_at, label_at_lem}
use Rattle.slicing.specs.Slicing.{Shaped, dec_shaped}
use Rattle.slicing.specs.Cuts.{Before}
use Rattle.slicing.specs.Tree.{TreeOf, none, ◌then◌, bytes_of, bytes_of_all}
use Rattle.slicing.proofs.Lines.{block_is_tree, tree_is_block}
use Rattle.slicing.proofs.M103.{m103_slicing_iff_tree, m103_tree_by_cutting, m103_tree_at_most}
use Rattle.slicing.specs.declared.Cut.{Cut}
use Rattle.trees.specs.Block.{BlockOf, FirstBefore, TreesStand, NoTrees, Puts}
use Rattle.trees.specs.Written.{Plan, TreeWritten, Writes}
use Rattle.trees.specs.declared.TreesPut.{TreesPut}

module _ (labels : List ℕ) (plan : Plan labels) where
  abbrev f : ℕ → ℕ
  f = label_at labels

  abbrev n : ℕ
  n = length labels

  pub all_block : BlockOf labels 1 (length labels + 1) 1
  all_block = record {
    interval = record {
      some = omega (arith, plan.some);
      range = λ i a b. let r = plan.once.range i a (omega arith) in (r.0, omega arith);
      distinct = λ i j a b c q. omega (arith, plan.once.once i j a (omega arith) (omega arith) (omega arith) q);
    };
    position = omega arith;
    within = omega arith;
    few = plan.few;
    bytes = omega (arith, plan.few);
  }

  -- the first and the last label, as they are read
  pub one_block_of : (cut : Cut) → ¬ Before cut (get_or labels 0 0) (get_or labels (length labels - 1) 0)
      → ¬ FirstBefore labels cut 1 (length labels + 1)
  one_block_of cut last h = last (subst (λ (x : ℕ). Before cut (get_or labels 0 0) x) same h)
    where
      same : label_at labels (n + 1 - 1) ≡ get_or labels (n - 1) 0
      same = let back : n + 1 - 1 ≡ n = omega arith in ap f back ∙ sym (label_at_lem labels n plan.some)

  end_is : n + 1 ≡ suc n
  end_is = omega arith

  -- what is put is the cutting tree, and where nothing is put there is none
  tree_written : {cut : Cut} {before after : List ℕ} {end number : ℕ} → ¬ FirstBefore labels cut 1 (length labels + 1)
      → TreesStand (label_at labels) cut 1 (length labels + 1) before 0 after end number
      → TreeWritten (label_at labels) (length labels) end after
  unfolding bytes_of
  tree_written {cut} last h =
      let (tree, is, one) = block_is_tree f cut h.children 1 (n + 1) last (omega (arith, plan.some)) h.blocks in
      let is-tree = subst (TreeOf f tree 1) end_is is in
      let bytes = ap bytes_of_all one ∙ append-nil (bytes_of tree) in
      let same = bytes ∙ ap bytes_of (m103_tree_by_cutting f n plan.some plan.once tree is-tree) in
      record {
        slicing = (m103_slicing_iff_tree f n plan.some plan.once).1 (tree, is-tree);
        size = omega (arith, h.put.next, ap length same);
        small = omega (arith, m103_tree_at_most f n tree is-tree, h.put.next, ap length bytes);
        front = h.put.front ∙ same;
      }

  not_slicing : {cut : Cut} → ¬ FirstBefore labels cut 1 (length labels + 1) → NoTrees (label_at labels) cut 1 (length labels + 1)
      → Shaped (label_at labels) (length labels)
  not_slicing {cut} last missing = stable (dec_shaped f n) (λ slicing.
      let (tree, is) = (m103_slicing_iff_tree f n plan.some plan.once).0 slicing in
      missing.none_such (tree then none)
      (tree_is_block f cut tree 1 (n + 1) last (omega (arith, plan.some)) (subst (TreeOf f tree 1) (sym end_is) is)))

  pub writes : (r : Option TreesPut) (cut : Cut) (before after : List ℕ) → ¬ FirstBefore labels cut 1 (length labels + 1)
      → Puts r (label_at labels) cut 1 (length labels + 1) before 0 after → Writes r (label_at labels) (length labels) after
  writes (Some put) cut before after last h = tree_written last h
  writes None cut before after last h = not_slicing last h
