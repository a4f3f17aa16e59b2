-- Rooms that have a cutting tree are slicing.
use Rattle.std.specs.Prelude.{◌⊎◌, ℕ, ◌≤◌, ◌<◌}
use Rattle.std.proofs.Common.{inl, inr, arith}
use Rattle.finite.specs.Decide.{le_or_lt}
use Rattle.slicing.specs.Slicing.{Shaped2413, Shaped3142, ShapedWithin}
use Rattle.slicing.specs.Cuts.{Parts}
use Rattle.slicing.proofs.Order.{not_shaped}
use Rattle.slicing.specs.Tree.{Tree, leaf, node, Trees, none, ◌then◌, TreeOf, Blocks}
use Rattle.slicing.specs.declared.Cut.{Cut}

module _ (f : ℕ → ℕ) where
  -- no line goes through a shape
  no_line_through : (cut : Cut) (s m e i j k l : ℕ) → Parts f cut s m e → s ≤ i → i < j → j < k → k < l → l < e → i < m → m ≤ l
      → ¬ (Shaped2413 (f i) (f j) (f k) (f l) ⊎ Shaped3142 (f i) (f j) (f k) (f l))
  no_line_through cut s m e i j k l parts a b c d g h n = not_shaped cut (f i) (f j) (f k) (f l) (parts i a h l n g) (elim (le_or_lt m j) [
    | inl q ↦ inl (parts i a h k (omega arith) (omega arith))
    | inr q ↦ inr (parts j (omega arith) q l n g)
  ])

  mutual
    pub tree_slicing : (tree : Tree) (s e : ℕ) → TreeOf f tree s e → ¬ ShapedWithin f s e
    tree_slicing leaf s e q (l, a, b, (k, c, d, (j, g, h, (i, x, y, shape)))) = omega arith
    tree_slicing (node cut children) s e (two, blocks) shape = blocks_slicing cut children s e blocks shape

    blocks_slicing : (cut : Cut) (children : Trees) (s e : ℕ) → Blocks f cut children s e → ¬ ShapedWithin f s e
    blocks_slicing cut none s e q (l, a, b, rest) = omega arith
    blocks_slicing cut (child then rest) s e (m, from, to, (alternates, tree, parts, blocks))
        (l, a, b, (k, c, d, (j, g, h, (i, x, y, shape)))) = elim (le_or_lt m l) [
          | inl past ↦ elim (le_or_lt m i) [
            | inl after ↦ blocks_slicing cut rest m e blocks (l, past, b, (k, omega arith, d, (j, omega arith, h, (i, after, y, shape))))
            | inr within ↦ no_line_through cut s m e i j k l parts x y h d b within past shape
          ]
          | inr before ↦ tree_slicing child s m tree (l, a, before, (k, c, d, (j, g, h, (i, x, y, shape))))
        ]
