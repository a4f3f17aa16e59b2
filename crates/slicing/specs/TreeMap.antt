-- A tree of rooms that stand to each other in one way at its lines is their tree in another way where the one gives the other.
use Rattle.std.specs.Prelude.{◌↔◌, ℕ, suc, ◌≤◌, ◌<◌}
use Rattle.std.proofs.Common.{arith}
use Rattle.slicing.specs.Cuts.{Parted}
use Rattle.slicing.specs.Tree.{Tree, leaf, node, Trees, none, ◌then◌, TreeBy, BlocksBy}
use Rattle.slicing.specs.declared.Cut.{Cut}

module _ {R Q : Cut → (m i j : ℕ) → Type 0} (low high : ℕ)
    (line : (cut : Cut) (s m e : ℕ) → low ≤ s → s < m → m ≤ e → e ≤ high → Parted R cut s m e → Parted Q cut s m e) where
  mutual
    pub tree_map : (tree : Tree) (s e : ℕ) → low ≤ s → e ≤ high → TreeBy R tree s e → TreeBy Q tree s e
    tree_map leaf s e a b q = q
    tree_map (node cut children) s e a b (two, blocks) = (two, blocks_map cut children s e a b blocks)

    blocks_map : (cut : Cut) (children : Trees) (s e : ℕ) → low ≤ s → e ≤ high → BlocksBy R cut children s e → BlocksBy Q cut children s e
    blocks_map cut none s e a b q = q
    blocks_map cut (child then rest) s e a b (m, from, to, (alternates, tree, parted, blocks)) = (
      m,
      from,
      to,
      (
        alternates,
        tree_map child s m a (omega arith) tree,
        line cut s m e a from (omega arith) b parted,
        blocks_map cut rest m e (omega arith) b blocks,
      ),
    )

-- and where each gives the other of any two rooms, they have the same trees
pub tree_iff : {R Q : Cut → (m i j : ℕ) → Type 0} (n : ℕ)
    → ((cut : Cut) (m i j : ℕ) → 1 ≤ i → i < m → m ≤ j → j ≤ n → R cut m i j ↔ Q cut m i j) → (tree : Tree)
    → TreeBy R tree 1 (suc n) ↔ TreeBy Q tree 1 (suc n)
tree_iff n alike tree = (
  tree_map 1 (suc n) (λ cut s m e a b c d parted i g h j k l.
      (alike cut m i j (omega arith) h k (omega arith)).0 (parted i g h j k l)) tree 1 (suc n) (omega arith) (omega arith),
  tree_map 1 (suc n) (λ cut s m e a b c d parted i g h j k l.
      (alike cut m i j (omega arith) h k (omega arith)).1 (parted i g h j k l)) tree 1 (suc n) (omega arith) (omega arith),
)
