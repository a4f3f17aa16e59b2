-- The blocks of a node: how many there are, and where the first one ends.
use Rattle.std.proofs.Common.{inl, inr, subst, arith}
use Rattle.std.specs.Prelude.{◌≡◌, ℕ, ◌+◌, ◌-◌, ◌≤◌, ◌<◌}
use Rattle.finite.specs.Decide.{le_or_lt}
use Rattle.slicing.specs.Cuts.{Before, Parts}
use Rattle.slicing.specs.Tree.{Tree, leaf, node, Trees, none, ◌then◌, count, Alternates, TreeOf, Blocks}
use Rattle.slicing.proofs.Order.{before_one_way}
use Rattle.slicing.specs.declared.Cut.{Cut}
use Rattle.slicing.specs.Blocks.{FirstBlock}

module _ (f : ℕ → ℕ) where
  -- each block has a room
  pub blocks_count : (cut : Cut) (children : Trees) (s e : ℕ) → Blocks f cut children s e → s + count children ≤ e
  blocks_count cut none s e q = omega arith
  blocks_count cut (child then rest) s e (m, from, to, (alternates, tree, parts, blocks)) =
      omega (arith, blocks_count cut rest m e blocks)

  -- where a node has two blocks or more, its first room stands before its last
  pub first_before_last : (cut : Cut) (children : Trees) (s e : ℕ) → 2 ≤ count children → Blocks f cut children s e
      → Before cut (f s) (f (e - 1))
  first_before_last cut none s e two blocks = absurd (omega arith)
  first_before_last cut (child then rest) s e two (m, from, to, (alternates, tree, parts, blocks)) =
      let more = blocks_count cut rest m e blocks in
      parts s (omega arith) from (e - 1) (omega arith) (omega arith)

  -- no line of the parent's cut stands inside a child
  pub no_line_inside : (cut : Cut) (child : Tree) (s m e : ℕ) → Alternates cut child → TreeOf f child s e → s < m → m < e
      → ¬ Parts f cut s m e
  no_line_inside cut leaf s m e alternates q some more parts = omega arith
  no_line_inside cut (node lines children) s m e alternates (two, blocks) some more parts =
      before_one_way cut (f s) (f (e - 1)) (parts s (omega arith) some (e - 1) (omega arith) (omega arith))
      (subst (λ (c : Cut). Before c (f s) (f (e - 1))) alternates (first_before_last lines children s e two blocks))

  -- so a child ends where the first line stands
  pub child_first : (cut : Cut) (child : Tree) (s m e : ℕ) → Alternates cut child → TreeOf f child s m → s < m → m ≤ e
      → Parts f cut s m e → FirstBlock f cut s m e
  child_first cut child s m e alternates tree some within parts = record {
    some = some;
    within = within;
    parts = parts;
    first = λ k a b line. no_line_inside cut child s k m alternates tree a b (λ i c d j g h. line i c d j g (omega arith));
  }

-- the first block has one end
pub first_block_one : {f : ℕ → ℕ} {cut : Cut} {s m k e : ℕ} → FirstBlock f cut s m e → FirstBlock f cut s k e → m ≡ k
first_block_one {m = m} {k = k} one other = elim (le_or_lt m k) [
  | inl a ↦ elim (le_or_lt k m) [ inl b ↦ omega arith | inr b ↦ absurd (other.first m one.some b one.parts) ]
  | inr a ↦ absurd (one.first k other.some a other.parts)
]

-- and a block that ends before the last room is not the only one
pub two_blocks : (f : ℕ → ℕ) (cut : Cut) (children : Trees) (s m e : ℕ) → FirstBlock f cut s m e → m < e → Blocks f cut children s e
    → 2 ≤ count children
two_blocks f cut none s m e block more q = absurd (omega arith)
two_blocks f cut (child then none) s m e block more (k, from, to, (alternates, tree, parts, q)) =
    absurd (omega (arith, first_block_one block (child_first f cut child s k e alternates tree from (omega arith) parts)))
two_blocks f cut (child then other then rest) s m e block more blocks = omega arith
