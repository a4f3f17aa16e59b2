-- Blocks and lines: where a line parts rooms, their blocks are those before it and then those after it; and the first and the last
-- label of rooms tell by which lines they can be cut.
use Rattle.std.specs.Prelude.{◌++◌, ◌≡◌, refl, ℕ, suc, ◌+◌, ◌-◌, ◌≤◌, ◌<◌}
use Rattle.std.proofs.Common.{append_assoc, inl, inr, sym, ap, subst, ◌∙◌, arith}
use Rattle.finite.specs.Decide.{le_or_lt, eq_or_ne}
use Rattle.finite.specs.Search.{Some}
use Rattle.slicing.specs.Cuts.{opposite, Before, Parts}
use Rattle.slicing.specs.Tree.{Tree, leaf, node, Trees, none, ◌then◌, count, TreeOf, Blocks, bytes_of, bytes_of_all}
use Rattle.slicing.proofs.Order.{before_one_way}
use Rattle.slicing.proofs.Blocks.{blocks_count, first_before_last, no_line_inside}
use Rattle.slicing.specs.declared.Cut.{Cut}
use Rattle.slicing.specs.declared.Cut.TheVariants.{Vertical, Horizontal}

-- ---- blocks one after the other
abbrev pub append : Trees → Trees → Trees
append none others = others
append (child then rest) others = child then append rest others

pub count_append : (one other : Trees) → count (append one other) ≡ count one + count other
count_append none other = omega arith
count_append (child then rest) other = omega (arith, count_append rest other)

pub bytes_append : (one other : Trees) → bytes_of_all (append one other) ≡ bytes_of_all one ++ bytes_of_all other
unfolding bytes_of
bytes_append none other = refl
bytes_append (child then rest) other = ap (λ l. bytes_of child ++ l) (bytes_append rest other) ∙ sym (append_assoc (bytes_of child) _ _)

-- ---- the two cuts
not_cut : (cut lines : Cut) (a b : ℕ) → ¬ Before cut a b → Before lines a b → lines ≡ opposite cut
not_cut Vertical Vertical a b not is = absurd (not is)
not_cut Vertical Horizontal a b not is = refl
not_cut Horizontal Vertical a b not is = refl
not_cut Horizontal Horizontal a b not is = absurd (not is)

module _ (f : ℕ → ℕ) (cut : Cut) where
  -- the blocks before a line and those after it are the blocks of all rooms
  pub blocks_joined : (one other : Trees) (s m e : ℕ) → m ≤ e → Blocks f cut one s m → Blocks f cut other m e → Parts f cut s m e
      → Blocks f cut (append one other) s e
  blocks_joined none other s m e within q blocks line = subst (λ (k : ℕ). Blocks f cut other k e) (sym q) blocks
  blocks_joined (child then rest) other s m e within (k, from, to, (alternates, tree, parts, blocks)) after line = (
    k,
    from,
    omega arith,
    (
      alternates,
      tree,
      λ i a b j c d. elim (le_or_lt m j) [ inl past ↦ line i a (omega arith) j past d | inr before ↦ parts i a b j c before ],
      blocks_joined rest other k m e within blocks after (λ i a b j c d. line i (omega arith) b j c d),
    ),
  )

  -- and the blocks of all rooms are blocks before a line and blocks after it
  record Halves (s m e : ℕ) : Type 0 where
    one : Trees
    other : Trees
    before : Blocks f cut one s m
    after : Blocks f cut other m e

  blocks_halved : (children : Trees) (s m e : ℕ) → s < m → m < e → Parts f cut s m e → Blocks f cut children s e → Halves s m e
  blocks_halved none s m e some more line q = absurd (omega arith)
  blocks_halved (child then rest) s m e some more line (k, from, to, (alternates, tree, parts, blocks)) = elim (eq_or_ne k m) [
    | inl q ↦ record {
      one = child then none;
      other = rest;
      before = (k, from, omega arith, (alternates, tree, λ i a b j c d. absurd (omega arith), q));
      after = subst (λ (x : ℕ). Blocks f cut rest x e) q blocks;
    }
    | inr ne ↦ elim (le_or_lt m k) [
      | inl past ↦
          absurd (no_line_inside f cut child s m k alternates tree some (omega arith) (λ i a b j c d. line i a b j c (omega arith)))
      | inr earlier ↦
          let h = blocks_halved rest k m e earlier more (λ i a b j c d. line i (omega arith) b j c d) blocks in
          record {
            one = child then h.one;
            other = h.other;
            before = (k, from, omega arith, (alternates, tree, λ i a b j c d. parts i a b j c (omega arith), h.before));
            after = h.after;
          }
    ]
  ]

  -- the blocks from a line on, and those before it, where the line may also stand before all rooms, or after them
  pub blocks_from : (children : Trees) (s m e : ℕ) → s ≤ m → m < e → Parts f cut s m e → Blocks f cut children s e
      → (rest : Trees) × Blocks f cut rest m e
  blocks_from children s m e from more line blocks = elim (eq_or_ne s m) [
    | inl q ↦ (children, subst (λ (x : ℕ). Blocks f cut children x e) q blocks)
    | inr ne ↦ let h = blocks_halved children s m e (omega arith) more line blocks in (h.other, h.after)
  ]

  pub blocks_upto : (children : Trees) (s m e : ℕ) → s < m → m ≤ e → Parts f cut s m e → Blocks f cut children s e
      → (first : Trees) × Blocks f cut first s m
  blocks_upto children s m e some within line blocks = elim (eq_or_ne m e) [
    | inl q ↦ (children, subst (λ (x : ℕ). Blocks f cut children s x) (sym q) blocks)
    | inr ne ↦ let h = blocks_halved children s m e some (omega arith) line blocks in (h.one, h.before)
  ]

  -- ---- one block, or several
  -- a room is a block of its own
  pub leaf_block : {s e : ℕ} → suc s ≡ e → Blocks f cut (leaf then none) s e
  leaf_block {e = e} q = (e, omega arith, omega arith, (tt, sym q, λ i a b j c d. absurd (omega arith), refl))

  -- and so are rooms that are cut the other way
  pub node_block : (lines : Cut) (children : Trees) (s e : ℕ) → lines ≡ opposite cut → s < e → 2 ≤ count children
      → Blocks f lines children s e → Blocks f cut (node lines children then none) s e
  node_block lines children s e turned some two blocks =
      (e, some, omega arith, (turned, (two, blocks), λ i a b j c d. absurd (omega arith), refl))

  -- several blocks have a line between them
  pub line_between_lem : (children : Trees) (s e : ℕ) → 2 ≤ count children → Blocks f cut children s e
      → Some (λ m. Parts f cut s m e) (suc s) e
  line_between_lem none s e two blocks = absurd (omega arith)
  line_between_lem (child then rest) s e two (k, from, to, (alternates, tree, parts, blocks)) =
      (k, from, omega (arith, blocks_count f cut rest k e blocks), parts)

  -- two rooms or more: where the first stands before the last there are several blocks
  pub several_blocks : (children : Trees) (s e : ℕ) → suc s < e → Before cut (f s) (f (e - 1)) → Blocks f cut children s e
      → 2 ≤ count children
  several_blocks none s e more first q = absurd (omega arith)
  several_blocks (leaf then none) s e more first (k, from, to, (alternates, is, parts, q)) = absurd (omega arith)
  several_blocks (node lines children then none) s e more first (k, from, to, (alternates, (two, blocks), parts, q)) =
      absurd (before_one_way cut (f s) (f (e - 1)) first (subst (λ (x : ℕ). Before (opposite cut) (f s) (f (x - 1))) q
      (subst (λ (c : Cut). Before c (f s) (f (k - 1))) alternates (first_before_last f lines children s k two blocks))))
  several_blocks (child then other then rest) s e more first blocks = omega arith

  -- and where it does not there is one
  pub block_is_tree : (children : Trees) (s e : ℕ) → ¬ Before cut (f s) (f (e - 1)) → s < e → Blocks f cut children s e
      → (tree : Tree) × TreeOf f tree s e × (children ≡ tree then none)
  block_is_tree none s e last some q = absurd (omega arith)
  block_is_tree (child then none) s e last some (k, from, to, (alternates, tree, parts, q)) = (child, subst (TreeOf f child s) q tree, refl)
  block_is_tree (child then other then rest) s e last some blocks =
      absurd (last (first_before_last f cut (child then other then rest) s e (omega arith) blocks))

  cut_other_way : (lines : Cut) (children : Trees) (s e : ℕ) → ¬ Before cut (f s) (f (e - 1)) → 2 ≤ count children
      → Blocks f lines children s e → lines ≡ opposite cut
  cut_other_way lines children s e last two blocks =
      not_cut cut lines (f s) (f (e - 1)) last (first_before_last f lines children s e two blocks)

  pub tree_is_block : (tree : Tree) (s e : ℕ) → ¬ Before cut (f s) (f (e - 1)) → s < e → TreeOf f tree s e
      → Blocks f cut (tree then none) s e
  tree_is_block leaf s e last some q = leaf_block (sym q)
  tree_is_block (node lines children) s e last some (two, blocks) =
      node_block lines children s e (cut_other_way lines children s e last two blocks) some two blocks

  -- which is cut the other way, if at all
  pub one_block_lem : (children : Trees) (s e : ℕ) → suc s < e → ¬ Before cut (f s) (f (e - 1)) → Blocks f cut children s e
      → (inner : Trees) × Blocks f (opposite cut) inner s e
  one_block_lem children s e more last blocks = go (block_is_tree children s e last (omega arith) blocks)
    where
      go : (tree : Tree) × TreeOf f tree s e × (children ≡ tree then none) → (inner : Trees) × Blocks f (opposite cut) inner s e
      go (leaf, q, one) = absurd (omega arith)
      go (node lines inner, (two, is), one) =
          (inner, subst (λ (c : Cut). Blocks f c inner s e) (cut_other_way lines inner s e last two is) is)
