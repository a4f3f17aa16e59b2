-- Rooms have one cutting tree at most.
use Rattle.std.specs.Prelude.{◌≡◌, refl, ℕ, ◌-◌}
use Rattle.std.proofs.Common.{sym, subst, arith}
use Rattle.slicing.specs.Cuts.{Before}
use Rattle.slicing.specs.Tree.{Tree, leaf, node, Trees, none, ◌then◌, TreeOf, Blocks}
use Rattle.slicing.proofs.Blocks.{blocks_count, first_before_last, child_first, first_block_one}
use Rattle.slicing.specs.declared.Cut.{Cut}
use Rattle.slicing.specs.declared.Cut.TheVariants.{Vertical, Horizontal}

-- the first and the last room of a node tell how it is cut
one_cut : (cut lines : Cut) (a b : ℕ) → Before cut a b → Before lines a b → cut ≡ lines
one_cut Vertical Vertical a b h k = refl
one_cut Vertical Horizontal a b h k = absurd (omega arith)
one_cut Horizontal Vertical a b h k = absurd (omega arith)
one_cut Horizontal Horizontal a b h k = refl

module _ (f : ℕ → ℕ) where
  mutual
    pub only_tree : (one other : Tree) (s e : ℕ) → TreeOf f one s e → TreeOf f other s e → one ≡ other
    only_tree leaf leaf s e p q = refl
    only_tree leaf (node cut children) s e p (two, blocks) = absurd (omega (arith, blocks_count f cut children s e blocks))
    only_tree (node cut children) leaf s e (two, blocks) q = absurd (omega (arith, blocks_count f cut children s e blocks))
    only_tree (node cut children) (node lines others) s e (two, blocks) (two', blocks') =
        let same = one_cut cut lines (f s) (f (e - 1)) (first_before_last f cut children s e two blocks)
        (first_before_last f lines others s e two' blocks') in
        λ i. node (same i) (only_blocks cut children others s e blocks (subst (λ (c : Cut). Blocks f c others s e) (sym same) blocks') i)

    only_blocks : (cut : Cut) (children others : Trees) (s e : ℕ) → Blocks f cut children s e → Blocks f cut others s e → children ≡ others
    only_blocks cut none none s e p q = refl
    only_blocks cut none (child then rest) s e p (m, from, to, h) = absurd (omega arith)
    only_blocks cut (child then rest) none s e (m, from, to, h) q = absurd (omega arith)
    only_blocks cut (child then rest) (child' then rest') s e (m, from, to, (alternates, tree, parts, blocks))
        (m', from', to', (alternates', tree', parts', blocks')) =
        let same = first_block_one (child_first f cut child s m e alternates tree from (omega arith) parts)
        (child_first f cut child' s m' e alternates' tree' from' (omega arith) parts') in
        let first = only_tree child child' s m tree (subst (TreeOf f child' s) (sym same) tree') in
        let others = only_blocks cut rest rest' m e blocks (subst (λ (k : ℕ). Blocks f cut rest' k e) (sym same) blocks') in
        λ i. first i then others i
