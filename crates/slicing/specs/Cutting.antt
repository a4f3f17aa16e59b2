-- Cutting rooms into their tree: the first block ends at the first line, and a block of one cut is cut the other way. That this gives
-- the only tree of a slicing plan is proved (M103), so it need not be believed.
use Rattle.std.proofs.Common.{inl, inr}
use Rattle.std.proofs.Math.Logic.{ite}
use Rattle.std.specs.Prelude.{ℕ, zero, suc, ◌*◌}
use Rattle.std.proofs.Math.Decide.{dec_le, dec_lt}
use Rattle.finite.specs.First.{first}
use Rattle.slicing.specs.Cuts.{opposite, Parts, dec_parts}
use Rattle.slicing.specs.Tree.{Tree, leaf, node, Trees, none, ◌then◌}
use Rattle.slicing.specs.declared.Cut.{Cut}
use Rattle.slicing.specs.declared.Cut.TheVariants.{Vertical, Horizontal}

-- where the first block of the rooms at positions s to e - 1 ends
unfoldable pub first_end : (ℕ → ℕ) → Cut → (s e : ℕ) → ℕ
unfolding first dec_parts
first_end f cut s e =
    elim (first (λ m. Parts f cut s m e) (λ m. dec_parts f cut s m e) (suc s) e) [ inl line ↦ line.at | inr no_line ↦ e ]

-- in so many steps, which are as many as is needed
unfoldable mutual
  -- rooms that no line of the opposite cut parts
  pub tree_in : (steps : ℕ) → (ℕ → ℕ) → Cut → (s e : ℕ) → Tree
  tree_in zero f cut s e = leaf
  tree_in (suc steps) f cut s e = let parted = node cut (blocks_in steps f cut s e) in ite (dec_le e (suc s)) leaf parted

  pub blocks_in : (steps : ℕ) → (ℕ → ℕ) → Cut → (s e : ℕ) → Trees
  blocks_in zero f cut s e = none
  blocks_in (suc steps) f cut s e =
      let m = first_end f cut s e in
      let rest = blocks_in steps f cut m e in
      tree_in steps f (opposite cut) s m then ite (dec_le e m) none rest

-- the tree of the rooms at positions 1 to n: by vertical lines where there are some
unfoldable pub cutting_tree : (ℕ → ℕ) → (n : ℕ) → Tree
unfolding tree_in first_end
cutting_tree f n = tree_in (3 * n) f (ite (dec_lt (first_end f Vertical 1 (suc n)) (suc n)) Vertical Horizontal) 1 (suc n)
