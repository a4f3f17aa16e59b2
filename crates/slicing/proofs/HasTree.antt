-- Rooms without the shapes have a cutting tree, the one that cutting gives.
use Rattle.std.specs.Prelude.{◌⊎◌, ℕ, zero, suc, ◌+◌, ◌-◌, ◌*◌, ◌≤◌, ◌<◌}
use Rattle.std.proofs.Common.{inl, inr, subst, sym, arith}
use Rattle.std.proofs.Math.Logic.{ite}
use Rattle.std.proofs.Math.Decide.{dec_le, dec_lt}
use Rattle.finite.specs.Decide.{le_or_lt}
use Rattle.finite.specs.Search.{Each, First}
use Rattle.finite.specs.First.{first}
use Rattle.record.specs.Labels.{EachOnce}
use Rattle.slicing.specs.Slicing.{ShapedWithin, Slicing}
use Rattle.slicing.specs.Cuts.{opposite, Parts, dec_parts}
use Rattle.slicing.specs.Tree.{Tree, leaf, node, none, Alternates, TreeOf, Blocks}
use Rattle.slicing.specs.Cutting.{first_end, tree_in, blocks_in, cutting_tree}
use Rattle.slicing.proofs.Order.{opposite_twice, before_one_way, more_shaped}
use Rattle.slicing.specs.Split.{Distinct}
use Rattle.slicing.proofs.Split.{Split, SomeLine, some_line}
use Rattle.slicing.specs.Blocks.{Whole, FirstBlock}
use Rattle.slicing.proofs.Blocks.{two_blocks}
use Rattle.slicing.specs.declared.Cut.{Cut}
use Rattle.slicing.specs.declared.Cut.TheVariants.{Vertical, Horizontal}

-- what cutting takes for the end of the first block is its end
first_end_lem : (f : ℕ → ℕ) (cut : Cut) (s e : ℕ) → s < e → FirstBlock f cut s (first_end f cut s e) e
unfolding first_end
first_end_lem f cut s e h = go (first (λ m. Parts f cut s m e) (λ m. dec_parts f cut s m e) (suc s) e)
  where
    go : (r : First (λ m. Parts f cut s m e) (suc s) e ⊎ Each (λ m. ¬ Parts f cut s m e) (suc s) e)
        → FirstBlock f cut s (elim r [ inl line ↦ line.at | inr no_line ↦ e ]) e
    go (inl line) = record { some = line.from; within = omega (arith, line.to); parts = line.has; first = line.before }
    go (inr no_line) = record { some = h; within = omega arith; parts = λ i a b j c d. absurd (omega arith); first = no_line }

-- where some line stands, the first block ends before the last room
line_end : {f : ℕ → ℕ} {cut : Cut} {s m e : ℕ} → FirstBlock f cut s m e → Split f cut s e → m < e
line_end {m = m} {e} block (k, a, b, parts) = elim (le_or_lt e m) [ inl h ↦ absurd (block.first k a (omega arith) parts) | inr h ↦ h ]

-- a block is parted by no line of its cut
block_whole : {f : ℕ → ℕ} {cut : Cut} {s m e : ℕ} → FirstBlock f cut s m e → Whole f cut s m
block_whole {m = m} block k a b parts = block.first k a b λ i c d j g h. elim (le_or_lt m j) [
  | inl past ↦ block.parts i c (omega arith) j past h
  | inr within ↦ parts i c d j g within
]

line_of : {f : ℕ → ℕ} (cut : Cut) {s e : ℕ} → SomeLine f s e → Whole f (opposite cut) s e → Split f cut s e
line_of Vertical (inl line) whole = line
line_of Vertical (inr (m, a, b, parts)) whole = absurd (whole m a b parts)
line_of Horizontal (inl (m, a, b, parts)) whole = absurd (whole m a b parts)
line_of Horizontal (inr line) whole = line

-- rooms to be cut: at least one, no label twice, and no shape
record Rooms (f : ℕ → ℕ) (s e : ℕ) : Type 0 where
  some : s < e
  distinct : Distinct f s e
  slicing : ¬ ShapedWithin f s e

some_of : {f : ℕ → ℕ} {s e : ℕ} (a b : ℕ) → s ≤ a → a < b → b ≤ e → Rooms f s e → Rooms f a b
some_of a b from some to rooms = record {
  some = some;
  distinct = λ i j c d g. rooms.distinct i j (omega arith) d (omega arith);
  slicing = λ shape. rooms.slicing (more_shaped a b from to shape);
}

module _ (f : ℕ → ℕ) where
  -- a tree of these rooms that may be the child of a node of this cut
  abbrev TreeFor : Cut → (s e : ℕ) → Tree → Type 0
  TreeFor cut s e tree = Alternates cut tree × TreeOf f tree s e

  mutual
    unfolding tree_in

    tree_by : (steps : ℕ) (cut : Cut) (s e : ℕ) → Rooms f s e → Whole f (opposite cut) s e → 3 * e ≤ 3 * s + steps
        → TreeFor (opposite cut) s e (tree_in steps f cut s e)
    tree_by zero cut s e rooms whole enough = absurd (omega (arith, rooms.some))
    tree_by (suc steps) cut s e rooms whole enough = go (dec_le e (suc s)) (λ h. blocks_by steps cut s e rooms (omega arith) (omega arith))
      where
        block : FirstBlock f cut s (first_end f cut s e) e
        block = first_end_lem f cut s e rooms.some

        go : (d : Dec (e ≤ suc s)) → (first_end f cut s e < e → Blocks f cut (blocks_in steps f cut s e) s e)
            → TreeFor (opposite cut) s e (ite d leaf (node cut (blocks_in steps f cut s e)))
        go (yes h) blocks = (tt, omega (arith, rooms.some))
        go (no h) blocks =
            let more = line_end block (line_of cut (some_line f s e (omega arith) rooms.distinct rooms.slicing) whole) in
            let two = two_blocks f cut (blocks_in steps f cut s e) s (first_end f cut s e) e block more (blocks more) in
            (sym (opposite_twice cut), (two, blocks more))

    blocks_by : (steps : ℕ) (cut : Cut) (s e : ℕ) → Rooms f s e → 3 * first_end f cut s e < 3 * s + steps → 3 * e ≤ 3 * s + suc steps
        → Blocks f cut (blocks_in steps f cut s e) s e
    blocks_by zero cut s e rooms enough enough' = absurd (omega (arith, (first_end_lem f cut s e rooms.some).some))
    blocks_by (suc steps) cut s e rooms enough enough' =
        let m = first_end f cut s e in
        let block = first_end_lem f cut s e rooms.some in
        let child = tree_by steps (opposite cut) s m (some_of s m (omega arith) block.some block.within rooms)
        (subst (λ (c : Cut). Whole f c s m) (sym (opposite_twice cut)) (block_whole block)) (omega arith) in (
          m,
          block.some,
          omega (arith, block.within),
          (
            subst (λ (c : Cut). Alternates c (tree_in steps f (opposite cut) s m)) (opposite_twice cut) child.0,
            child.1,
            block.parts,
            go block (dec_le e m) (λ h. blocks_by steps cut m e (some_of m e (omega (arith, block.some)) h (omega arith) rooms)
                (omega (arith, (first_end_lem f cut m e h).within, block.some)) (omega (arith, block.some))),
          ),
        )
      where
        go : FirstBlock f cut s (first_end f cut s e) e → (d : Dec (e ≤ first_end f cut s e))
            → (first_end f cut s e < e → Blocks f cut (blocks_in steps f cut (first_end f cut s e) e) (first_end f cut s e) e)
            → Blocks f cut (ite d none (blocks_in steps f cut (first_end f cut s e) e)) (first_end f cut s e) e
        go block (yes h) rest = omega (arith, block.within)
        go block (no h) rest = rest (omega arith)

  -- vertical and horizontal lines do not part the same rooms
  one_way : (cut : Cut) (s m k e : ℕ) → s < m → m < e → s < k → k < e → Parts f cut s m e → ¬ Parts f (opposite cut) s k e
  one_way cut s m k e a b c d lines others =
      before_one_way cut (f s) (f (e - 1)) (lines s (omega arith) a (e - 1) (omega arith) (omega arith))
      (others s (omega arith) c (e - 1) (omega arith) (omega arith))

  -- all rooms: by vertical lines where there are some
  tree_of_all : (n : ℕ) → Rooms f 1 (suc n) → TreeOf f (cutting_tree f n) 1 (suc n)
  unfolding cutting_tree
  tree_of_all n rooms = go (dec_lt (first_end f Vertical 1 (suc n)) (suc n))
    where
      block : FirstBlock f Vertical 1 (first_end f Vertical 1 (suc n)) (suc n)
      block = first_end_lem f Vertical 1 (suc n) rooms.some

      go : (d : Dec (first_end f Vertical 1 (suc n) < suc n)) → TreeOf f (tree_in (3 * n) f (ite d Vertical Horizontal) 1 (suc n)) 1 (suc n)
      go (yes h) = (tree_by (3 * n) Vertical 1 (suc n) rooms
          (λ m a b. one_way Vertical 1 (first_end f Vertical 1 (suc n)) m (suc n) block.some h a b block.parts) (omega arith)).1
      go (no h) = (tree_by (3 * n) Horizontal 1 (suc n) rooms (λ m a b. block.first m a (omega (arith, block.within))) (omega arith)).1

-- the tree of a slicing plan
pub cutting_tree_lem : (f : ℕ → ℕ) (n : ℕ) → 1 ≤ n → EachOnce f n → Slicing f n → TreeOf f (cutting_tree f n) 1 (suc n)
cutting_tree_lem f n some once slicing = tree_of_all f n (record {
  some = omega arith;
  distinct = λ i j a b c q. omega (arith, once.once i j a (omega arith) (omega arith) (omega arith) q);
  slicing = slicing;
})
