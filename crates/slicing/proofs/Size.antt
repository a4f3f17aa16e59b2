-- What a cutting tree is made of: levels that alternate, a leaf for each room, in order of position, and so many bytes.
use Rattle.std.specs.Prelude.{List, [], ◌∷◌, ◌++◌, ◌≡◌, refl, ℕ, suc, ◌+◌, ◌*◌, ◌≤◌, length}
use Rattle.std.proofs.Common.{sym, ap, ◌∙◌, arith, length-append}
use Rattle.finite.specs.Table.{table, table_same, table_append}
use Rattle.slicing.specs.Tree.{Tree, leaf, node, Trees, none, ◌then◌, count, Alternates, TreeOf, Blocks, bytes_of, bytes_of_all}
use Rattle.slicing.proofs.Blocks.{blocks_count}
use Rattle.slicing.specs.declared.Cut.{Cut}

-- how many leaves and how many nodes a tree has
unfoldable mutual
  pub leaves : Tree → ℕ
  leaves leaf = 1
  leaves (node cut children) = leaves_of_all children

  pub leaves_of_all : Trees → ℕ
  leaves_of_all none = 0
  leaves_of_all (child then rest) = leaves child + leaves_of_all rest

unfoldable mutual
  pub nodes : Tree → ℕ
  nodes leaf = 0
  nodes (node cut children) = suc (nodes_of_all children)

  pub nodes_of_all : Trees → ℕ
  nodes_of_all none = 0
  nodes_of_all (child then rest) = nodes child + nodes_of_all rest

-- "levels alternate", and each node has from 2 to n children
abbrev mutual
  pub Levels : (n : ℕ) → Tree → Type 0
  Levels n leaf = Unit
  Levels n (node cut children) = (2 ≤ count children) × (count children ≤ n) × LevelsBelow n cut children

  pub LevelsBelow : (n : ℕ) → Cut → Trees → Type 0
  LevelsBelow n cut none = Unit
  LevelsBelow n cut (child then rest) = Alternates cut child × Levels n child × LevelsBelow n cut rest

mutual
  unfolding leaves nodes bytes_of

  -- a byte for each leaf, and two for each node
  pub bytes_are : (tree : Tree) → length (bytes_of tree) ≡ leaves tree + 2 * nodes tree
  bytes_are leaf = refl
  bytes_are (node cut children) = omega (arith, bytes_are_all children)

  bytes_are_all : (children : Trees) → length (bytes_of_all children) ≡ leaves_of_all children + 2 * nodes_of_all children
  bytes_are_all none = refl
  bytes_are_all (child then rest) = omega (arith, bytes_are child, bytes_are_all rest, length-append (bytes_of child) (bytes_of_all rest))

module _ (f : ℕ → ℕ) where
  -- the positions of the rooms that the leaves stand for, from the first leaf to the last
  unfoldable mutual
    pub positions : (tree : Tree) (s e : ℕ) → TreeOf f tree s e → List ℕ
    positions leaf s e q = s ∷ []
    positions (node cut children) s e (two, blocks) = positions_of_all cut children s e blocks

    pub positions_of_all : (cut : Cut) (children : Trees) (s e : ℕ) → Blocks f cut children s e → List ℕ
    positions_of_all cut none s e q = []
    positions_of_all cut (child then rest) s e (m, from, to, (alternates, tree, parts, blocks)) =
        positions child s m tree ++ positions_of_all cut rest m e blocks

  mutual
    unfolding leaves

    -- a leaf for each room
    pub leaves_are_rooms : (tree : Tree) (s e : ℕ) → TreeOf f tree s e → s + leaves tree ≡ e
    leaves_are_rooms leaf s e q = omega arith
    leaves_are_rooms (node cut children) s e (two, blocks) = leaves_of_blocks cut children s e blocks

    leaves_of_blocks : (cut : Cut) (children : Trees) (s e : ℕ) → Blocks f cut children s e → s + leaves_of_all children ≡ e
    leaves_of_blocks cut none s e q = omega arith
    leaves_of_blocks cut (child then rest) s e (m, from, to, (alternates, tree, parts, blocks)) =
        omega (arith, leaves_are_rooms child s m tree, leaves_of_blocks cut rest m e blocks)

  mutual
    unfolding positions leaves table

    -- which are the positions from s on, in order
    pub positions_in_order : (tree : Tree) (s e : ℕ) (is : TreeOf f tree s e) → positions tree s e is ≡ table (λ i. s + i) (leaves tree)
    positions_in_order leaf s e q = let same : s ≡ s + 0 = omega arith in ap (λ (x : ℕ). x ∷ []) same
    positions_in_order (node cut children) s e (two, blocks) = positions_of_blocks cut children s e blocks

    positions_of_blocks : (cut : Cut) (children : Trees) (s e : ℕ) (is : Blocks f cut children s e)
        → positions_of_all cut children s e is ≡ table (λ i. s + i) (leaves_of_all children)
    positions_of_blocks cut none s e q = refl
    positions_of_blocks cut (child then rest) s e (m, from, to, (alternates, tree, parts, blocks)) =
        (λ i. positions_in_order child s m tree i ++ positions_of_blocks cut rest m e blocks i)
        ∙ ap (λ (l : List ℕ). table (λ i. s + i) (leaves child) ++ l)
        (table_same (λ i. m + i) (λ i. s + (leaves child + i)) (leaves_of_all rest) (λ i h. omega (arith, leaves_are_rooms child s m tree)))
        ∙ sym (table_append (λ i. s + i) (leaves child) (leaves_of_all rest))

  mutual
    unfolding bytes_of

    -- at most 3 bytes for each room, less 2
    pub bytes_of_tree : (tree : Tree) (s e : ℕ) → TreeOf f tree s e → length (bytes_of tree) + 2 + 3 * s ≤ 3 * e
    bytes_of_tree leaf s e q = omega arith
    bytes_of_tree (node cut children) s e (two, blocks) = omega (arith, bytes_of_blocks cut children s e blocks)

    pub bytes_of_blocks : (cut : Cut) (children : Trees) (s e : ℕ) → Blocks f cut children s e
        → length (bytes_of_all children) + 2 * count children + 3 * s ≤ 3 * e
    bytes_of_blocks cut none s e q = omega arith
    bytes_of_blocks cut (child then rest) s e (m, from, to, (alternates, tree, parts, blocks)) =
        omega (arith, bytes_of_tree child s m tree, bytes_of_blocks cut rest m e blocks, length-append (bytes_of child) (bytes_of_all rest))

  mutual
    pub levels_alternate : (n : ℕ) (tree : Tree) (s e : ℕ) → e ≤ n + s → TreeOf f tree s e → Levels n tree
    levels_alternate n leaf s e few q = tt
    levels_alternate n (node cut children) s e few (two, blocks) =
        (two, omega (arith, blocks_count f cut children s e blocks), levels_below n cut children s e few blocks)

    levels_below : (n : ℕ) (cut : Cut) (children : Trees) (s e : ℕ) → e ≤ n + s → Blocks f cut children s e → LevelsBelow n cut children
    levels_below n cut none s e few q = tt
    levels_below n cut (child then rest) s e few (m, from, to, (alternates, tree, parts, blocks)) =
        (alternates, levels_alternate n child s m (omega arith) tree, levels_below n cut rest m e (omega arith) blocks)
