-- The cutting tree, which is the v-h tree of 003, Definition 2.2.1: "levels alternate, and children stand left to right or bottom to
-- top".
use Rattle.std.specs.Prelude.{List, [], ◌∷◌, ◌++◌, ◌≡◌, ℕ, suc, ◌≤◌}
use Rattle.finite.specs.Search.{Some}
use Rattle.slicing.specs.Cuts.{opposite, Parted, InOrder}
use Rattle.slicing.specs.declared.Cut.{Cut}
use Rattle.slicing.specs.declared.Cut.TheVariants.{Vertical, Horizontal}

infixr 20 ◌then◌
mutual
  -- a leaf is a room, and a node is a part that lines cut into its children
  pub data Tree : Type 0 where
    leaf : Tree
    node : Cut → Trees → Tree

  pub data Trees : Type 0 where
    none : Trees
    ◌then◌ : Tree → Trees → Trees

abbrev pub count : Trees → ℕ
count none = 0
count (child then rest) = suc (count rest)

-- "levels alternate": a child is a room, or is cut the other way
abbrev pub Alternates : Cut → Tree → Type 0
Alternates cut leaf = Unit
Alternates cut (node lines children) = lines ≡ opposite cut

abbrev mutual
  -- the tree of the rooms at positions s to e - 1, where R says how rooms before and after a line stand to each other
  pub TreeBy : (Cut → (m i j : ℕ) → Type 0) → Tree → (s e : ℕ) → Type 0
  TreeBy R leaf s e = e ≡ suc s
  TreeBy R (node cut children) s e = (2 ≤ count children) × BlocksBy R cut children s e

  -- the trees of the blocks into which the lines of a cut part these rooms
  pub BlocksBy : (Cut → (m i j : ℕ) → Type 0) → Cut → Trees → (s e : ℕ) → Type 0
  BlocksBy R cut none s e = s ≡ e
  BlocksBy R cut (child then rest) s e =
      Some (λ m. Alternates cut child × TreeBy R child s m × Parted R cut s m e × BlocksBy R cut rest m e) (suc s) (suc e)

-- by the labels of the rooms
abbrev pub TreeOf : (ℕ → ℕ) → Tree → (s e : ℕ) → Type 0
TreeOf f tree s e = TreeBy (InOrder f) tree s e

abbrev pub Blocks : (ℕ → ℕ) → Cut → Trees → (s e : ℕ) → Type 0
Blocks f cut children s e = BlocksBy (InOrder f) cut children s e

-- the tree of a plan, whose labels are those of f at positions 1 to n
abbrev pub CuttingTree : (ℕ → ℕ) → (n : ℕ) → Tree → Type 0
CuttingTree f n tree = TreeOf f tree 1 (suc n)

-- "A leaf is kind 1 with no body. A node cut by vertical lines is kind 2, by horizontal lines kind 3."
abbrev pub kind_of_cut : Cut → ℕ
kind_of_cut Vertical = 2
kind_of_cut Horizontal = 3

-- "Each of these has a one-byte body, the number of children, 2 to 255. A node's children follow it, and each child may again be a
-- node."
unfoldable mutual
  pub bytes_of : Tree → List ℕ
  bytes_of leaf = 1 ∷ []
  bytes_of (node cut children) = kind_of_cut cut ∷ count children ∷ bytes_of_all children

  pub bytes_of_all : Trees → List ℕ
  bytes_of_all none = []
  bytes_of_all (child then rest) = bytes_of child ++ bytes_of_all rest
