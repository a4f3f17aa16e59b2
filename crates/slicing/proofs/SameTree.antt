-- A tree gives the plan back: two label lists that have the same cutting tree are the same, and two trees that have the same bytes.
use Rattle.std.specs.Prelude.{List, ◌∷◌, ◌++◌, ◌≡◌, refl, ℕ, suc, ◌≤◌, ◌<◌, get_or, drop}
use Rattle.std.proofs.Common.{append_assoc, inl, inr, sym, ap, subst, ◌∙◌, arith}
use Rattle.finite.specs.Decide.{le_or_lt}
use Rattle.record.specs.Labels.{EachOnce}
use Rattle.record.proofs.Rising.{rising_is_label}
use Rattle.slicing.specs.Cuts.{Before}
use Rattle.slicing.specs.Tree.{Tree, leaf, node, Trees, none, ◌then◌, count, TreeOf, Blocks, CuttingTree}
use Rattle.slicing.specs.Tree.{kind_of_cut, bytes_of, bytes_of_all}
use Rattle.slicing.proofs.Size.{leaves_are_rooms}
use Rattle.slicing.specs.declared.Cut.{Cut}
use Rattle.slicing.specs.declared.Cut.TheVariants.{Vertical, Horizontal}

-- ---- the labels from the tree
-- two rooms stand to each other alike
abbrev Alike : (f g : ℕ → ℕ) → (i j : ℕ) → Type 0
Alike f g i j = (cut : Cut) × Before cut (f i) (f j) × Before cut (g i) (g j)

module _ (f g : ℕ → ℕ) where
  mutual
    tree_alike : (tree : Tree) (s e : ℕ) → TreeOf f tree s e → TreeOf g tree s e → (i j : ℕ) → s ≤ i → i < j → j < e → Alike f g i j
    tree_alike leaf s e p q i j a b c = absurd (omega arith)
    tree_alike (node cut children) s e (two, blocks) (two', blocks') i j a b c = blocks_alike cut children s e blocks blocks' i j a b c

    blocks_alike : (cut : Cut) (children : Trees) (s e : ℕ) → Blocks f cut children s e → Blocks g cut children s e → (i j : ℕ)
        → s ≤ i → i < j → j < e → Alike f g i j
    blocks_alike cut none s e p q i j a b c = absurd (omega arith)
    blocks_alike cut (child then rest) s e (m, from, to, (alternates, tree, parts, blocks))
        (k, from', to', (alternates', tree', parts', blocks')) i j a b c =
        let same : k ≡ m = omega (arith, leaves_are_rooms f child s m tree, leaves_are_rooms g child s k tree') in
        elim (le_or_lt m i) [
          | inl after ↦ blocks_alike cut rest m e blocks (subst (λ (x : ℕ). Blocks g cut rest x e) same blocks') i j after b c
          | inr first ↦ elim (le_or_lt m j) [
            | inl past ↦ (cut, parts i a first j past c, parts' i a (omega arith) j (omega arith) c)
            | inr within ↦ tree_alike child s m tree (subst (TreeOf g child s) same tree') i j a b within
          ]
        ]

pub same_tree→same_labels : (f g : ℕ → ℕ) (n : ℕ) → EachOnce f n → EachOnce g n → (tree : Tree) → CuttingTree f n tree
    → CuttingTree g n tree → (i : ℕ) → 1 ≤ i → i ≤ n → f i ≡ g i
same_tree→same_labels f g n once once' tree p q i a b =
    sym (rising_is_label f n once g (λ i a b. once'.range i a b) rises i a b)
  where
    apart : (i j : ℕ) → 1 ≤ i → i ≤ n → 1 ≤ j → j ≤ n → f i < f j → g i < g j
    apart i j a b c d h = elim (le_or_lt i j) [
      | inl le ↦ elim (le_or_lt j i) [
        | inl ge ↦ absurd (omega (arith, ap f (antisym le ge)))
        | inr lt ↦ go h (tree_alike f g tree 1 (suc n) p q i j a lt (omega arith))
      ]
      | inr gt ↦ back h (tree_alike f g tree 1 (suc n) p q j i c gt (omega arith))
    ]
      where
        antisym : i ≤ j → j ≤ i → i ≡ j
        antisym le ge = omega arith

        go : f i < f j → Alike f g i j → g i < g j
        go h (Vertical, u, v) = v
        go h (Horizontal, u, v) = absurd (omega arith)

        back : f i < f j → Alike f g j i → g i < g j
        back h (Vertical, u, v) = absurd (omega arith)
        back h (Horizontal, u, v) = v

    rises : (i j : ℕ) → 1 ≤ i → i ≤ n → 1 ≤ j → j ≤ n → f j ≡ suc (f i) → g i < g j
    rises i j a b c d e = apart i j a b c d (omega arith)

-- ---- the tree from its bytes
kind_tells : (cut lines : Cut) → kind_of_cut cut ≡ kind_of_cut lines → cut ≡ lines
kind_tells Vertical Vertical q = refl
kind_tells Vertical Horizontal q = absurd (omega arith)
kind_tells Horizontal Vertical q = absurd (omega arith)
kind_tells Horizontal Horizontal q = refl

no_leaf : (cut : Cut) → ¬ (kind_of_cut cut ≡ 1)
no_leaf Vertical q = omega arith
no_leaf Horizontal q = omega arith

-- the first byte of two lists that are the same, the second, and what follows
first_byte : {a b : ℕ} {x y : List ℕ} → a ∷ x ≡ b ∷ y → a ≡ b
first_byte e = ap (λ (l : List ℕ). get_or l 0 0) e

rest_of : {a b : ℕ} {x y : List ℕ} → a ∷ x ≡ b ∷ y → x ≡ y
rest_of e = ap (drop 1) e

mutual
  unfolding bytes_of

  pub bytes_tell : (one other : Tree) (x y : List ℕ) → bytes_of one ++ x ≡ bytes_of other ++ y → (one ≡ other) × (x ≡ y)
  bytes_tell leaf leaf x y e = (refl, rest_of e)
  bytes_tell leaf (node cut children) x y e = absurd (no_leaf cut (sym (first_byte e)))
  bytes_tell (node cut children) leaf x y e = absurd (no_leaf cut (first_byte e))
  bytes_tell (node cut children) (node lines others) x y e =
      let same = kind_tells cut lines (first_byte e) in
      let (inner, after) = all_bytes_tell children others x y (first_byte (rest_of e)) (rest_of (rest_of e)) in
      (λ i. node (same i) (inner i), after)

  all_bytes_tell : (one other : Trees) (x y : List ℕ) → count one ≡ count other → bytes_of_all one ++ x ≡ bytes_of_all other ++ y
      → (one ≡ other) × (x ≡ y)
  all_bytes_tell none none x y q e = (refl, e)
  all_bytes_tell none (child then rest) x y q e = absurd (omega arith)
  all_bytes_tell (child then rest) none x y q e = absurd (omega arith)
  all_bytes_tell (child then rest) (child' then rest') x y q e =
      let (first, after) = bytes_tell child child' (bytes_of_all rest ++ x) (bytes_of_all rest' ++ y)
      (sym (append_assoc (bytes_of child) (bytes_of_all rest) x) ∙ e ∙ append_assoc (bytes_of child') (bytes_of_all rest') y) in
      let (others, end) = all_bytes_tell rest rest' x y (omega arith) after in
      (λ i. first i then others i, end)
