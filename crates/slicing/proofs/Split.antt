-- Two or more rooms without the shapes 2413 and 3142 are parted by a line. One room more keeps a line of the rooms before it, or finds a
-- new one.
use Rattle.std.specs.Prelude.{◌⊎◌, ◌≡◌, ℕ, zero, suc, ◌≤◌, ◌<◌}
use Rattle.std.proofs.Common.{inl, inr, sym, subst, subst₂, arith}
use Rattle.std.proofs.Math.Logic.{⊎_swap}
use Rattle.finite.specs.Decide.{le_or_lt, eq_or_ne}
use Rattle.finite.specs.Search.{Some, Each, First}
use Rattle.finite.specs.First.{first}
use Rattle.slicing.specs.Slicing.{ShapedWithin}
use Rattle.slicing.specs.Cuts.{opposite, Before, Parts, dec_before}
use Rattle.slicing.proofs.Order.{before_trans, before_back, before_turned, shaped, more_shaped}
use Rattle.slicing.specs.declared.Cut.{Cut}
use Rattle.slicing.specs.declared.Cut.TheVariants.{Vertical, Horizontal}
use Rattle.slicing.specs.Split.{Distinct}

-- some line of a cut parts the rooms
abbrev pub Split : (ℕ → ℕ) → Cut → (s e : ℕ) → Type 0
Split f cut s e = Some (λ m. Parts f cut s m e) (suc s) e

-- what holds up to e and at e
up_to : (P : ℕ → Type 0) {s e : ℕ} → Each P s e → P e → Each P s (suc e)
up_to P {s} {e} h last i from to = elim (eq_or_ne i e) [ inl q ↦ subst P (sym q) last | inr ne ↦ h i from (omega arith) ]

-- ---- one room more, with a line before it
module _ (f : ℕ → ℕ) (cut : Cut) (s m e : ℕ) (some : s < m) (more : m < e) (parts : Parts f cut s m e) (distinct : Distinct f s (suc e))
    (slicing : ¬ ShapedWithin f s (suc e)) where
  -- the new room stands after position i, or before it
  after : (i : ℕ) → s ≤ i → i < e → ¬ Before cut (f e) (f i) → Before cut (f i) (f e)
  after i from to = before_back cut (f i) (f e) (distinct i e from to (omega arith))

  -- it stands after each room before the line: the line stays
  line_stays : Each (λ i. ¬ Before cut (f e) (f i)) s m → Split f cut s (suc e)
  line_stays h =
      (m, some, omega arith, λ i from to. up_to (λ j. Before cut (f i) (f j)) (parts i from to) (after i from (omega arith) (h i from to)))

  -- it stands before one of them, and so before each later room, or there is a shape
  later : (k : ℕ) → s ≤ k → k < m → Before cut (f e) (f k) → Each (λ j. Before cut (f e) (f j)) k e
  later k from to has j a b = elim (le_or_lt m j) [
    | inl h ↦ before_trans cut (f e) (f k) (f j) has (parts k from to j h b)
    | inr h ↦ go h (dec_before cut (f e) (f j))
  ]
    where
      go : j < m → Dec (Before cut (f e) (f j)) → Before cut (f e) (f j)
      go h (yes p) = p
      go h (no np) = elim (eq_or_ne k j) [
        | inl q ↦ subst (λ (i : ℕ). Before cut (f e) (f i)) q has
        | inr ne ↦
            let shape = shaped cut (f k) (f j) (f m) (f e) (after j (omega arith) b np) has (parts k from to m (omega arith) more) in
            absurd (slicing (e, omega arith, omega arith, (m, omega arith, more, (j, omega arith, h, (k, from, omega arith, shape)))))
      ]

  -- so there is a line before the first of these, or before the new room
  new_line : First (λ i. Before cut (f e) (f i)) s m → Split f cut s (suc e) ⊎ Split f (opposite cut) s (suc e)
  new_line r = elim (eq_or_ne s r.at) [
    | inl q ↦ inr (
      e,
      omega arith,
      omega arith,
      λ i a b. up_to (λ j. Before (opposite cut) (f i) (f j)) (λ j c d. absurd (omega arith))
          (before_turned cut (f i) (f e) (all i (omega arith) b)),
    )
    | inr ne ↦ inl (
      r.at,
      omega (arith, r.from),
      omega (arith, r.to),
      λ i a b. up_to (λ j. Before cut (f i) (f j))
          (λ j c d. before_trans cut (f i) (f e) (f j) (earlier i a b) (all j c d)) (earlier i a b),
    )
  ]
    where
      all : Each (λ j. Before cut (f e) (f j)) r.at e
      all = later r.at r.from r.to r.has

      earlier : (i : ℕ) → s ≤ i → i < r.at → Before cut (f i) (f e)
      earlier i a b = after i a (omega (arith, r.to)) (r.before i a b)

  one_more : Split f cut s (suc e) ⊎ Split f (opposite cut) s (suc e)
  one_more = elim (first (λ i. Before cut (f e) (f i)) (λ i. dec_before cut (f e) (f i)) s m) [
    | inl r ↦ new_line r
    | inr h ↦ inl (line_stays h)
  ]

-- a line of the one or of the other cut
abbrev pub SomeLine : (ℕ → ℕ) → (s e : ℕ) → Type 0
SomeLine f s e = Split f Vertical s e ⊎ Split f Horizontal s e

-- a line between two rooms
between : (f : ℕ → ℕ) (cut : Cut) (s e : ℕ) → suc s ≡ e → Before cut (f s) (f e) → Split f cut s (suc e)
between f cut s e q h =
    (e, omega arith, omega arith, λ i a b j c d. subst₂ (λ (x y : ℕ). Before cut (f x) (f y)) (omega arith) (omega arith) h)

pub some_line : (f : ℕ → ℕ) (s e : ℕ) → suc s < e → Distinct f s e → ¬ ShapedWithin f s e → SomeLine f s e
some_line f s zero h distinct slicing = absurd (omega arith)
some_line f s (suc e) h distinct slicing = elim (le_or_lt e (suc s)) [
  | inl le ↦ two (omega arith)
  | inr more ↦ grown more (some_line f s e more (λ i j a b c. distinct i j a b (omega arith))
      (λ shape. slicing (more_shaped s e (omega arith) (omega arith) shape)))
]
  where
    two : suc s ≡ e → SomeLine f s (suc e)
    two q = elim (le_or_lt (f e) (f s)) [
      | inl le ↦ inr (between f Horizontal s e q (omega (arith, distinct s e (omega arith) (omega arith) (omega arith))))
      | inr lt ↦ inl (between f Vertical s e q lt)
    ]

    grown : suc s < e → SomeLine f s e → SomeLine f s (suc e)
    grown more (inl (m, a, b, parts)) = one_more f Vertical s m e a b parts distinct slicing
    grown more (inr (m, a, b, parts)) = ⊎_swap (one_more f Horizontal s m e a b parts distinct slicing)
