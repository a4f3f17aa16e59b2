-- A table of bits that tells which names have been seen: the bit of a nonzero name is 1 exactly if it is among those of the first so many
-- rooms, and the bit of 0 stays 0.
use Rattle.std.specs.Prelude.{◌≡◌, refl, ◌≢◌, List, ℕ, zero, suc, ◌+◌, ◌/◌, ◌≤◌, ◌<◌, length}
use Rattle.std.proofs.Common.{sym, ap, subst, ◌∙◌, inl, inr, zero-le, arith}
use Rattle.std.specs.Int.Bits.{bit_or}
use Rattle.finite.specs.Decide.{eq_or_ne}
use Rattle.finite.specs.Search.{Some}
use Rattle.finite.specs.Marks.{Marks, marks_same}
use Rattle.finite.specs.BitTable.{bit_of, with_bit, bit_put, bit_kept}

-- v is the name of one of the first i rooms
abbrev pub SeenBefore : (name : ℕ → ℕ) (i v : ℕ) → Type 0
SeenBefore name i v = (v ≢ 0) × Some (λ k. name k ≡ v) 0 i

-- the bits of so many words tell which names these are
abbrev pub SeenIn : (name : ℕ → ℕ) (i size : ℕ) (words : List ℕ) → Type 0
SeenIn name i size words = (v : ℕ) → v / 64 < size → Marks (bit_of 64 words v) (SeenBefore name i v)

-- the bit that is put for a name: 1, but 0 for none
abbrev pub bit_for : ℕ → ℕ
bit_for zero = 0
bit_for (suc v) = 1

pub bit_for_marks : (v : ℕ) → Marks (bit_for v) (v ≢ 0)
bit_for_marks zero = inr (refl, λ named. named refl)
bit_for_marks (suc v) = inl (refl, λ e. omega arith)

pub bit_small : (v : ℕ) → bit_for v ≤ 1
bit_small zero = omega arith
bit_small (suc v) = omega arith

pub seen_none : (name : ℕ → ℕ) (size : ℕ) (words : List ℕ) → ((v : ℕ) → bit_of 64 words v ≡ 0) → SeenIn name 0 size words
seen_none name size words none v h = inr (none v, λ (named, (k, l, less, e)). omega arith)

module _ (name : ℕ → ℕ) (i size : ℕ) (words : List ℕ) (long : length words ≡ size) (small : name i / 64 < size)
    (seen : SeenIn name i size words) where
  abbrev after : List ℕ
  after = with_bit 64 words (name i) (bit_for (name i))

  inside : name i / 64 < length words
  inside = omega arith

  here : {was bit : ℕ} → Marks was (SeenBefore name i (name i)) → Marks bit (name i ≢ 0)
      → Marks (bit_or was bit) (SeenBefore name (i + 1) (name i))
  here (inl (e, s)) (inl (f, named)) = inl (rw (e, f), (named, (i, zero-le, omega arith, refl)))
  here (inr (e, s)) (inl (f, named)) = inl (rw (e, f), (named, (i, zero-le, omega arith, refl)))
  here (inl (e, s)) (inr (f, none)) = absurd (none s.0)
  here (inr (e, s)) (inr (f, none)) = inr (rw (e, f), λ (named, rest). none named)

  elsewhere : (v : ℕ) → v ≢ name i → SeenBefore name (i + 1) v → SeenBefore name i v
  elsewhere v differ (named, (k, l, less, e)) = (
    named,
    (
      k,
      l,
      elim (eq_or_ne k i) [
        | inl same ↦ absurd (differ (sym e ∙ ap name same))
        | inr other ↦ omega arith
      ],
      e,
    ),
  )

  -- one name more
  pub seen_more : SeenIn name (i + 1) size (with_bit 64 words (name i) (bit_for (name i)))
  seen_more v h = elim (eq_or_ne v (name i)) [
    | inl e ↦ subst (λ (u : ℕ). Marks (bit_of 64 after u) (SeenBefore name (i + 1) u)) (sym e)
        (subst (λ (bit : ℕ). Marks bit (SeenBefore name (i + 1) (name i)))
        (sym (bit_put (bit_for (name i)) (bit_small (name i)) 64 words (name i) inside))
        (here (seen (name i) small) (bit_for_marks (name i))))
    | inr ne ↦ subst (λ (bit : ℕ). Marks bit (SeenBefore name (i + 1) v))
        (sym (bit_kept (bit_for (name i)) (bit_small (name i)) 64 words (name i) inside v ne))
        (marks_same (seen v h) (λ (named, (k, l, less, e)). (named, (k, l, omega arith, e))) (elsewhere v ne))
  ]
