-- What comes first, last and next in a strict total order, and its rank.
use Rattle.std.specs.Prelude.{◌≡◌, ℕ, suc, ◌-◌, ◌<◌}
use Rattle.std.proofs.Common.{sym, ap, ◌∙◌, inl, inr, arith}
use Rattle.finite.specs.Decide.{eq_or_ne}
use Rattle.finite.specs.Count.{Strict, rank, rank_lt, rank_below, rank_onto}

-- c comes next after b
pub record Successor (R : ℕ → ℕ → Type 0) (b c : ℕ) : Type 0 where
  pub after : R b c
  pub none_between : (z : ℕ) → R b z → R z c → ⊥

pub successor_map : {R Q : ℕ → ℕ → Type 0} → ((a b : ℕ) → R a b → Q a b) → ((a b : ℕ) → Q a b → R a b) → {b c : ℕ} → Successor R b c
    → Successor Q b c
successor_map to from {b} {c} s = record { after = to b c s.after; none_between = λ z u v. s.none_between z (from b z u) (from z c v) }

module _ {n : ℕ} {R : ℕ → ℕ → Type 0} (s : Strict n R) where
  pub first→rank_0 : (a : ℕ) → a < n → ((j : ℕ) → ¬ R j a) → rank s a ≡ 0
  first→rank_0 a ha none =
      let (c, l, hc, e) = rank_onto s 0 (omega arith) in
      elim (eq_or_ne a c) [
        | inl q ↦ ap (rank s) q ∙ e
        | inr ne ↦ elim (s.total a c ha hc ne) [ inl r ↦ absurd (omega (arith, rank_lt s a c ha r)) | inr r ↦ absurd (none c r) ]
      ]

  pub last→rank_most : (a : ℕ) → a < n → ((j : ℕ) → ¬ R a j) → suc (rank s a) ≡ n
  last→rank_most a ha none =
      let (c, l, hc, e) = rank_onto s (n - 1) (omega arith) in
      elim (eq_or_ne a c) [
        | inl q ↦ omega (arith, ap (rank s) q)
        | inr ne ↦ elim (s.total a c ha hc ne)
            [ inl r ↦ absurd (none c r) | inr r ↦ absurd (omega (arith, rank_lt s c a hc r, rank_below s a ha)) ]
      ]

  pub next→rank_one_more : (b c : ℕ) → b < n → c < n → Successor R b c → rank s c ≡ suc (rank s b)
  next→rank_one_more b c hb hc next =
      let less = rank_lt s b c hb next.after in
      let (z, l, hz, e) = rank_onto s (suc (rank s b)) (omega (arith, rank_below s c hc)) in
      elim (eq_or_ne z c) [
        | inl q ↦ sym (ap (rank s) q) ∙ e
        | inr ne ↦ elim (s.total z c hz hc ne) [
          | inr r ↦ absurd (omega (arith, rank_lt s c z hc r))
          | inl r ↦ elim (eq_or_ne b z) [
            | inl q ↦ absurd (omega (arith, ap (rank s) q))
            | inr other ↦ elim (s.total b z hb hz other)
                [ inl u ↦ absurd (next.none_between z u r) | inr u ↦ absurd (omega (arith, rank_lt s z b hz u)) ]
          ]
        ]
      ]
