-- The record while its triples are set, one after the other, and when all are set.
use mathlib.Core.Bool.{false}
use mathlib.Core.List.{List, [], ◌∷◌}
use mathlib.Core.Logic.{inl, inr}
use mathlib.Core.Path.{◌≡◌, refl, sym, ap, subst, ◌∙◌}
use Prim.Native.Nat.{ℕ, zero, suc, ◌-◌, ◌*◌, ◌≤◌}
use native.Mathlib.Omega.{arith}
use native.Mathlib.Numerals.{one-add}
use lib.ListN.{length, take, replicate, length-replicate}
use Rattle.finite.specs.BitTable.{zeros_at}
use Rattle.finite.specs.Decide.{eq_or_ne}
use Rattle.bits.specs.Bit.{bit_at, Bytes, pack}
use Rattle.bits.proofs.Pack.{take_pack, bit_at_zeros}
use Rattle.record.specs.Labels.{label_at}
use Rattle.record.specs.Triple.{Triple, triple_at}
use Rattle.record.specs.Record.{body_length, body_bit, triple_in, record_of}
use Rattle.record.specs.Read.{kind_of, body_of}
use Rattle.record.specs.Body.{body_of_triples}
use Rattle.record.specs.TripleSet.{TripleSet}
use Rattle.record.specs.M104.{m104_kind_stays, m104_body_bit_stays, m104_other_triples_stay}
use Rattle.record.proofs.Demand2.{record_length}

-- the kind byte and the triples of the first k positions from 2 on are in the record, and the rest is zero
pub record Partly (triples : ℕ → Triple) (n k : ℕ) (written : List ℕ) : Type 0 where
  pub long : length written ≡ 97
  pub bytes : Bytes written
  pub kind : kind_of written ≡ n
  pub done : (i : ℕ) → 2 ≤ i → i ≤ suc k → triple_in (body_of written) i ≡ triples i
  pub rest : (b : ℕ) → 3 * k ≤ b → bit_at (body_of written) b ≡ false

-- the kind byte alone
pub partly_none : (triples : ℕ → Triple) (n : ℕ) → n ≤ 255 → Partly triples n 0 (n ∷ replicate 96 0)
partly_none triples n few = record {
  long = ap suc (length-replicate {A = ℕ} 96 0);
  bytes = bytes;
  kind = refl;
  done = λ i a b. absurd (omega arith);
  rest = λ b h. bit_at_zeros 96 b;
}
  where
    bytes : Bytes (n ∷ replicate 96 0)
    bytes zero = omega arith
    bytes (suc i) = omega (arith, zeros_at 96 i)

-- one more triple
pub partly_more : (triples : ℕ → Triple) (n k : ℕ) (before after : List ℕ) → Partly triples n k before
    → TripleSet before after (suc (suc k)) (triples (suc (suc k))) → Partly triples n (suc k) after
partly_more triples n k before after p s = record {
  long = s.long ∙ p.long;
  bytes = s.bytes p.bytes;
  kind = m104_kind_stays s p.bytes ∙ p.kind;
  done = λ i a b. elim (eq_or_ne i (suc (suc k))) [
    | inl e ↦ subst (λ (j : ℕ). triple_in (body_of after) j ≡ triples j) (sym e) s.gives
    | inr e ↦ m104_other_triples_stay s (omega arith) i e ∙ p.done i a (omega arith)
  ];
  rest = λ b h. m104_body_bit_stays s b (λ of. omega arith) ∙ p.rest b (omega arith);
}

-- all triples of a label list
pub partly_all : (labels written : List ℕ) → length labels ≤ 255
    → Partly (triple_at (label_at labels)) (length labels) (length labels - 1) written
    → take (length (record_of labels)) written ≡ record_of labels
unfolding record_of
partly_all labels written few p =
    subst (λ (size : ℕ). take size written ≡ record_of labels) (sym (record_length labels ∙ one-add (body_length (length labels))))
    (go written p)
  where
    n : ℕ
    n = length labels

    triples : ℕ → Triple
    triples = triple_at (label_at labels)

    go : (bytes : List ℕ) → Partly triples n (n - 1) bytes → take (suc (body_length n)) bytes ≡ n ∷ pack (body_bit triples n) (body_length n)
    go [] p = absurd (omega (arith, p.long))
    go (kind ∷ body) p = (λ i. p.kind i ∷ front i)
      where
        size : length body ≡ 96
        size = omega (arith, p.long)

        whole : body ≡ pack (body_bit triples n) 96
        whole =
            subst (λ (m : ℕ). body ≡ pack (body_bit triples n) m) size
            (body_of_triples triples n body (λ i. p.bytes (suc i)) (λ i a b. p.done i a (omega arith)) (λ b h l. p.rest b (omega arith)))

        front : take (body_length n) body ≡ pack (body_bit triples n) (body_length n)
        front = ap (take (body_length n)) whole ∙ take_pack (body_bit triples n) 96 (body_length n) (omega arith)
