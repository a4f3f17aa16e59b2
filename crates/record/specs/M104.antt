-- M-104's promise: "setting a triple gives its three bits and leaves every other bit of the record as it was". It rests on what is left
-- where a group of three bits is set in the body; then the other bits are named: those of the kind byte, of the other triples, and the
-- spare ones.
use Rattle.std.specs.Prelude.{List, ◌∷◌, ◌≢◌, ◌≡◌, refl, ℕ, zero, suc, ◌+◌, ◌-◌, ◌*◌, ◌/◌, ◌≤◌}
use Rattle.std.proofs.Common.{inl, inr, sym, ap, subst, ◌∙◌, arith}
use Rattle.finite.specs.Decide.{le_or_lt}
use Rattle.bits.specs.Bit.{bit_at, Bytes, GroupSet}
use Rattle.bits.proofs.Pack.{same_byte, bit_at_first, bit_at_after, bit_at_drop}
use Rattle.record.specs.Triple.{Triple}
use Rattle.record.specs.Record.{triple_in}
use Rattle.record.specs.Read.{kind_of, body_of}
use Rattle.record.specs.TripleNumber.{triple_of, group_triple}
use Rattle.record.specs.TripleSet.{BitOf, TripleSet}

-- the triple of a position i, from 2 on, is set in a record: its group of three bits is, in the body, and the kind byte is left alone
pub m104_triple_set : (kind : ℕ) (before after : List ℕ) (i number : ℕ) → 2 ≤ i → GroupSet before after (i - 2) number
    → TripleSet (kind ∷ before) (kind ∷ after) i (triple_of number)
m104_triple_set kind before after i number from g =
    let e : suc (suc (i - 2)) ≡ i = omega arith in
    record {
      gives = subst (λ (j : ℕ). triple_in after j ≡ triple_of number) e gives;
      leaves = leaves;
      long = ap suc g.long;
      bytes = bytes;
    }
  where
    gives : triple_in after (suc (suc (i - 2))) ≡ triple_of number
    gives = sym (group_triple after (i - 2)) ∙ ap triple_of g.group_is

    in_body : (b : ℕ) → b / 3 ≢ i - 2 → bit_at (kind ∷ after) (8 + b) ≡ bit_at (kind ∷ before) (8 + b)
    in_body b other = bit_at_after kind after b ∙ g.others b other ∙ sym (bit_at_after kind before b)

    leaves : (b : ℕ) → ¬ BitOf i b → bit_at (kind ∷ after) b ≡ bit_at (kind ∷ before) b
    leaves b other = elim (le_or_lt 8 b) [
      | inl body ↦
          let e : b ≡ 8 + (b - 8) = omega arith in
          rw e (in_body (b - 8) (λ h. other (omega arith)))
      | inr first ↦ bit_at_first (kind ∷ after) b first ∙ sym (bit_at_first (kind ∷ before) b first)
    ]

    bytes : Bytes (kind ∷ before) → Bytes (kind ∷ after)
    bytes all zero = all 0
    bytes all (suc j) = g.bytes (λ i. all (suc i)) j

-- ---- the other bits
module _ {before after : List ℕ} {i : ℕ} {set : Triple} (s : TripleSet before after i set) where
  -- the kind byte is what it was
  pub m104_kind_stays : Bytes before → kind_of after ≡ kind_of before
  m104_kind_stays all =
      same_byte (kind_of after) (kind_of before) (s.bytes all 0) (all 0)
      (λ b h. sym (bit_at_first after b h) ∙ s.leaves b (λ of. omega arith) ∙ bit_at_first before b h)

  -- so is each bit of the body that is not one of position i's
  pub m104_body_bit_stays : (b : ℕ) → ¬ BitOf i (8 + b) → bit_at (body_of after) b ≡ bit_at (body_of before) b
  m104_body_bit_stays b other = bit_at_drop after b ∙ s.leaves (8 + b) other ∙ sym (bit_at_drop before b)

  -- the triple of every other position
  pub m104_other_triples_stay : 2 ≤ i → (j : ℕ) → j ≢ i → triple_in (body_of after) j ≡ triple_in (body_of before) j
  m104_other_triples_stay from zero other = refl
  m104_other_triples_stay from (suc zero) other = refl
  m104_other_triples_stay from (suc (suc k)) other =
      let first = m104_body_bit_stays (3 * k) (λ of. other (omega arith)) in
      let second = m104_body_bit_stays (3 * k + 1) (λ of. other (omega arith)) in
      let third = m104_body_bit_stays (3 * k + 2) (λ of. other (omega arith)) in
      rw (first, second, third) refl

  -- and each spare bit, where i is one of the positions 2 to n
  pub m104_spare_bits_stay : 2 ≤ i → i ≤ kind_of before → (b : ℕ) → 3 * kind_of before - 3 ≤ b
      → bit_at (body_of after) b ≡ bit_at (body_of before) b
  m104_spare_bits_stay from within b spare = m104_body_bit_stays b (λ of. omega arith)
