-- The record. "One kind byte, which is n, 1 to 255, then a body whose length n fixes: 3n − 3 bits rounded up to whole bytes (0 for
-- n = 1, 96 for n = 255). The first bit of the first triple is the highest bit of the first body byte. Spare bits at the low end of
-- the last byte are 0."
use Rattle.std.specs.Prelude.{Bool, false, ◌&&◌, List, ◌∷◌, ℕ, zero, suc, ◌+◌, ◌-◌, ◌*◌, ◌/◌, ◌%◌, ltb, length}
use Rattle.bits.specs.Bit.{bit_at, pack}
use Rattle.record.specs.Labels.{label_at}
use Rattle.record.specs.Triple.{Triple, triple, triple_at}

-- the body's length: 3n − 3 bits rounded up to whole bytes
abbrev pub body_length : ℕ → ℕ
body_length n = (3 * n - 3 + 7) / 8

-- bit 0, 1 or 2 of a triple, in its order
abbrev pub triple_bit : Triple → ℕ → Bool
triple_bit (triple first second third) zero = first
triple_bit (triple first second third) (suc zero) = second
triple_bit (triple first second third) (suc (suc i)) = third

-- bit i of the body: the triples of positions 2 to n one after the other, and then the spare bits
unfoldable pub body_bit : (ℕ → Triple) → (n i : ℕ) → Bool
body_bit triples n i = ltb i (3 * n - 3) && triple_bit (triples (suc (suc (i / 3)))) (i % 3)

-- the triple of a position, read from a body
abbrev pub triple_in : (body : List ℕ) → ℕ → Triple
triple_in body zero = triple false false false
triple_in body (suc zero) = triple false false false
triple_in body (suc (suc k)) = triple (bit_at body (3 * k)) (bit_at body (3 * k + 1)) (bit_at body (3 * k + 2))

-- the record of a label list
unfoldable pub record_of : List ℕ → List ℕ
record_of labels = let n = length labels in n ∷ pack (body_bit (triple_at (label_at labels)) n) (body_length n)
