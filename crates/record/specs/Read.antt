-- Reading a record: what its bytes hold, and the causes for which it is refused. "Order: records 9, 10, 11, 14, 12, 13."
use Rattle.std.specs.Prelude.{◌≡◌, true, ◌⊎◌, List, ℕ, ◌+◌, ◌-◌, ◌*◌, ◌≤◌, ◌<◌, length, get_or, drop}
use Rattle.finite.specs.Search.{Some}
use Rattle.bits.specs.Bit.{bit_at}
use Rattle.record.specs.Walk.{Counts, missing, counts, walk}
use Rattle.record.specs.Record.{body_length, triple_in}
use Rattle.record.specs.Decode.{decode}

-- the kind byte, and the body after it
abbrev pub kind_of : List ℕ → ℕ
kind_of bytes = get_or bytes 0 0

abbrev pub body_of : List ℕ → List ℕ
body_of bytes = drop 1 bytes

-- "record empty or kind 0"
abbrev pub NoKind : List ℕ → Type 0
NoKind bytes = (length bytes ≡ 0) ⊎ (kind_of bytes ≡ 0)

-- "body shorter than its kind fixes"
abbrev pub ShortBody : List ℕ → Type 0
ShortBody bytes = length (body_of bytes) < body_length (kind_of bytes)

-- "bytes after the body"
abbrev pub BytesAfter : List ℕ → Type 0
BytesAfter bytes = body_length (kind_of bytes) < length (body_of bytes)

-- "spare bit is 1": one after the 3n − 3 bits of the triples
abbrev pub SpareBit : List ℕ → Type 0
SpareBit bytes = Some (λ i. bit_at (body_of bytes) i ≡ true) (3 * kind_of bytes - 3) (8 * length (body_of bytes))

-- the counts of runs at the end of the walk
abbrev pub end_of : List ℕ → Counts
end_of bytes = walk (triple_in (body_of bytes)) (kind_of bytes - 1)

-- "a triple needs a run that is missing"
abbrev pub Missing : Counts → Type 0
Missing missing = Unit
Missing (counts p q) = ⊥

-- "more than one run at the end"
abbrev pub Several : Counts → Type 0
Several missing = ⊥
Several (counts p q) = 1 ≤ p + q

-- the label list that a record gives
unfoldable pub labels_of : List ℕ → List ℕ
unfolding decode
labels_of bytes = decode (triple_in (body_of bytes)) (kind_of bytes)
