-- A library book: "Store records one after another in a book of at most 65,535 bytes." A record's kind byte fixes how long the record is,
-- and the next one begins where it ends: so the used part falls into records from its front on. The last of them may be cut short, and
-- none of them need be accepted.
use Rattle.std.specs.Prelude.{List, [], ◌∷◌, ◌++◌, ℕ, zero, suc, length, take, drop}
use Rattle.record.specs.Record.{body_length}
use Rattle.record.specs.Read.{kind_of}
use Rattle.record.specs.Checked.{Readable}

-- "a book of at most 65,535 bytes": the longest used part
abbrev pub longest : ℕ
longest = 65535

-- "one kind byte, then a body whose length n fixes": how many bytes the record has that begins with these bytes
abbrev pub size_of : List ℕ → ℕ
size_of bytes = suc (body_length (kind_of bytes))

-- that record, as far as there are bytes, and what stands behind it
abbrev pub front : List ℕ → List ℕ
front bytes = take (size_of bytes) bytes

abbrev pub behind : List ℕ → List ℕ
behind bytes = drop (size_of bytes) bytes

-- "records one after another": the first records of some bytes, `most` of them or all that there are
unfoldable pub first_records : (most : ℕ) → List ℕ → List (List ℕ)
first_records zero bytes = []
first_records (suc most) [] = []
first_records (suc most) (kind ∷ rest) = front (kind ∷ rest) ∷ first_records most (behind (kind ∷ rest))

-- all of them: each record takes a byte or more, so there are no more records than bytes. Without the count: no bytes have no records,
-- and other bytes have their front and the records of what stands behind it (`records_none` and `records_next` in Parts)
unfoldable pub records_of : List ℕ → List (List ℕ)
unfolding first_records
records_of bytes = first_records (length bytes) bytes

-- the bytes of some records, one after another
abbrev pub joined : List (List ℕ) → List ℕ
joined [] = []
joined (one ∷ others) = one ++ joined others

-- each of some records is accepted
abbrev pub Good : List (List ℕ) → Type 0
Good [] = Unit
Good (one ∷ others) = Readable one × Good others

-- a book is accepted if its records are
abbrev pub GoodBook : List ℕ → Type 0
GoodBook bytes = Good (records_of bytes)
