-- A book in use, which the theorems of M107 speak of: it is in order, is lengthened by a record, has had records added, is read through.
use Rattle.std.specs.Prelude.{List, [], ◌∷◌, ◌++◌, ◌≡◌, ℕ, ◌+◌, ◌≤◌, length, take, drop, Some, None, Ok, Err}
use Rattle.record.specs.Read.{kind_of}
use Rattle.record.specs.Rises.{rises_of, falls_of}
use Rattle.book.specs.Book.{longest, GoodBook}
use Rattle.book.specs.Summary.{Summary, held, summary_of}
use Rattle.book.specs.Answer.{AddAnswer, next_answer, part_for, BookAdd}

-- a book is in order: its used part lies in the lent slice, is not too long and is accepted, and the summary is its own
pub record InOrder (book : List ℕ) (used : ℕ) (summary : Summary) : Type 0 where
  pub lent : used ≤ length book
  pub short : used ≤ longest
  pub good : GoodBook (take used book)
  pub own : summary ≡ summary_of (take used book)

-- a book is lengthened by a record: to this used part, with the earlier bytes and those behind it as they were, and with its summary
pub record Lengthened (book : List ℕ) (used : ℕ) («record» : List ℕ) (size : ℕ) (after : List ℕ) (summary : Summary) : Type 0 where
  pub by : size ≡ used + length «record»
  pub used_part : take size after ≡ take used book ++ «record»
  pub earlier : take used after ≡ take used book
  pub behind : drop size after ≡ drop size book
  pub lent : length after ≡ length book
  pub own : summary ≡ summary_of (take size after)

-- a summary to which a record's totals are added
abbrev pub plus : Summary → List ℕ → Summary
plus s r = held (s.plans + 1) (s.rooms + kind_of r) (s.rises + rises_of r) (s.falls + falls_of r)

-- the used length after an answer: the new one, or as it was
abbrev pub used_after : AddAnswer → (used : ℕ) → ℕ
used_after (Ok size) used = size
used_after (Err error) used = used

-- a book after any number of additions to the empty one, each of them answered in any way, with the totals 0 at first
pub data Built : (book : List ℕ) (used : ℕ) → Summary → Type 0 where
  empty : (book : List ℕ) → Built book 0 (held 0 0 0 0)
  called : {book «record» after : List ℕ} {used : ℕ} {before summary : Summary} {answer : AddAnswer} → Built book used before
      → BookAdd book used «record» before answer after summary → Built after (used_after answer used) summary

-- reading on from a place, each time from the end of the last record, hands back these records, and then comes to the end
pub data ReadsOn (book : List ℕ) (used : ℕ) : (place : ℕ) → List (List ℕ) → Type 0 where
  ended : {place : ℕ} → next_answer book used place ≡ Ok None → ReadsOn book used place []
  goes_on : {place size : ℕ} {others : List (List ℕ)} → next_answer book used place ≡ Ok (Some size)
      → ReadsOn book used (place + size) others → ReadsOn book used place (part_for (Ok (Some size)) book place ∷ others)
