-- What reading on in a book and adding to it answer, and what they leave. "22 comes first, then 21 for the book as it is, the record
-- refusals, 23, those of the added record, without ordinal, 21 for the lengthened book, 15 if the lent slice cannot hold it."
use Rattle.std.specs.Prelude.{List, [], ◌∷◌, ◌++◌, ◌⊎◌, ◌≡◌, ℕ, suc, ◌+◌, ◌<◌, length, take, drop, Option, Some, None, Result, Ok, Err}
use Rattle.std.proofs.Math.Logic.{ite}
use Rattle.std.proofs.Math.Decide.{dec_lt, ℕ_discrete}
use Rattle.finite.specs.Decide.{dec-⊎}
use Rattle.record.specs.Checked.{checked}
use Rattle.record.specs.declared.Refusal.{Refusal}
use Rattle.record.specs.declared.Refusal.TheVariants.{ShortOutput, TooLong, BeyondBook, OtherSummary}
use Rattle.book.specs.Book.{longest, front, records_of}
use Rattle.book.specs.Summary.{Summary, summary_of, dec_same}
use Rattle.book.specs.declared.BookError.{BookError}
use Rattle.book.specs.declared.BookError.TheVariants.{BadRecord, Refused}

-- what reading on answers: how long the record is that begins at the place, or nothing at the end
abbrev pub NextAnswer : Type 0
NextAnswer = Result (Option ℕ) BookError

-- what adding answers: the new used length
abbrev pub AddAnswer : Type 0
AddAnswer = Result ℕ BookError

-- ---- reading on
-- the used part of a book from a place on
abbrev pub rest_at : (book : List ℕ) (used place : ℕ) → List ℕ
rest_at book used place = drop place (take used book)

-- "the record that begins at the place", as far as the used part goes
abbrev pub record_at : (book : List ℕ) (used place : ℕ) → List ℕ
record_at book used place = front (rest_at book used place)

-- 22: "a used length beyond the lent slice or a place beyond the used length"
abbrev pub Beyond : (lent used place : ℕ) → Type 0
Beyond lent used place = (lent < used) ⊎ (used < place)

unfoldable pub dec_beyond : (lent used place : ℕ) → Dec (Beyond lent used place)
unfolding dec-⊎ dec_lt
dec_beyond lent used place = dec-⊎ (dec_lt lent used) (dec_lt used place)

-- "at the used length the answer is "end". This reading judges only the record that begins at the place, counted as ordinal 1, and has
-- no summary to check": 22, then 21 for a used part longer than 65,535 bytes, the end, and the record's own refusals
abbrev pub next_answer : (book : List ℕ) (used place : ℕ) → NextAnswer
next_answer book used place =
    ite (dec_beyond (length book) used place) (Err (Refused BeyondBook))
    (ite (dec_lt longest used) (Err (Refused TooLong))
    (ite (ℕ_discrete place used) (Ok None)
    (checked (λ refusal. Err (BadRecord refusal 1)) (record_at book used place)
    (Ok (Some (length (record_at book used place)))))))

-- "From any place in it, the next record is handed back as that part of the caller's bytes": where the answer is a record; else the part
-- is empty
abbrev pub part_for : NextAnswer → (book : List ℕ) (place : ℕ) → List ℕ
part_for (Ok (Some size)) book place = take size (drop place book)
part_for (Ok None) book place = []
part_for (Err error) book place = []

-- ---- adding
-- "A bad record in a book is refused by its own number, together with its ordinal": the first bad one of some records of which the first
-- has this ordinal, or what follows where none is bad
abbrev pub each_checked : {A : Type 0} → (Refusal → ℕ → A) → (ordinal : ℕ) → List (List ℕ) → A → A
each_checked refuse ordinal [] good = good
each_checked refuse ordinal (one ∷ others) good =
    checked (λ refusal. refuse refusal ordinal) one (each_checked refuse (suc ordinal) others good)

abbrev pub bad_in_book : Refusal → (ordinal : ℕ) → AddAnswer
bad_in_book refusal ordinal = Err (BadRecord refusal ordinal)

abbrev pub refused_with : Refusal → AddAnswer
refused_with refusal = Err (Refused refusal)

-- the answer for a book, a record to add and the summary beside the book: 22 for "a used length beyond the lent slice", "21 for the book
-- as it is", a bad record with its ordinal, "from 1", 23 for "a summary that is not the book's", the refusals "of the added record,
-- without ordinal, 21 for the lengthened book, 15 if the lent slice cannot hold it"
abbrev pub add_answer : (book : List ℕ) (used : ℕ) («record» : List ℕ) → Summary → AddAnswer
add_answer book used «record» summary =
    ite (dec_lt (length book) used) (Err (Refused BeyondBook))
    (ite (dec_lt longest used) (Err (Refused TooLong))
    (each_checked bad_in_book 1 (records_of (take used book))
    (ite (dec_same summary (summary_of (take used book)))
    (checked refused_with «record»
    (ite (dec_lt longest (used + length «record»)) (Err (Refused TooLong))
    (ite (dec_lt (length book) (used + length «record»)) (Err (Refused ShortOutput))
    (Ok (used + length «record»)))))
    (Err (Refused OtherSummary)))))

-- "Adding a good record lengthens the used part by it and leaves the earlier bytes alone; a refused one changes neither": the book after
-- an answer, whose bytes behind the new used length are as they were
abbrev pub book_after : AddAnswer → (book : List ℕ) (used : ℕ) («record» : List ℕ) → List ℕ
book_after (Ok size) book used «record» = take used book ++ «record» ++ drop size book
book_after (Err error) book used «record» = book

-- and the summary beside it: that of the lengthened used part
abbrev pub summary_after : AddAnswer → (book : List ℕ) (used : ℕ) («record» : List ℕ) → Summary → Summary
summary_after (Ok size) book used «record» summary = summary_of (take used book ++ «record»)
summary_after (Err error) book used «record» summary = summary

-- what adding answers for a book and the summary `before`, and what bytes and what summary it leaves
pub record BookAdd (book : List ℕ) (used : ℕ) («record» : List ℕ) (before : Summary) (answer : AddAnswer) (after : List ℕ)
    (summary : Summary) : Type 0 where
  pub answered : answer ≡ add_answer book used «record» before
  pub bytes_left : after ≡ book_after answer book used «record»
  pub summary_left : summary ≡ summary_after answer book used «record» before
