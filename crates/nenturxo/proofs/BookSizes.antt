-- The lengths and the ordinals that the calls of a book answer are at most 65,535, as the used part is.
use mathlib.Core.List.{List}
use mathlib.Core.Path.{◌≡◌, refl, sym}
use Prim.Native.Nat.{ℕ}
use native.Mathlib.Omega.{arith}
use Rattle.std.specs.Prelude.{Result, Ok, Err, Option, Some, None}
use Rattle.book.specs.Summary.{Summary}
use Rattle.book.specs.Answer.{next_answer, BookAdd}
use Rattle.book.specs.ReadingOn.{is_record}
use Rattle.book.specs.M107.{m107_next_part, m107_next_bad, m107_add_ordinal_fits, m107_added_was_good}
use Rattle.book.specs.declared.BookError.{BookError}
use Rattle.book.specs.declared.BookError.TheVariants.{BadRecord, Refused}
use Rattle.codes.specs.Size.{NextFits, AddFits}

pub next_fits : (book : List ℕ) (used place : ℕ) → NextFits (next_answer book used place)
next_fits book used place = go (next_answer book used place) refl
  where
    go : (answer : Result (Option ℕ) BookError) → next_answer book used place ≡ answer → NextFits answer
    go (Ok (Some size)) e = omega (arith, (m107_next_part book used place size e).3, (is_record book used place size e).inside_book.1)
    go (Ok None) e = tt
    go (Err (BadRecord refusal ordinal)) e = omega (arith, (m107_next_bad book used place refusal ordinal e).1)
    go (Err (Refused refusal)) e = tt

pub add_fits : {book : List ℕ} {used : ℕ} {«record» : List ℕ} {before : Summary} {answer : Result ℕ BookError} {after : List ℕ}
    {summary : Summary} → BookAdd book used «record» before answer after summary → AddFits answer
add_fits {book} {used} {«record»} {before} {answer = Ok size} did = (m107_added_was_good book used «record» before size (sym did.answered)).3
add_fits {book} {used} {«record»} {before} {answer = Err (BadRecord refusal ordinal)} did =
    m107_add_ordinal_fits book used «record» before refusal ordinal (sym did.answered)
add_fits {answer = Err (Refused refusal)} did = tt
