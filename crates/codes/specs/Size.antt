-- What the functions that number an answer ask of it, so that the number fits 32 bits with a sign: lengths, counts and ordinals of at most
-- 65,535.
use Rattle.std.specs.Prelude.{ℕ, ◌≤◌, Result, Ok, Err, Option, Some, None}
use Rattle.record.specs.declared.Refusal.{Refusal}
use Rattle.book.specs.declared.BookError.{BookError}
use Rattle.book.specs.declared.BookError.TheVariants.{BadRecord, Refused}

abbrev pub SizeFits : Result ℕ Refusal → Type 0
SizeFits (Ok size) = size ≤ 65535
SizeFits (Err refusal) = Unit

abbrev pub ErrorFits : BookError → Type 0
ErrorFits (BadRecord refusal ordinal) = ordinal ≤ 65535
ErrorFits (Refused refusal) = Unit

abbrev pub NextFits : Result (Option ℕ) BookError → Type 0
NextFits (Ok (Some size)) = size ≤ 65535
NextFits (Ok None) = Unit
NextFits (Err error) = ErrorFits error

abbrev pub AddFits : Result ℕ BookError → Type 0
AddFits (Ok size) = size ≤ 65535
AddFits (Err error) = ErrorFits error
