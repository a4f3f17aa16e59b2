-- What the calls of a book find on their way: the totals of its used part, or its first bad record; and whether a record may be added.
use Rattle.std.specs.Prelude.{List, ◌++◌, ◌≡◌, ℕ, ◌+◌, ◌-◌, ◌≤◌, length, take, drop, Result, Ok, Err}
use Rattle.record.specs.Checked.{Readable}
use Rattle.book.specs.Book.{longest, records_of, GoodBook}
use Rattle.book.specs.Summary.{Summary, held, summary_of}
use Rattle.book.specs.Checks.{FirstBad}
use Rattle.book.specs.Demand1.{Own, AddSays}
use Rattle.book.specs.declared.BookError.{BookError}
use Rattle.book.specs.declared.BookError.TheVariants.{BadRecord, Refused}
use Rattle.judging.specs.declared.Judged.{Judged}
use Rattle.bookkeeping.specs.declared.Totals.{Totals}

-- totals as a summary
abbrev pub summary_in : Totals → Summary
summary_in totals = held totals.plans totals.rooms totals.rises totals.falls

-- a summary with one plan more, whose rooms but the first are rises and falls
abbrev pub counted_in : Summary → Judged → Summary
counted_in s judged = held (s.plans + 1) (s.rooms + judged.rooms) (s.rises + (judged.rooms - 1 - judged.falls)) (s.falls + judged.falls)

-- an accepted book and its summary, or the first bad record
abbrev pub SumsUp : Result Totals BookError → List ℕ → Type 0
SumsUp (Ok totals) bytes = GoodBook bytes × (summary_in totals ≡ summary_of bytes)
SumsUp (Err (BadRecord refusal ordinal)) bytes = FirstBad refusal ordinal 1 (records_of bytes)
SumsUp (Err (Refused refusal)) bytes = ⊥

-- a record that may be added, and the summary after it
pub record Admitted (book : List ℕ) (used : ℕ) («record» : List ℕ) (summary after : Summary) : Type 0 where
  pub own : Own book used summary
  pub readable : Readable «record»
  pub short : used + length «record» ≤ longest
  pub lent : used + length «record» ≤ length book
  pub after_is : after ≡ summary_of (take used book ++ «record»)

abbrev pub Admits : Result Totals BookError → (book : List ℕ) (used : ℕ) («record» : List ℕ) → Summary → Type 0
Admits (Ok after) book used «record» summary = Admitted book used «record» summary (summary_in after)
Admits (Err error) book used «record» summary = AddSays book used «record» summary (Err error)

-- a book with a record behind its used part
abbrev pub appended : (book : List ℕ) (used : ℕ) («record» : List ℕ) → List ℕ
appended book used «record» = take used book ++ «record» ++ drop (used + length «record») book
