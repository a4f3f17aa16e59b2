-- "Beside the book stands a summary of unsigned 32-bit totals: plans, rooms, rises and falls, where a rise or fall is a third bit of 0 or
-- 1. The four totals are those of the records in the book and are defined from the bytes." Here they are numbers of any size; that those
-- of an accepted book fit 32 bits is proved (`m107_totals_fit`).
use Rattle.std.specs.Prelude.{List, [], ◌∷◌, ◌≡◌, ℕ, ◌+◌, ◌^◌, ◌<◌}
use Rattle.std.proofs.Math.Decide.{ℕ_discrete}
use Rattle.finite.specs.Decide.{dec-×, dec_iff}
use Rattle.record.specs.Read.{kind_of}
use Rattle.record.specs.Rises.{rises_of, falls_of}
use Rattle.book.specs.Book.{records_of}

pub record Summary : Type 0 where
  pub plans : ℕ
  pub rooms : ℕ
  pub rises : ℕ
  pub falls : ℕ

abbrev pub held : (plans rooms rises falls : ℕ) → Summary
held plans rooms rises falls = record { plans = plans; rooms = rooms; rises = rises; falls = falls }

-- "unsigned 32-bit totals": each total is an unsigned 32-bit number
abbrev pub Fits32 : Summary → Type 0
Fits32 s = (s.plans < 2 ^ 32) × (s.rooms < 2 ^ 32) × (s.rises < 2 ^ 32) × (s.falls < 2 ^ 32)

-- a total over some records: the sum of what each of them counts for
abbrev pub total : (List ℕ → ℕ) → List (List ℕ) → ℕ
total of [] = 0
total of (one ∷ others) = of one + total of others

-- "those of the records in the book": a record is one plan, of as many rooms as its kind says
abbrev pub summary : List (List ℕ) → Summary
summary records = held (total (λ r. 1) records) (total kind_of records) (total rises_of records) (total falls_of records)

-- "defined from the bytes": the summary of a book's used part
abbrev pub summary_of : List ℕ → Summary
summary_of bytes = summary (records_of bytes)

-- two summaries are the same if their four totals are
unfoldable pub dec_same : (one other : Summary) → Dec (one ≡ other)
unfolding dec_iff dec-× ℕ_discrete
dec_same one other =
    dec_iff
    (λ e i. held (e.0 i) (e.1.0 i) (e.1.1.0 i) (e.1.1.1 i))
    (λ e. (λ i. (e i).plans, (λ i. (e i).rooms, (λ i. (e i).rises, λ i. (e i).falls))))
    (dec-× (ℕ_discrete one.plans other.plans)
    (dec-× (ℕ_discrete one.rooms other.rooms)
    (dec-× (ℕ_discrete one.rises other.rises) (ℕ_discrete one.falls other.falls))))
