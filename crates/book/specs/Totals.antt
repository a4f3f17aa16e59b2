-- Laws of the totals of some records.
use Rattle.std.specs.Prelude.{List, [], ◌∷◌, ◌++◌, ◌≡◌, ℕ, ◌+◌, ◌*◌, ◌≤◌, length}
use Rattle.std.proofs.Common.{inr, sym, ap, ◌∙◌, arith, length-append}
use Rattle.record.specs.Record.{triple_in}
use Rattle.record.specs.Read.{kind_of, body_of}
use Rattle.record.specs.Rises.{rises_of, falls_of, rises_and_falls}
use Rattle.record.specs.Checked.{Readable}
use Rattle.book.specs.Book.{records_of, joined, Good, GoodBook}
use Rattle.book.specs.Summary.{held, total, summary, summary_of}
use Rattle.book.specs.Course.{plus}
use Rattle.book.specs.Parts.{size_is}
use Rattle.book.specs.Joined.{records_one_more}

-- an accepted record has a room
pub some_room : {r : List ℕ} → Readable r → 1 ≤ kind_of r
some_room {r} good = let none : ¬ (kind_of r ≡ 0) = λ e. good.kind (inr e) in omega arith

-- each room of an accepted record but the first is a rise or a fall
pub rises_falls_plans : (records : List (List ℕ)) → Good records → let s = summary records in s.rises + s.falls + s.plans ≡ s.rooms
rises_falls_plans [] good = omega arith
rises_falls_plans (r ∷ rs) good =
    omega (arith, rises_falls_plans rs good.1, rises_and_falls (triple_in (body_of r)) (kind_of r) (some_room good.0))

-- three bits for each room are no more than the bits of the records
pub rooms_few : (records : List (List ℕ)) → Good records → 3 * total kind_of records ≤ 8 * length (joined records)
rooms_few [] good = omega arith
rooms_few (r ∷ rs) good = omega (arith, rooms_few rs good.1, size_is good.0, length-append r (joined rs))

-- ---- one record more
total_one_more : (of : List ℕ → ℕ) (rs : List (List ℕ)) (r : List ℕ) → total of rs + of r ≡ total of (rs ++ (r ∷ []))
total_one_more of [] r = omega arith
total_one_more of (s ∷ rs) r = omega (arith, total_one_more of rs r)

-- the summary of a book that is lengthened by an accepted record is the old one and the record's totals
pub summary_one_more : (bytes r : List ℕ) → GoodBook bytes → Readable r → summary_of (bytes ++ r) ≡ plus (summary_of bytes) r
summary_one_more bytes r good one =
    ap summary (records_one_more bytes r good one) ∙ (λ i. held (more (λ r. 1) i) (more kind_of i) (more rises_of i) (more falls_of i))
  where
    more : (of : List ℕ → ℕ) → total of (records_of bytes ++ (r ∷ [])) ≡ total of (records_of bytes) + of r
    more of = sym (total_one_more of (records_of bytes) r)
