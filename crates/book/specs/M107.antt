-- M-107's promises: of a book's bytes and its totals; then of adding to a book; then of reading on in it; then of its refusals.
use Rattle.std.specs.Prelude.{List, [], ◌∷◌, ◌++◌, ◌≢◌, ◌↔◌, ◌≡◌, refl, ℕ, ◌+◌, ◌-◌, ◌≤◌, ◌<◌, length, take, get_or, Some, Ok, Err}
use Rattle.std.proofs.Common.{sym, ap, subst, ◌∙◌, arith, length-take}
use Rattle.record.specs.Refusal.{number_of}
use Rattle.record.specs.Checked.{Readable, Refuses}
use Rattle.record.specs.declared.Refusal.{Refusal}
use Rattle.book.specs.Book.{longest, records_of, joined, Good, GoodBook}
use Rattle.book.specs.Summary.{Summary, Fits32, summary, summary_of}
use Rattle.book.specs.Answer.{AddAnswer, rest_at, record_at, next_answer, part_for, add_answer, BookAdd}
use Rattle.book.specs.Course.{InOrder, Lengthened, plus, used_after, Built, empty, called, ReadsOn}
use Rattle.book.specs.Parts.{records_none, records_few}
use Rattle.book.specs.Checks.{first_bad→ordinal, first_bad→refuses, first_bad→before}
use Rattle.book.specs.Joined.{joined_records, records_joined, records_one_more}
use Rattle.book.specs.Totals.{rises_falls_plans, rooms_few, summary_one_more}
use Rattle.book.specs.NoneAfter.{front_never_11, first_bad_never_11}
use Rattle.book.specs.ReadingOn.{is_record, is_bad, part_is, record_ends, next_same_record, next_same_rest, reads_on, read_through}
use Rattle.book.specs.Adding.{good→added, added→good, bad→first, left_lengthened, lengthened_in_order, stays_in_order}
use Rattle.book.specs.declared.BookError.TheVariants.{BadRecord, Refused}

-- ---- "Store records one after another"
-- whatever the bytes are, their records one after another are these bytes: nothing is left out or read twice
pub m107_records_joined : (bytes : List ℕ) → joined (records_of bytes) ≡ bytes
m107_records_joined = joined_records

-- accepted records that are stored one after another are the records of the book
pub m107_one_way : (records : List (List ℕ)) → Good records → records_of (joined records) ≡ records
m107_one_way = records_joined

-- so a book falls into accepted records in one way only
pub m107_only_way : (bytes : List ℕ) (records : List (List ℕ)) → Good records → joined records ≡ bytes → records ≡ records_of bytes
m107_only_way bytes records good e = sym (records_joined records good) ∙ ap records_of e

-- and it is accepted exactly if it is made of accepted records, one after another
pub m107_accepted_iff_joined : (bytes : List ℕ) → GoodBook bytes ↔ ((records : List (List ℕ)) × Good records × (joined records ≡ bytes))
m107_accepted_iff_joined bytes = (
  λ good. (records_of bytes, good, joined_records bytes),
  λ r. subst Good (m107_only_way bytes r.0 r.1 r.2) r.1,
)

-- ---- "The four totals are those of the records in the book"
-- the totals of a book of accepted records are the sums over these records
pub m107_totals_are_sums : (records : List (List ℕ)) → Good records → summary_of (joined records) ≡ summary records
m107_totals_are_sums records good = ap summary (records_joined records good)

-- each room of an accepted book is a rise or a fall, but for the first of each plan
pub m107_rises_falls_plans : (bytes : List ℕ) → GoodBook bytes → let s = summary_of bytes in s.rises + s.falls + s.plans ≡ s.rooms
m107_rises_falls_plans bytes good = rises_falls_plans (records_of bytes) good

-- the totals of an accepted book that is not too long fit 32 bits
pub m107_totals_fit : (bytes : List ℕ) → GoodBook bytes → length bytes ≤ longest → Fits32 (summary_of bytes)
m107_totals_fit bytes good h =
    let few = rooms_few (records_of bytes) good in
    let long = ap length (joined_records bytes) in
    let all = rises_falls_plans (records_of bytes) good in
    (omega arith, omega arith, omega arith, omega arith)

-- so the summary of a book that is in order does
pub m107_summary_fits : (book : List ℕ) (used : ℕ) (summary : Summary) → InOrder book used summary → Fits32 summary
m107_summary_fits book used summary order =
    let short = order.short in
    subst Fits32 (sym order.own) (m107_totals_fit (take used book) order.good (omega (arith, length-take used book)))

-- ---- "Adding a good record lengthens the used part by it and leaves the earlier bytes alone"
-- a good record is added to a book that is in order and has room for it
pub m107_good_record_added : (book : List ℕ) (used : ℕ) («record» : List ℕ) (summary : Summary) → InOrder book used summary
    → Readable «record» → used + length «record» ≤ longest → used + length «record» ≤ length book
    → add_answer book used «record» summary ≡ Ok (used + length «record»)
m107_good_record_added book used «record» summary order good short lent =
    good→added book used «record» summary (record { in_order = order; good = good; short = short; lent = lent })

-- and only such a record to such a book
pub m107_added_was_good : (book : List ℕ) (used : ℕ) («record» : List ℕ) (summary : Summary) (size : ℕ)
    → add_answer book used «record» summary ≡ Ok size
    → InOrder book used summary × Readable «record» × (size ≡ used + length «record») × (size ≤ longest) × (size ≤ length book)
m107_added_was_good book used «record» summary size e =
    let for = added→good book used «record» summary size e in
    let short = for.0.short in
    let lent = for.0.lent in
    (for.0.in_order, for.0.good, for.1, omega (arith, for.1), omega (arith, for.1))

module _ {book «record» after : List ℕ} {used : ℕ} {before summary : Summary} where
  module _ (size : ℕ) (did : BookAdd book used «record» before (Ok size) after summary) where
    -- after adding, the used part is the old one followed by the record, the earlier bytes and all behind the new used part are as they
    -- were, and the summary is that of the lengthened book
    pub m107_added : Lengthened book used «record» size after summary
    m107_added = (left_lengthened size did).1

    -- the lengthened book is in order
    pub m107_added_in_order : InOrder after size summary
    m107_added_in_order = let left = left_lengthened size did in lengthened_in_order size left.0 left.1

    -- its records are the old ones and then this one
    pub m107_added_records : records_of (take size after) ≡ records_of (take used book) ++ («record» ∷ [])
    m107_added_records =
        let left = left_lengthened size did in
        ap records_of left.1.used_part ∙ records_one_more (take used book) «record» left.0.in_order.good left.0.good

    -- its totals are the old ones and this record's
    pub m107_added_totals : summary ≡ plus before «record»
    m107_added_totals =
        let left = left_lengthened size did in
        let order = left.0.in_order in
        left.1.own ∙ ap summary_of left.1.used_part ∙ summary_one_more (take used book) «record» order.good left.0.good
        ∙ ap (λ (s : Summary). plus s «record») (sym order.own)

  -- "a refused one changes neither" bytes nor summary: where a record of the book is bad
  pub m107_bad_record_changes_nothing : (refusal : Refusal) (ordinal : ℕ)
      → BookAdd book used «record» before (Err (BadRecord refusal ordinal)) after summary → (after ≡ book) × (summary ≡ before)
  m107_bad_record_changes_nothing refusal ordinal did = (did.bytes_left, did.summary_left)

  -- and for every other refusal
  pub m107_refused_changes_nothing : (refusal : Refusal) → BookAdd book used «record» before (Err (Refused refusal)) after summary
      → (after ≡ book) × (summary ≡ before)
  m107_refused_changes_nothing refusal did = (did.bytes_left, did.summary_left)

  -- so whatever adding answers, a book in order stays in order
  pub m107_stays_in_order : (answer : AddAnswer) → BookAdd book used «record» before answer after summary → InOrder book used before
      → InOrder after (used_after answer used) summary
  m107_stays_in_order = stays_in_order

-- and after any number of additions to the empty book, refused ones among them, the book is in order: the summary is its own
pub m107_always_in_order : {book : List ℕ} {used : ℕ} {summary : Summary} → Built book used summary → InOrder book used summary
m107_always_in_order (empty book) = record {
  lent = omega arith;
  short = omega arith;
  good = subst Good (sym none) tt;
  own = ap summary (sym none);
}
  where
    none : records_of [] ≡ []
    none = records_none [] refl
m107_always_in_order (called {answer = answer} built did) = stays_in_order answer did (m107_always_in_order built)

-- ---- "From any place in it, the next record is handed back as that part of the caller's bytes"
-- the part that is handed back is the record at the place: accepted, as long as the answer says, and within the used part
pub m107_next_part : (book : List ℕ) (used place size : ℕ) → next_answer book used place ≡ Ok (Some size)
    → let part = part_for (Ok (Some size)) book place in
    (part ≡ record_at book used place) × Readable part × (length part ≡ size) × (place + size ≤ used)
m107_next_part book used place size e =
    let is = is_record book used place size e in
    let part = part_is book used place size e in
    (part, subst Readable (sym part) is.good, ap length part ∙ is.long, record_ends book used place size e)

-- "This reading judges only the record that begins at the place": where it is the same, in whatever book and at whatever place, the
-- answer is the same
pub m107_next_judges_only_record : (book other : List ℕ) (used used-other place place_other : ℕ)
    → used ≤ length book → used ≤ longest → place < used
    → used-other ≤ length other → used-other ≤ longest → place_other < used-other
    → record_at book used place ≡ record_at other used-other place_other
    → next_answer book used place ≡ next_answer other used-other place_other
m107_next_judges_only_record = next_same_record

-- what stands before the place or behind the used part does not count at all
pub m107_next_judges_only_rest : (book other : List ℕ) (used place : ℕ) → used ≤ length book → used ≤ length other
    → rest_at book used place ≡ rest_at other used place → next_answer book used place ≡ next_answer other used place
m107_next_judges_only_rest = next_same_rest

-- reading from place 0 on, each time from the end of the last record, hands back the records of an accepted book and then comes to the end
pub m107_reading_on : (book : List ℕ) (used : ℕ) → used ≤ length book → used ≤ longest → GoodBook (take used book)
    → ReadsOn book used 0 (records_of (take used book))
m107_reading_on book used lent short good = reads_on book used lent short good

-- and what is handed back until the end are exactly the records of the book, which is accepted then
pub m107_read_through : (book : List ℕ) (used : ℕ) (records : List (List ℕ)) → ReadsOn book used 0 records
    → GoodBook (take used book) × (records ≡ records_of (take used book))
m107_read_through book used records reads =
    let all = read_through book used 0 records reads in
    (subst Good all.1 all.0, all.1)

-- ---- "A bad record in a book is refused by its own number, together with its ordinal, from 1; 11 cannot occur inside a book"
-- reading on: the bad record is the one at the place, and its ordinal is 1
pub m107_next_bad : (book : List ℕ) (used place : ℕ) (refusal : Refusal) (ordinal : ℕ)
    → next_answer book used place ≡ Err (BadRecord refusal ordinal) → Refuses (record_at book used place) refusal × (ordinal ≡ 1)
m107_next_bad = is_bad

-- its number is not 11
pub m107_next_never_11 : (book : List ℕ) (used place : ℕ) (refusal : Refusal) (ordinal : ℕ)
    → next_answer book used place ≡ Err (BadRecord refusal ordinal) → number_of refusal ≢ 11
m107_next_never_11 book used place refusal ordinal e =
    front_never_11 (rest_at book used place) (m107_next_bad book used place refusal ordinal e).0

-- adding: the bad record is the one with that ordinal in the book, and all before it are accepted
pub m107_add_bad : (book : List ℕ) (used : ℕ) («record» : List ℕ) (summary : Summary) (refusal : Refusal) (ordinal : ℕ)
    → add_answer book used «record» summary ≡ Err (BadRecord refusal ordinal) → let records = records_of (take used book) in
    (1 ≤ ordinal) × (ordinal ≤ length records) × Refuses (get_or records (ordinal - 1) []) refusal
    × ((j : ℕ) → j < ordinal - 1 → Readable (get_or records j []))
m107_add_bad book used «record» summary refusal ordinal e =
    let first = (bad→first book used «record» summary refusal ordinal e).0 in
    let at = first_bad→ordinal first in
    (omega (arith, at.0), omega (arith, at.1), first_bad→refuses first, first_bad→before first)

-- its number is not 11
pub m107_add_never_11 : (book : List ℕ) (used : ℕ) («record» : List ℕ) (summary : Summary) (refusal : Refusal) (ordinal : ℕ)
    → add_answer book used «record» summary ≡ Err (BadRecord refusal ordinal) → number_of refusal ≢ 11
m107_add_never_11 book used «record» summary refusal ordinal e =
    first_bad_never_11 (take used book) (bad→first book used «record» summary refusal ordinal e).0

-- its ordinal is at most 65,535
pub m107_add_ordinal_fits : (book : List ℕ) (used : ℕ) («record» : List ℕ) (summary : Summary) (refusal : Refusal) (ordinal : ℕ)
    → add_answer book used «record» summary ≡ Err (BadRecord refusal ordinal) → ordinal ≤ longest
m107_add_ordinal_fits book used «record» summary refusal ordinal e =
    let first = bad→first book used «record» summary refusal ordinal e in
    omega (arith, first.1, (first_bad→ordinal first.0).1, records_few (take used book), length-take used book)
