-- Adding a record: when it is added, and what stands in the book then.
use Rattle.std.specs.Prelude.{List, ◌++◌, ◌≡◌, refl, ℕ, ◌+◌, ◌≤◌, length, take, drop, Ok, Err}
use Rattle.std.proofs.Common.{sym, ap, subst, subst₂, ◌∙◌, arith, length-append, length-drop, take_at, drop_at, length-take-le}
use Rattle.std.proofs.lemmas.List.{take-append-le}
use Rattle.record.specs.Checked.{Readable}
use Rattle.record.specs.declared.Refusal.{Refusal}
use Rattle.book.specs.Book.{longest, records_of, GoodBook}
use Rattle.book.specs.Summary.{Summary, summary_of}
use Rattle.book.specs.Answer.{AddAnswer, add_answer, BookAdd}
use Rattle.book.specs.Course.{InOrder, Lengthened, used_after}
use Rattle.book.specs.Checks.{FirstBad}
use Rattle.book.specs.Joined.{good_one_more}
use Rattle.book.specs.Demand1 as says
use Rattle.book.specs.Demand1.{Own, AddSays, demand1_add_cause, demand1_add_answer}
use Rattle.book.specs.declared.BookError.TheVariants.{BadRecord, Refused}

-- ---- when a record is added
-- a good record for a book that is in order and has room for it
pub record GoodFor (book : List ℕ) (used : ℕ) («record» : List ℕ) (summary : Summary) : Type 0 where
  pub in_order : InOrder book used summary
  pub good : Readable «record»
  pub short : used + length «record» ≤ longest
  pub lent : used + length «record» ≤ length book

module _ (book : List ℕ) (used : ℕ) («record» : List ℕ) (summary : Summary) where
  own→in_order : Own book used summary → InOrder book used summary
  own→in_order o = let fits = o.0 in record { lent = omega arith; short = omega arith; good = o.1; own = o.2 }

  in_order→own : InOrder book used summary → Own book used summary
  in_order→own order = let lent = order.lent in let short = order.short in ((omega arith, omega arith), order.good, order.own)

  -- what an answer other than a plain refusal tells
  abbrev Told : AddAnswer → Type 0
  Told (Ok size) = GoodFor book used «record» summary × (size ≡ used + length «record»)
  Told (Err (BadRecord refusal ordinal)) = FirstBad refusal ordinal 1 (records_of (take used book)) × (used ≤ longest)
  Told (Err (Refused refusal)) = Unit

  told : {answer : AddAnswer} → AddSays book used «record» summary answer → Told answer
  told (says.beyond a) = tt
  told (says.long a b) = tt
  told (says.bad_book f first) = (first, omega arith)
  told (says.other f all h) = tt
  told (says.bad_record o cause) = tt
  told (says.too_long o all h) = tt
  told (says.short o all h l) = tt
  told (says.added o all h l) = (record { in_order = own→in_order o; good = all; short = omega arith; lent = omega arith }, refl)

  -- only a good one is added
  pub added→good : (size : ℕ) → add_answer book used «record» summary ≡ Ok size
      → GoodFor book used «record» summary × (size ≡ used + length «record»)
  added→good size e = subst Told e (told (demand1_add_cause book used «record» summary))

  -- and each good one is
  pub good→added : GoodFor book used «record» summary → add_answer book used «record» summary ≡ Ok (used + length «record»)
  good→added for =
      let short = for.short in
      let lent = for.lent in
      sym (demand1_add_answer book used «record» summary
      (says.added (in_order→own for.in_order) for.good (omega arith) (omega arith)))

  -- a bad record of the book is the first one
  pub bad→first : (refusal : Refusal) (ordinal : ℕ) → add_answer book used «record» summary ≡ Err (BadRecord refusal ordinal)
      → FirstBad refusal ordinal 1 (records_of (take used book)) × (used ≤ longest)
  bad→first refusal ordinal e = subst Told e (told (demand1_add_cause book used «record» summary))

-- ---- what stands in the book then
module _ (book : List ℕ) (used : ℕ) («record» : List ℕ) (size : ℕ) (by : size ≡ used + length «record») (lent : size ≤ length book) where
  abbrev head : List ℕ
  head = take used book ++ «record»

  abbrev tail : List ℕ
  tail = drop size book

  old_length : length (take used book) ≡ used
  old_length = length-take-le used book (omega arith)

  seam : length head ≡ size
  seam = omega (arith, length-append (take used book) «record», old_length)

  pub lengthened : Lengthened book used «record» size (head ++ tail) (summary_of head)
  lengthened = record {
    by = by;
    used_part = front;
    earlier = take-append-le used head tail (omega (arith, seam)) ∙ take_at (take used book) «record» used old_length;
    behind = drop_at head tail size seam;
    lent = omega (arith, length-append head tail, length-drop size book, seam);
    own = ap summary_of (sym front);
  }
    where
      front : take size (head ++ tail) ≡ head
      front = take_at head tail size seam

-- ---- what a call leaves
module _ {book «record» after : List ℕ} {used : ℕ} {before summary : Summary} where
  -- after a record is added
  pub left_lengthened : (size : ℕ) → BookAdd book used «record» before (Ok size) after summary
      → GoodFor book used «record» before × Lengthened book used «record» size after summary
  left_lengthened size did =
      let for = added→good book used «record» before size (sym did.answered) in
      let lent = for.0.lent in (
        for.0,
        subst₂ (λ (b : List ℕ) (s : Summary). Lengthened book used «record» size b s) (sym did.bytes_left) (sym did.summary_left)
            (lengthened book used «record» size for.1 (omega (arith, for.1))),
      )

  -- the lengthened book is in order
  pub lengthened_in_order : (size : ℕ) → GoodFor book used «record» before → Lengthened book used «record» size after summary
      → InOrder after size summary
  lengthened_in_order size for long =
      let short = for.short in
      let lent = for.lent in
      record {
        lent = omega (arith, long.lent, long.by);
        short = omega (arith, long.by);
        good = subst GoodBook (sym long.used_part) (good_one_more (take used book) «record» for.in_order.good for.good);
        own = long.own;
      }

  -- whatever a call answers, a book in order stays in order
  pub stays_in_order : (answer : AddAnswer) → BookAdd book used «record» before answer after summary → InOrder book used before
      → InOrder after (used_after answer used) summary
  stays_in_order (Ok size) did order = let left = left_lengthened size did in lengthened_in_order size left.0 left.1
  stays_in_order (Err error) did order =
      subst₂ (λ (b : List ℕ) (s : Summary). InOrder b used s) (sym did.bytes_left) (sym did.summary_left) order
