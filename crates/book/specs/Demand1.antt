-- Demand 1 for a book: "either its result or one of the numbered refusals, in the stated order". "A cause found gives its number, and no
-- number comes without its cause."
use Rattle.std.specs.Prelude.{List, ◌≢◌, ◌≡◌, ℕ, ◌+◌, ◌<◌, length, take, Some, None, Ok, Err}
use Rattle.std.proofs.Math.Logic.{ite, if_pos, if_neg}
use Rattle.std.proofs.Common.{sym, subst, ◌∙◌}
use Rattle.std.proofs.Math.Decide.{dec_lt, ℕ_discrete}
use Rattle.record.specs.Checked.{checked, Readable, Refuses, Sorted, refused, read, sorted, refused_checked, readable_checked}
use Rattle.record.specs.declared.Refusal.{Refusal}
use Rattle.record.specs.declared.Refusal.TheVariants.{ShortOutput, TooLong, BeyondBook, OtherSummary}
use Rattle.book.specs.Book.{longest, records_of, GoodBook}
use Rattle.book.specs.Summary.{Summary, summary_of, dec_same}
use Rattle.book.specs.Answer.{NextAnswer, AddAnswer, bad_in_book, refused_with, Beyond, dec_beyond, record_at, next_answer, each_checked, add_answer}
use Rattle.book.specs.Checks.{FirstBad, AllSorted, bad, good, all_sorted, bad_checked, good_checked}
use Rattle.book.specs.declared.BookError.TheVariants.{BadRecord, Refused}

-- ---- reading on
-- the used length lies in the lent slice and the place in the used part, which is not too long
abbrev pub Inside : (book : List ℕ) (used place : ℕ) → Type 0
Inside book used place = (¬ Beyond (length book) used place) × ¬ (longest < used)

-- an answer with its cause, and without the causes that the order names before it
pub data NextSays (book : List ℕ) (used place : ℕ) : NextAnswer → Type 0 where
  beyond : Beyond (length book) used place → NextSays book used place (Err (Refused BeyondBook))
  long : ¬ Beyond (length book) used place → longest < used → NextSays book used place (Err (Refused TooLong))
  end : Inside book used place → place ≡ used → NextSays book used place (Ok None)
  bad_record : {refusal : Refusal} → Inside book used place → place ≢ used → Refuses (record_at book used place) refusal
      → NextSays book used place (Err (BadRecord refusal 1))
  next : Inside book used place → place ≢ used → Readable (record_at book used place)
      → NextSays book used place (Ok (Some (length (record_at book used place))))

module _ (book : List ℕ) (used place : ℕ) where
  -- the answer's chain from its end on
  abbrev pub judged : NextAnswer
  judged = checked (λ refusal. Err (BadRecord refusal 1)) (record_at book used place) (Ok (Some (length (record_at book used place))))

  in_book : Inside book used place → ite (ℕ_discrete place used) (Ok None) judged ≡ next_answer book used place
  in_book i = sym (if_neg (dec_beyond (length book) used place) i.0 _ _ ∙ if_neg (dec_lt longest used) i.1 _ _)

  -- before the end the record is judged
  pub next_judged : Inside book used place → place ≢ used → judged ≡ next_answer book used place
  next_judged i less = sym (if_neg (ℕ_discrete place used) less _ _) ∙ in_book i

  -- an answer with its cause is the answer
  pub demand1_next_answer : {answer : NextAnswer} → NextSays book used place answer → answer ≡ next_answer book used place
  demand1_next_answer (beyond a) = sym (if_pos (dec_beyond (length book) used place) a _ _)
  demand1_next_answer (long a b) =
      sym (if_neg (dec_beyond (length book) used place) a _ _ ∙ if_pos (dec_lt longest used) b _ _)
  demand1_next_answer (end i at) = sym (if_pos (ℕ_discrete place used) at _ _) ∙ in_book i
  demand1_next_answer (bad_record i less cause) =
      refused_checked (λ refusal. Err (BadRecord refusal 1)) (record_at book used place) _ cause ∙ next_judged i less
  demand1_next_answer (next i less all) =
      readable_checked (λ refusal. Err (BadRecord refusal 1)) (record_at book used place) _ all ∙ next_judged i less

  -- and each answer has its cause
  pub demand1_next_cause : NextSays book used place (next_answer book used place)
  demand1_next_cause =
      go (dec_beyond (length book) used place) (dec_lt longest used) (ℕ_discrete place used) (sorted (record_at book used place))
    where
      is : {answer : NextAnswer} → NextSays book used place answer → NextSays book used place (next_answer book used place)
      is says = subst (NextSays book used place) (demand1_next_answer says) says

      go : Dec (Beyond (length book) used place) → Dec (longest < used) → Dec (place ≡ used) → Sorted (record_at book used place)
          → NextSays book used place (next_answer book used place)
      go (yes a) b c d = is (beyond a)
      go (no a) (yes b) c d = is (long a b)
      go (no a) (no b) (yes c) d = is (end (a, b) c)
      go (no a) (no b) (no c) (refused cause) = is (bad_record (a, b) c cause)
      go (no a) (no b) (no c) (read all) = is (next (a, b) c all)

-- ---- adding
-- the used length lies in the lent slice, and the used part is not too long
abbrev pub Fits : (book : List ℕ) (used : ℕ) → Type 0
Fits book used = (¬ (length book < used)) × ¬ (longest < used)

-- and its records are accepted, and the summary is its own
abbrev pub Own : (book : List ℕ) (used : ℕ) → Summary → Type 0
Own book used summary = Fits book used × GoodBook (take used book) × (summary ≡ summary_of (take used book))

-- an answer with its cause, and without the causes that the order names before it
pub data AddSays (book : List ℕ) (used : ℕ) («record» : List ℕ) (summary : Summary) : AddAnswer → Type 0 where
  beyond : length book < used → AddSays book used «record» summary (Err (Refused BeyondBook))
  long : ¬ (length book < used) → longest < used → AddSays book used «record» summary (Err (Refused TooLong))
  bad_book : {refusal : Refusal} {at : ℕ} → Fits book used → FirstBad refusal at 1 (records_of (take used book))
      → AddSays book used «record» summary (Err (BadRecord refusal at))
  other : Fits book used → GoodBook (take used book) → ¬ (summary ≡ summary_of (take used book))
      → AddSays book used «record» summary (Err (Refused OtherSummary))
  bad_record : {refusal : Refusal} → Own book used summary → Refuses «record» refusal
      → AddSays book used «record» summary (Err (Refused refusal))
  too_long : Own book used summary → Readable «record» → longest < used + length «record»
      → AddSays book used «record» summary (Err (Refused TooLong))
  short : Own book used summary → Readable «record» → ¬ (longest < used + length «record»)
      → length book < used + length «record» → AddSays book used «record» summary (Err (Refused ShortOutput))
  added : Own book used summary → Readable «record» → ¬ (longest < used + length «record»)
      → ¬ (length book < used + length «record») → AddSays book used «record» summary (Ok (used + length «record»))

module _ (book : List ℕ) (used : ℕ) («record» : List ℕ) (summary : Summary) where
  -- the answer's chain from its end on
  abbrev size : ℕ
  size = used + length «record»

  abbrev own : Summary
  own = summary_of (take used book)

  abbrev roomy : AddAnswer
  roomy = ite (dec_lt (length book) size) (Err (Refused ShortOutput)) (Ok size)

  abbrev measured : AddAnswer
  measured = ite (dec_lt longest size) (Err (Refused TooLong)) roomy

  abbrev looked : AddAnswer
  looked = checked refused_with «record» measured

  abbrev compared : AddAnswer
  compared = ite (dec_same summary own) looked (Err (Refused OtherSummary))

  fitting : Fits book used → each_checked bad_in_book 1 (records_of (take used book)) compared ≡ add_answer book used «record» summary
  fitting f = sym (if_neg (dec_lt (length book) used) f.0 _ _ ∙ if_neg (dec_lt longest used) f.1 _ _)

  accepting : Fits book used → GoodBook (take used book) → compared ≡ add_answer book used «record» summary
  accepting f all = good_checked bad_in_book compared 1 (records_of (take used book)) all ∙ fitting f

  owning : Own book used summary → looked ≡ add_answer book used «record» summary
  owning o = sym (if_pos (dec_same summary own) o.2 _ _) ∙ accepting o.0 o.1

  reading : Own book used summary → Readable «record» → measured ≡ add_answer book used «record» summary
  reading o all = readable_checked refused_with «record» measured all ∙ owning o

  holding : Own book used summary → Readable «record» → ¬ (longest < size) → roomy ≡ add_answer book used «record» summary
  holding o all h = sym (if_neg (dec_lt longest size) h _ _) ∙ reading o all

  -- an answer with its cause is the answer
  pub demand1_add_answer : {answer : AddAnswer} → AddSays book used «record» summary answer
      → answer ≡ add_answer book used «record» summary
  demand1_add_answer (beyond a) = sym (if_pos (dec_lt (length book) used) a _ _)
  demand1_add_answer (long a b) = sym (if_neg (dec_lt (length book) used) a _ _ ∙ if_pos (dec_lt longest used) b _ _)
  demand1_add_answer (bad_book f first) = bad_checked bad_in_book compared 1 (records_of (take used book)) first ∙ fitting f
  demand1_add_answer (other f all not_own) = sym (if_neg (dec_same summary own) not_own _ _) ∙ accepting f all
  demand1_add_answer (bad_record o cause) = refused_checked refused_with «record» measured cause ∙ owning o
  demand1_add_answer (too_long o all h) = sym (if_pos (dec_lt longest size) h _ _) ∙ reading o all
  demand1_add_answer (short o all h l) = sym (if_pos (dec_lt (length book) size) l _ _) ∙ holding o all h
  demand1_add_answer (added o all h l) = sym (if_neg (dec_lt (length book) size) l _ _) ∙ holding o all h

  -- and each answer has its cause
  pub demand1_add_cause : AddSays book used «record» summary (add_answer book used «record» summary)
  demand1_add_cause =
      whole (dec_lt (length book) used) (dec_lt longest used) (all_sorted 1 (records_of (take used book))) (dec_same summary own)
      (sorted «record») (dec_lt longest size) (dec_lt (length book) size)
    where
      is : {answer : AddAnswer} → AddSays book used «record» summary answer
          → AddSays book used «record» summary (add_answer book used «record» summary)
      is says = subst (AddSays book used «record» summary) (demand1_add_answer says) says

      last : Own book used summary → Readable «record» → Dec (longest < size) → Dec (length book < size)
          → AddSays book used «record» summary (add_answer book used «record» summary)
      last o all (yes h) l = is (too_long o all h)
      last o all (no h) (yes l) = is (short o all h l)
      last o all (no h) (no l) = is (added o all h l)

      whole : Dec (length book < used) → Dec (longest < used) → AllSorted 1 (records_of (take used book)) → Dec (summary ≡ own)
          → Sorted «record» → Dec (longest < size) → Dec (length book < size)
          → AddSays book used «record» summary (add_answer book used «record» summary)
      whole (yes a) b c d e h l = is (beyond a)
      whole (no a) (yes b) c d e h l = is (long a b)
      whole (no a) (no b) (bad first) d e h l = is (bad_book (a, b) first)
      whole (no a) (no b) (good all) (no d) e h l = is (other (a, b) all d)
      whole (no a) (no b) (good all) (yes d) (refused cause) h l = is (bad_record ((a, b), all, d) cause)
      whole (no a) (no b) (good all) (yes d) (read one) h l = last ((a, b), all, d) one h l
