-- Reading on from a place: what the part is that it hands back, and which records it goes through.
use Rattle.std.specs.Prelude.{List, [], ◌∷◌, ◌++◌, ◌≢◌, ◌≡◌, refl, ℕ, zero, suc, ◌+◌, ◌≤◌, ◌<◌, length, take, drop, Some, None, Ok, Err}
use Rattle.std.proofs.Common.{append_assoc, inl, inr, sym, ap, ap₂, subst, ◌∙◌, arith, length-take, length-drop, take-append-drop, drop-drop, length-take-le}
use Rattle.std.proofs.lemmas.List.{drop-append-le}
use Rattle.std.proofs.Math.Seq.{take-append_seam, length-slice}
use Rattle.finite.specs.Decide.{eq_or_ne}
use Rattle.record.specs.Checked.{checked, Readable, Refuses}
use Rattle.record.specs.declared.Refusal.{Refusal}
use Rattle.book.specs.Book.{longest, size_of, front, behind, records_of, Good, GoodBook}
use Rattle.book.specs.Answer.{NextAnswer, Beyond, rest_at, record_at, next_answer, part_for}
use Rattle.book.specs.Course.{ReadsOn, ended, goes_on}
use Rattle.book.specs.Parts.{records_none, records_next, records_on, size_is}
use Rattle.book.specs.Demand1 as says
use Rattle.book.specs.Demand1.{Inside, NextSays, next_judged, demand1_next_cause, demand1_next_answer}
use Rattle.book.specs.declared.BookError.TheVariants.{BadRecord, Refused}

-- ---- places inside the used part
pub inside : (book : List ℕ) (used place : ℕ) → used ≤ length book → used ≤ longest → place ≤ used → Inside book used place
inside book used place lent short h = (not_beyond, omega arith)
  where
    not_beyond : ¬ Beyond (length book) used place
    not_beyond (inl l) = omega arith
    not_beyond (inr l) = omega arith

pub inside→lent : (book : List ℕ) (used place : ℕ) → Inside book used place → used ≤ length book
inside→lent book used place i = let h : ¬ (length book < used) = λ l. i.0 (inl l) in omega arith

pub inside→place : (book : List ℕ) (used place : ℕ) → Inside book used place → place ≤ used
inside→place book used place i = let h : ¬ (used < place) = λ l. i.0 (inr l) in omega arith

module _ (book : List ℕ) (used place : ℕ) (lent : used ≤ length book) where
  -- the bytes from the place on are the rest of the used part, and those behind it
  from_place : place ≤ used → drop place book ≡ rest_at book used place ++ drop used book
  from_place h =
      ap (drop place) (sym (take-append-drop used book))
      ∙ drop-append-le place (take used book) (drop used book) (omega (arith, length-take-le used book lent))

  -- so the part of the record's length is the record
  pub part_is_record : place ≤ used → take (length (record_at book used place)) (drop place book) ≡ record_at book used place
  part_is_record h =
      let rest = rest_at book used place in
      let size = size_of rest in
      let on = drop size rest in
      ap (take (length (front rest)))
      (from_place h ∙ ap (λ (b : List ℕ). b ++ drop used book) (sym (take-append-drop size rest))
      ∙ append_assoc (front rest) on (drop used book))
      ∙ take-append_seam (front rest) (on ++ drop used book)

-- ---- what an answer tells
module _ (book : List ℕ) (used place : ℕ) where
  -- a record of this length is at the place
  pub record IsRecord (size : ℕ) : Type 0 where
    pub inside_book : Inside book used place
    pub less : place ≢ used
    pub good : Readable (record_at book used place)
    pub long : length (record_at book used place) ≡ size

  abbrev Told : NextAnswer → Type 0
  Told (Ok (Some size)) = IsRecord size
  Told (Ok None) = place ≡ used
  Told (Err (BadRecord refusal ordinal)) = Refuses (record_at book used place) refusal × (ordinal ≡ 1)
  Told (Err (Refused refusal)) = Unit

  told : {answer : NextAnswer} → NextSays book used place answer → Told answer
  told (says.beyond a) = tt
  told (says.long a b) = tt
  told (says.end i at) = at
  told (says.bad_record i less cause) = (cause, refl)
  told (says.next i less all) = record { inside_book = i; less = less; good = all; long = refl }

  pub is_record : (size : ℕ) → next_answer book used place ≡ Ok (Some size) → IsRecord size
  is_record size e = subst Told e (told (demand1_next_cause book used place))

  pub is_end : next_answer book used place ≡ Ok None → place ≡ used
  is_end e = subst Told e (told (demand1_next_cause book used place))

  pub is_bad : (refusal : Refusal) (ordinal : ℕ) → next_answer book used place ≡ Err (BadRecord refusal ordinal)
      → Refuses (record_at book used place) refusal × (ordinal ≡ 1)
  is_bad refusal ordinal e = subst Told e (told (demand1_next_cause book used place))

  -- the part that is handed back is the record at the place
  pub part_is : (size : ℕ) → next_answer book used place ≡ Ok (Some size) → part_for (Ok (Some size)) book place ≡ record_at book used place
  part_is size e =
      let is = is_record size e in
      ap (λ (n : ℕ). take n (drop place book)) (sym is.long)
      ∙ part_is_record book used place (inside→lent book used place is.inside_book) (inside→place book used place is.inside_book)

  -- which ends within the used part
  pub record_ends : (size : ℕ) → next_answer book used place ≡ Ok (Some size) → place + size ≤ used
  record_ends size e =
      let is = is_record size e in
      let rest = rest_at book used place in
      omega (
        arith,
        is.long,
        length-take (size_of rest) rest,
        inside→place book used place is.inside_book,
        length-slice place used book (inside→lent book used place is.inside_book),
      )

-- ---- two books
-- with the same record at a place: the same answer
pub next_same_record : (book other : List ℕ) (used used-other place place_other : ℕ)
    → used ≤ length book → used ≤ longest → place < used
    → used-other ≤ length other → used-other ≤ longest → place_other < used-other
    → record_at book used place ≡ record_at other used-other place_other
    → next_answer book used place ≡ next_answer other used-other place_other
next_same_record book other used used-other place place_other lent short less lent_other short-other less_other same =
    sym (next_judged book used place (inside book used place lent short (omega arith)) (omega arith))
    ∙ ap (λ (r : List ℕ). checked (λ refusal. Err (BadRecord refusal 1)) r (Ok (Some (length r)))) same
    ∙ next_judged other used-other place_other (inside other used-other place_other lent_other short-other (omega arith)) (omega arith)

-- with the same bytes from the place to the end of the used part: the same answer
module _ (book other : List ℕ) (used place : ℕ) (lent : used ≤ length book) (lent_other : used ≤ length other) where
  not_beyond_other : ¬ Beyond (length book) used place → ¬ Beyond (length other) used place
  not_beyond_other within (inl l) = omega arith
  not_beyond_other within (inr l) = within (inr l)

  pub next_same_rest : rest_at book used place ≡ rest_at other used place → next_answer book used place ≡ next_answer other used place
  next_same_rest same = demand1_next_answer other used place (go (demand1_next_cause book used place))
    where
      go : {answer : NextAnswer} → NextSays book used place answer → NextSays other used place answer
      go (says.beyond (inl l)) = absurd (omega arith)
      go (says.beyond (inr l)) = says.beyond (inr l)
      go (says.long a b) = says.long (not_beyond_other a) b
      go (says.end i at) = says.end (not_beyond_other i.0, i.1) at
      go (says.bad_record {refusal} i less cause) =
          says.bad_record (not_beyond_other i.0, i.1) less (subst (λ (rest : List ℕ). Refuses (front rest) refusal) same cause)
      go (says.next i less all) =
          subst (λ (rest : List ℕ). NextSays other used place (Ok (Some (length (front rest))))) (sym same)
          (says.next (not_beyond_other i.0, i.1) less (subst (λ (rest : List ℕ). Readable (front rest)) same all))

-- ---- from record to record
module _ (book : List ℕ) (used : ℕ) (lent : used ≤ length book) where
  no_records : (place : ℕ) → place ≡ used → records_of (rest_at book used place) ≡ []
  no_records place e = records_none (rest_at book used place) (omega (arith, length-slice place used book lent))

  -- the records from a place on: the one there, and those from its end on
  records_from : (place size : ℕ) → 1 ≤ length (rest_at book used place) → Readable (record_at book used place)
      → length (record_at book used place) ≡ size
      → records_of (rest_at book used place) ≡ record_at book used place ∷ records_of (rest_at book used (place + size))
  records_from place size some good long =
      records_on (rest_at book used place) some good
      ∙ ap (λ (bytes : List ℕ). record_at book used place ∷ records_of bytes)
      (ap (λ (n : ℕ). drop n (rest_at book used place)) long ∙ drop-drop size place (take used book))

  module _ (short : used ≤ longest) where
    at_end : (place : ℕ) → place ≡ used → ReadsOn book used place (records_of (rest_at book used place))
    at_end place e =
        subst (ReadsOn book used place) (sym (no_records place e))
        (ended (sym (demand1_next_answer book used place (says.end (inside book used place lent short (omega arith)) e))))

    -- reading on from a place goes through the records from there on, if they are accepted
    from : (most place : ℕ) → used ≤ place + most → place ≤ used → GoodBook (rest_at book used place)
        → ReadsOn book used place (records_of (rest_at book used place))
    from zero place m h good = at_end place (omega arith)
    from (suc most) place m h good = elim (eq_or_ne place used) [
      | inl e ↦ at_end place e
      | inr less ↦
          let rest = rest_at book used place in
          let size = length (record_at book used place) in
          let some = length-slice place used book lent in
          let both : Good (front rest ∷ records_of (behind rest)) = subst Good (records_next rest (omega arith)) good in
          let two = records_from place size (omega arith) both.0 refl in
          let is : next_answer book used place ≡ Ok (Some size) =
          sym (demand1_next_answer book used place (says.next (inside book used place lent short h) less both.0)) in
          let next_end : (1 ≤ size) × (place + size ≤ used) =
          (omega (arith, size_is both.0), omega (arith, length-take (size_of rest) rest)) in
          subst (ReadsOn book used place)
          (ap (λ (r : List ℕ). r ∷ records_of (rest_at book used (place + size))) (part_is book used place size is) ∙ sym two)
          (goes_on is (from most (place + size) (omega (arith, next_end.0)) next_end.1 (subst Good two good).1))
    ]

    pub reads_on : GoodBook (take used book) → ReadsOn book used 0 (records_of (take used book))
    reads_on good = from used 0 (omega arith) (omega arith) good

-- and what reading on goes through are the records from the place on, all of them accepted
pub read_through : (book : List ℕ) (used place : ℕ) (records : List (List ℕ)) → ReadsOn book used place records
    → Good records × (records ≡ records_of (rest_at book used place))
read_through book used place [] (ended e) = (tt, sym (records_none (rest_at book used place) none))
  where
    none : length (rest_at book used place) ≡ 0
    none = omega (arith, length-drop place (take used book), length-take used book, is_end book used place e)
read_through book used place (r ∷ rs) (goes_on {size = size} e on) =
    let is = is_record book used place size e in
    let rest = rest_at book used place in
    let lent = inside→lent book used place is.inside_book in
    let others = read_through book used (place + size) rs on in
    let some : 1 ≤ length rest = omega (arith, size_is is.good, length-take (size_of rest) rest) in
    let part = part_is book used place size e in (
      (subst Readable (sym part) is.good, others.0),
      ap₂ (λ (one : List ℕ) (others : List (List ℕ)). one ∷ others) part others.1
          ∙ sym (records_from book used lent place size some is.good is.long),
    )
