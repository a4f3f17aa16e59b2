-- The records of a book, each checked: the first bad one with its ordinal, or all are accepted.
use Rattle.std.specs.Prelude.{List, [], ◌∷◌, ◌≡◌, refl, ℕ, zero, suc, ◌+◌, ◌-◌, ◌≤◌, ◌<◌, length, get_or}
use Rattle.std.proofs.Common.{subst, ◌∙◌, arith}
use Rattle.record.specs.Checked.{Readable, Refuses, Sorted, refused, read, sorted, refused_checked, readable_checked}
use Rattle.record.specs.declared.Refusal.{Refusal}
use Rattle.book.specs.Book.{Good}
use Rattle.book.specs.Answer.{each_checked}

-- among records of which the first has this ordinal: the first bad one, its refusal with its cause, and `at`, its ordinal
pub data FirstBad (refusal : Refusal) (at : ℕ) : (ordinal : ℕ) → List (List ℕ) → Type 0 where
  here : {r : List ℕ} {rs : List (List ℕ)} → Refuses r refusal → FirstBad refusal at at (r ∷ rs)
  later : {ordinal : ℕ} {r : List ℕ} {rs : List (List ℕ)} → Readable r → FirstBad refusal at (suc ordinal) rs
      → FirstBad refusal at ordinal (r ∷ rs)

module _ {A : Type 0} (refuse : Refusal → ℕ → A) (good : A) where
  -- the checks give the first bad record
  pub bad_checked : {refusal : Refusal} {at : ℕ} (ordinal : ℕ) (rs : List (List ℕ)) → FirstBad refusal at ordinal rs
      → refuse refusal at ≡ each_checked refuse ordinal rs good
  bad_checked ordinal [] first = elim first [ ]
  bad_checked ordinal (r ∷ rs) (here cause) =
      refused_checked (λ refusal. refuse refusal ordinal) r (each_checked refuse (suc ordinal) rs good) cause
  bad_checked ordinal (r ∷ rs) (later all bad) =
      bad_checked (suc ordinal) rs bad
      ∙ readable_checked (λ refusal. refuse refusal ordinal) r (each_checked refuse (suc ordinal) rs good) all

  -- and where all are accepted what follows
  pub good_checked : (ordinal : ℕ) (rs : List (List ℕ)) → Good rs → good ≡ each_checked refuse ordinal rs good
  good_checked ordinal [] all = refl
  good_checked ordinal (r ∷ rs) all =
      good_checked (suc ordinal) rs all.1
      ∙ readable_checked (λ refusal. refuse refusal ordinal) r (each_checked refuse (suc ordinal) rs good) all.0

-- each list of records has a first bad one, or all are accepted
pub data AllSorted (ordinal : ℕ) (rs : List (List ℕ)) : Type 0 where
  bad : {refusal : Refusal} {at : ℕ} → FirstBad refusal at ordinal rs → AllSorted ordinal rs
  good : Good rs → AllSorted ordinal rs

pub all_sorted : (ordinal : ℕ) (rs : List (List ℕ)) → AllSorted ordinal rs
all_sorted ordinal [] = good tt
all_sorted ordinal (r ∷ rs) = go (sorted r) (all_sorted (suc ordinal) rs)
  where
    go : Sorted r → AllSorted (suc ordinal) rs → AllSorted ordinal (r ∷ rs)
    go (refused cause) rest = bad (here cause)
    go (read all) (bad b) = bad (later all b)
    go (read all) (good g) = good (all, g)

-- ---- which record the first bad one is
module _ {refusal : Refusal} {at : ℕ} where
  -- its ordinal is that of a record
  pub first_bad→ordinal : {ordinal : ℕ} {rs : List (List ℕ)} → FirstBad refusal at ordinal rs → (ordinal ≤ at) × (at < ordinal + length rs)
  first_bad→ordinal (here cause) = (omega arith, omega arith)
  first_bad→ordinal (later all rest) = let within = first_bad→ordinal rest in (omega (arith, within.0), omega (arith, within.1))

  -- the record with that ordinal is refused
  pub first_bad→refuses : {ordinal : ℕ} {rs : List (List ℕ)} → FirstBad refusal at ordinal rs → Refuses (get_or rs (at - ordinal) []) refusal
  first_bad→refuses {rs = []} first = elim first [ ]
  first_bad→refuses {rs = (r ∷ rs)} (here cause) =
      let none : 0 ≡ at - at = omega arith in
      subst (λ (k : ℕ). Refuses (get_or (r ∷ rs) k []) refusal) none cause
  first_bad→refuses {ordinal = ordinal} {rs = (r ∷ rs)} (later all rest) =
      subst (λ (k : ℕ). Refuses (get_or (r ∷ rs) k []) refusal) (on (first_bad→ordinal rest).0) (first_bad→refuses rest)
    where
      on : suc ordinal ≤ at → suc (at - suc ordinal) ≡ at - ordinal
      on h = omega arith

  -- and all before it are accepted
  pub first_bad→before : {ordinal : ℕ} {rs : List (List ℕ)} → FirstBad refusal at ordinal rs → (j : ℕ) → j < at - ordinal
      → Readable (get_or rs j [])
  first_bad→before (here cause) j h = absurd (omega arith)
  first_bad→before (later all rest) zero h = all
  first_bad→before (later all rest) (suc j) h = first_bad→before rest j (omega arith)
