-- Summing up a book: what is known at a place up to which the records are accepted, and what one more accepted record leaves.
use mathlib.Core.List.{List, ◌∷◌}
use mathlib.Core.Logic.{inr}
use mathlib.Core.Path.{◌≡◌, sym, ap, subst, ◌∙◌}
use Prim.Native.Nat.{ℕ, suc, ◌+◌, ◌-◌, ◌*◌, ◌≤◌, ◌<◌}
use native.Mathlib.Omega.{arith}
use native.Mathlib.Numerals.{add-one}
use lib.ListN.{length, drop, length-take, length-drop}
use lib.Seq.{drop-drop}
use Rattle.record.specs.Record.{triple_in}
use Rattle.record.specs.Read.{kind_of, body_of}
use Rattle.record.specs.Rises.{rises_of, falls_of, rises_and_falls}
use Rattle.record.specs.Checked.{Refuses}
use Rattle.record.specs.declared.Refusal.{Refusal}
use Rattle.book.specs.Book.{longest, size_of, front, records_of, Good, GoodBook}
use Rattle.book.specs.Summary.{Summary, held, Fits32, total, summary_of}
use Rattle.book.specs.Course.{plus}
use Rattle.book.specs.Parts.{records_none, records_next, records_on}
use Rattle.book.specs.Checks.{FirstBad, here, later}
use Rattle.judging.specs.Judge.{Accepts}
use Rattle.judging.specs.declared.Judged.{Judged}
use Rattle.bookkeeping.specs.Found.{counted_in}

-- ---- the totals of an accepted record
module _ {r : List ℕ} {n fallen : ℕ} (accepts : Accepts r n fallen) where
  -- each room but the first is a rise or a fall
  pub rises_left : (fallen + 1 ≤ n) × (n - 1 - fallen ≡ rises_of r)
  rises_left =
      let some : ¬ (kind_of r ≡ 0) = λ e. accepts.readable.kind (inr e) in
      let all = rises_and_falls (triple_in (body_of r)) (kind_of r) (omega arith) in
      (omega (arith, all, accepts.rooms_are, accepts.falls_are), omega (arith, all, accepts.rooms_are, accepts.falls_are))

pub counted_is : (s : Summary) (judged : Judged) {r : List ℕ} → Accepts r judged.rooms judged.falls → counted_in s judged ≡ plus s r
counted_is s judged accepts = λ i.
    held (s.plans + 1) (s.rooms + accepts.rooms_are i) (s.rises + (rises_left accepts).1 i) (s.falls + accepts.falls_are i)

-- ---- record by record
pub record Summing (bytes : List ℕ) (place : ℕ) (s : Summary) : Type 0 where
  pub inside : place ≤ length bytes
  pub bad_on : {refusal : Refusal} {at : ℕ} → FirstBad refusal at (suc s.plans) (records_of (drop place bytes))
      → FirstBad refusal at 1 (records_of bytes)
  pub good_on : GoodBook (drop place bytes) → GoodBook bytes
  pub plans_on : s.plans + total (λ r. 1) (records_of (drop place bytes)) ≡ total (λ r. 1) (records_of bytes)
  pub rooms_on : s.rooms + total kind_of (records_of (drop place bytes)) ≡ total kind_of (records_of bytes)
  pub rises_on : s.rises + total rises_of (records_of (drop place bytes)) ≡ total rises_of (records_of bytes)
  pub falls_on : s.falls + total falls_of (records_of (drop place bytes)) ≡ total falls_of (records_of bytes)
  pub plans_few : s.plans ≤ place
  pub rooms_few : s.rooms ≤ 255 * s.plans
  pub parts : s.rises + s.falls + s.plans ≡ s.rooms

pub summing_first : (bytes : List ℕ) → Summing bytes 0 (held 0 0 0 0)
summing_first bytes = record {
  inside = omega arith;
  bad_on = λ b. b;
  good_on = λ g. g;
  plans_on = omega arith;
  rooms_on = omega arith;
  rises_on = omega arith;
  falls_on = omega arith;
  plans_few = omega arith;
  rooms_few = omega arith;
  parts = omega arith;
}

module _ {bytes : List ℕ} {place : ℕ} {s : Summary} (now : Summing bytes place s) where
  -- at the end of the bytes all are summed up
  pub summing_end : ¬ (place < length bytes) → GoodBook bytes × (s ≡ summary_of bytes)
  summing_end h =
      let none = records_none (drop place bytes) (omega (arith, length-drop place bytes)) in
      let t = summary_of bytes in
      let plans : s.plans ≡ t.plans = omega (arith, now.plans_on, ap (total (λ r. 1)) none) in
      let rooms : s.rooms ≡ t.rooms = omega (arith, now.rooms_on, ap (total kind_of) none) in
      let rises : s.rises ≡ t.rises = omega (arith, now.rises_on, ap (total rises_of) none) in
      let falls : s.falls ≡ t.falls = omega (arith, now.falls_on, ap (total falls_of) none) in
      (now.good_on (subst Good (sym none) tt), λ i. held (plans i) (rooms i) (rises i) (falls i))

  module _ (h : place < length bytes) where
    some : 1 ≤ length (drop place bytes)
    some = omega (arith, length-drop place bytes)

    -- the record at the place is the first bad one
    pub summing_bad : {refusal : Refusal} → Refuses (front (drop place bytes)) refusal → FirstBad refusal (s.plans + 1) 1 (records_of bytes)
    summing_bad {refusal} cause =
        subst (λ (at : ℕ). FirstBad refusal at 1 (records_of bytes)) (sym (add-one s.plans))
        (now.bad_on (subst (FirstBad refusal (suc s.plans) (suc s.plans)) (sym (records_next (drop place bytes) some)) (here cause)))

    -- it is accepted
    module _ {judged : Judged} (accepts : Accepts (front (drop place bytes)) judged.rooms judged.falls) where
      abbrev one : List ℕ
      one = front (drop place bytes)

      abbrev next : ℕ
      next = place + length one

      two : records_of (drop place bytes) ≡ one ∷ records_of (drop next bytes)
      two = records_on (drop place bytes) some accepts.readable ∙ ap (λ (rest : List ℕ). one ∷ records_of rest) (drop-drop (length one) place bytes)

      pub summing_moves : place < next
      summing_moves = omega (arith, some, length-take (size_of (drop place bytes)) (drop place bytes))

      pub summing_next : Summing bytes next (counted_in s judged)
      summing_next = record {
        inside = omega (arith, length-take (size_of (drop place bytes)) (drop place bytes), length-drop place bytes);
        bad_on = λ {refusal} {at} b.
            now.bad_on (subst (FirstBad refusal at (suc s.plans)) (sym two)
            (later accepts.readable (subst (λ (k : ℕ). FirstBad refusal at (suc k) (records_of (drop next bytes))) (add-one s.plans) b)));
        good_on = λ g. now.good_on (subst Good (sym two) (accepts.readable, g));
        plans_on = omega (arith, now.plans_on, ap (total (λ r. 1)) two);
        rooms_on = omega (arith, now.rooms_on, ap (total kind_of) two, accepts.rooms_are);
        rises_on = omega (arith, now.rises_on, ap (total rises_of) two, (rises_left accepts).1);
        falls_on = omega (arith, now.falls_on, ap (total falls_of) two, accepts.falls_are);
        plans_few = omega (arith, now.plans_few, summing_moves);
        rooms_few = omega (arith, now.rooms_few, accepts.few);
        parts = omega (arith, now.parts, (rises_left accepts).0);
      }

      pub summing_fits : length bytes ≤ longest → (judged.falls + 1 ≤ judged.rooms) × Fits32 (counted_in s judged)
      summing_fits short =
          let n = summing_next in
          let plans : (counted_in s judged).plans ≤ 65535 = omega (arith, n.inside, n.plans_few) in
          let rooms : (counted_in s judged).rooms ≤ 255 * 65535 = omega (arith, n.rooms_few) in
          ((rises_left accepts).0, (omega arith, omega arith, omega (arith, n.parts), omega (arith, n.parts)))
