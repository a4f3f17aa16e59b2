-- M-112: how many plans there are. Each figure of the table is the number of accepted records, by one argument over n; the totals are the
-- sums of the counts; and an answer is a refusal only for a number of rooms that is not counted.
use Rattle.std.specs.Prelude.{List, ◌↔◌, ◌≡◌, ℕ, ◌≤◌, ◌<◌, Ok, Err}
use Rattle.std.proofs.Math.Logic.{if_pos}
use Rattle.std.proofs.Common.{sym, ◌∙◌}
use Rattle.finite.specs.HowMany.{HowMany, one_number}
use Rattle.finite.specs.Sum.{sum}
use Rattle.record.specs.declared.Refusal.TheVariants as refusal
use Rattle.counting.specs.Counted.{AcceptedRecord, AcceptedWithRises}
use Rattle.counting.specs.Answer.{CountAnswer, NotCounted, dec_not_counted, Reports}
use Rattle.counting.specs.Ways.{plan_count}
use Rattle.counting.proofs.Figures.{count_how_many, total_sum}
use Rattle.counting.proofs.Begun.{count_none}
use Rattle.counting.proofs.Reported.{counted_rooms, inside}

-- "Each figure is proved to be the number of accepted records, by one argument over n"; the kind of a record, a byte, is at most 255
pub m112_count_is_how_many : (n rises : ℕ) → n ≤ 255 → HowMany (AcceptedWithRises n rises) (plan_count n rises)
m112_count_is_how_many n rises few = count_how_many n rises few

-- "and the total": that of all accepted records of n rooms is the sum of the counts for 0 to n − 1 rises, for any n
pub m112_total_is_sum : (n : ℕ) (count : ℕ → ℕ) → ((rises : ℕ) → rises < n → HowMany (AcceptedWithRises n rises) (count rises))
    → HowMany (AcceptedRecord n) (sum count 0 n)
m112_total_is_sum n count many = total_sum n count many

-- no plan has as many rises as rooms
pub m112_fewer_rises_than_rooms : (n rises c : ℕ) → n ≤ 255 → n ≤ rises → HowMany (AcceptedWithRises n rises) c → c ≡ 0
m112_fewer_rises_than_rooms n rises c few h many = one_number many (count_how_many n rises few) ∙ count_none n rises h

-- "30 for n of 0 or above 17, the only check"
pub m112_refused_iff_not_counted : (n : ℕ) {P : List ℕ → Type 0} {answer : CountAnswer} → Reports n P answer
    → (answer ≡ Err refusal.NotCounted) ↔ NotCounted n
m112_refused_iff_not_counted n {P} {answer} r = (to (dec_not_counted n), λ h. r.answered ∙ if_pos (dec_not_counted n) h _ _)
  where
    to : Dec (NotCounted n) → answer ≡ Err refusal.NotCounted → NotCounted n
    to (yes h) e = h
    to (no h) e =
        let (some, few) = counted_rooms n h in
        let told = inside n r.figure some few in let answered = r.answered in cc

-- so for every other number of rooms the answer is the figure
pub m112_counted_is_answered : (n : ℕ) {P : List ℕ → Type 0} {answer : CountAnswer} → Reports n P answer → ¬ NotCounted n
    → (c : ℕ) × HowMany P c × (answer ≡ Ok c)
m112_counted_is_answered n r h =
    let (some, few) = counted_rooms n h in
    (r.figure, r.how_many, r.answered ∙ sym (inside n r.figure some few))
