-- `bookkeeping::next_answer` meets its contract: each answer is given with its cause.
use mathlib.Core.Logic.{inl, inr}
use mathlib.Core.Path.{◌≡◌, ap, subst, ◌∙◌}
use Prim.Native.Nat.{ℕ, ◌-◌}
use native.Mathlib.Omega.{arith}
use mathlib.Core.List.{List}
use lib.ListN.{length, take, drop}
use Rattle.book.specs.Book.{front}
use Rattle.book.specs.Answer.{Beyond, record_at}
use Rattle.book.specs.Demand1.{bad_record, next, demand1_next_answer}
use Rattle.std.specs.Prelude.{Some, Ok, Err}
use Rattle.judging.specs.Judge.{Judges, Accepts}
use Rattle.bookkeeping.proofs.Front.{rest_is, record_is}
use Rattle.bookkeeping.proofs.next_answer.Goals as goal
use Rattle.bookkeeping.proofs.next_answer.Goals.{After-judge, Else-used-place}

-- the used length and the place lie inside
inside : (e : Else-used-place) → ¬ Beyond (length e.args.book.now) e.args.used e.args.place
inside e (inl h) = omega (arith, e.if-book-used.false)
inside e (inr h) = omega (arith, e.if-used-place.false)

-- the part that is judged is the record at the place
part_is : (j : After-judge) → let s = j.args in
    take j.front_size-size.result (take (s.used - s.place) (drop s.place s.book.now)) ≡ record_at s.book.now s.used s.place
part_is j =
    let s = j.args in
    let rest = take (s.used - s.place) (drop s.place s.book.now) in
    ap (λ (size : ℕ). take size rest) j.front_size-size.ensures ∙ record_is s.book.now s.used s.place

pub returns-in-Err : goal.returns-in-Err
returns-in-Err c =
    let s = c.args in
    demand1_next_answer s.book.now s.used s.place
    (bad_record (inside (goal.at.returns-in-Err c).Else-used-place, omega (arith, c.if-used-gt65535.false)) c.if-place-used.false
    (subst (λ (part : List ℕ). Judges (Err c.in-Err.refusal) part) (part_is (goal.at.returns-in-Err c).After-judge) c.in-Err.ensures))

pub returns-in-Ok : goal.returns-in-Ok
returns-in-Ok c =
    let s = c.args in
    let judged = c.in-Ok.field-0 in
    let accepts = subst (λ (part : List ℕ). Accepts part judged.rooms judged.falls) (part_is (goal.at.returns-in-Ok c).After-judge) c.in-Ok.ensures in
    ap (λ (size : ℕ). Ok (Some size)) (c.front_size-size.ensures ∙ ap length (ap front (rest_is s.book.now s.used s.place)))
    ∙ demand1_next_answer s.book.now s.used s.place
    (next (inside (goal.at.returns-in-Ok c).Else-used-place, omega (arith, c.if-used-gt65535.false)) c.if-place-used.false accepts.readable)
