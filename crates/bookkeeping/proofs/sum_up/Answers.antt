-- `bookkeeping::sum_up` meets its contract: between two turns Summing holds, which also says what one more turn leaves.
use mathlib.Core.List.{List}
use mathlib.Core.Path.{◌≡◌, sym, ap, subst, ◌∙◌}
use Prim.Native.Nat.{ℕ, ◌+◌, ◌-◌}
use native.Mathlib.Omega.{arith}
use lib.ListN.{length, take, drop, length-drop}
use lib.Seq.{take_all}
use Rattle.book.specs.Book.{front}
use Rattle.judging.specs.Judge.{Judges, Accepts}
use Rattle.std.specs.Prelude.{Err}
use Rattle.bookkeeping.specs.Found.{summary_in}
use Rattle.bookkeeping.proofs.Front.{front_taken}
use Rattle.bookkeeping.proofs.Summing.{Summing, summing_end, summing_bad, summing_next, summing_fits}
use Rattle.bookkeeping.proofs.sum_up.Goals as goal
use Rattle.bookkeeping.proofs.sum_up.Goals.{After-front_size-size, In-Ok}

-- what stands from the place on, and the part of it that is judged
rest_is : (bytes : List ℕ) (place : ℕ) → take (length bytes - place) (drop place bytes) ≡ drop place bytes
rest_is bytes place = take_all (length bytes - place) (drop place bytes) (omega (arith, length-drop place bytes))

size_is : (f : After-front_size-size) → f.front_size-size.result ≡ length (front (drop f.loop-place.place f.args.book.now))
size_is f = f.front_size-size.ensures ∙ ap length (ap front (rest_is f.args.book.now f.loop-place.place))

part_is : (bytes : List ℕ) (place : ℕ) {size : ℕ} → let rest = take (length bytes - place) (drop place bytes) in
    size ≡ length (front rest) → take size rest ≡ front (drop place bytes)
part_is bytes place e =
    let rest = take (length bytes - place) (drop place bytes) in
    ap (λ (size : ℕ). take size rest) e ∙ front_taken rest ∙ ap front (rest_is bytes place)

accepted : (c : In-Ok) → Accepts (front (drop c.loop-place.place c.args.book.now)) c.in-Ok.judged.rooms c.in-Ok.judged.falls
accepted c =
    let part = part_is c.args.book.now c.loop-place.place c.front_size-size.ensures in
    subst (λ (part : List ℕ). Accepts part c.in-Ok.judged.rooms c.in-Ok.judged.falls) part c.in-Ok.ensures

pub returns-in-Err : goal.returns-in-Err
returns-in-Err c =
    let part = part_is c.args.book.now c.loop-place.place c.front_size-size.ensures in
    summing_bad c.loop-place.invariant c.loop-place-test.true
    (subst (λ (part : List ℕ). Judges (Err c.in-Err.refusal) part) part c.in-Err.ensures)

pub with-sums-requires : goal.with-sums-requires
with-sums-requires c =
    summing_fits c.loop-place.invariant c.loop-place-test.true {judged = c.in-Ok.judged} (accepted (goal.at.with-sums-requires c).In-Ok)
    (omega (arith, c.requires))

pub loop-place-preserved : goal.loop-place-preserved
loop-place-preserved c =
    let l = c.loop-place in
    let next = summing_next l.invariant c.loop-place-test.true {judged = c.in-Ok.judged} (accepted (goal.at.loop-place-preserved c).In-Ok) in
    subst (λ (size : ℕ). Summing c.args.book.now (l.place + size) (summary_in c.with-sums.result))
    (sym (size_is (goal.at.loop-place-preserved c).After-front_size-size))
    (subst (Summing c.args.book.now (l.place + length (front (drop l.place c.args.book.now)))) (sym c.with-sums.ensures) next)

pub returns : goal.returns
returns c = summing_end c.loop-place.invariant (omega (arith, c.loop-place-test.false))
