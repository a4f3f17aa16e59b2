-- `numbers::read` meets its contract. Between two turns Passing says what is noted, what the next byte leaves of it, and what it comes to.
use mathlib.Core.List.{List}
use mathlib.Core.Path.{◌≡◌, refl, subst}
use Prim.Native.Nat.{ℕ, ◌+◌, ◌≤◌}
use native.Mathlib.Omega.{arith}
use borrow.Author.Rules.{rules}
use lib.ListN.{length, set, drop}
use Rattle.std.specs.Prelude.{Err}
use Rattle.numbers.specs.Places.{Reached}
use Rattle.numbers.specs.Store.{many}
use Rattle.numbers.proofs.Passing.{Passing, passing_none, passing_turn, passing_standing, passing_refused, passing_many, passing_listed, reached_end, rest_of}
use Rattle.numbers.proofs.read.Goals as goal
use Rattle.numbers.proofs.read.Goals.{After-begins-count, After-last_place}

-- one byte more
turned : (c : After-begins-count)
    → Passing c.args.line.now (c.loop-i.i + 1) c.place_after-place.result (c.loop-i.count + c.begins-count.result)
    (set c.loop-i.starts c.loop-i.count c.loop-i.i)
turned c =
    passing_turn c.loop-i.invariant.0 c.loop-i-test.true (omega (arith, c.loop-i.invariant.1)) c.place_after-place.ensures
    c.begins-count.ensures.0 c.begins-count.ensures.1

-- where the rest of the line leads, from the next byte on
ended : (c : After-last_place)
    → Reached c.place_after-place.result (drop (c.loop-i.i + 1) c.args.line.now) c.last_place.result
ended c =
    subst (λ (rest : List ℕ). Reached c.place_after-place.result rest c.last_place.result) (rest_of c.args.line.now (c.loop-i.i + 1))
    c.last_place.ensures

pub loop-i-init : goal.loop-i-init
loop-i-init c = (passing_none c.args.line.now _ refl, omega arith)

pub loop-i-preserved : goal.loop-i-preserved
loop-i-preserved c = (
  turned (goal.at.loop-i-preserved c).After-begins-count,
  omega (arith, c.loop-i.invariant.1, c.begins-count.ensures.1, c.if-count-eq256.false),
)

pub last_place-requires : goal.last_place-requires
last_place-requires c = passing_standing (turned (goal.at.last_place-requires c).After-begins-count)

pub returns-in_err-may_end : goal.returns-in_err-may_end
returns-in_err-may_end c =
    let same : c.from_residual.result ≡ Err c.in_err-may_end.field-0.0 = search rules in
    let at = goal.at.returns-in_err-may_end c in
    rw same (passing_refused (turned at.After-begins-count) (ended at.After-last_place) c.in_err-may_end.ensures)

pub returns-then-count-eq256 : goal.returns-then-count-eq256
returns-then-count-eq256 c =
    let at = goal.at.returns-then-count-eq256 c in
    let (done, above) =
    passing_many (turned at.After-begins-count) (ended at.After-last_place) c.in_ok-may_end.ensures.0 c.in_ok-may_end.ensures.1 (omega (arith, c.if-count-eq256.true)) in
    many done above

pub returns-in_err-may_end-2 : goal.returns-in_err-may_end-2
returns-in_err-may_end-2 c =
    let same : c.from_residual-in_err-may_end-2.result ≡ Err c.in_err-may_end-2.field-0.0 = search rules in
    let reached = reached_end c.args.line.now c.loop-i.i c.loop-i.place (omega (arith, c.loop-i-test.false)) in
    rw same (passing_refused c.loop-i.invariant.0 reached c.in_err-may_end-2.ensures)

pub returns : goal.returns
returns c =
    let all : length c.args.line.now ≤ c.loop-i.i = omega (arith, c.loop-i-test.false) in
    let reached = reached_end c.args.line.now c.loop-i.i c.loop-i.place all in
    passing_listed c.loop-i.invariant.0 reached c.in_ok-may_end-2.ensures.0 c.in_ok-may_end-2.ensures.1 all c.loop-i.invariant.1
    c.read_labels.ensures
