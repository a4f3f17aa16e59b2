-- `replaying::judge` meets its contract: between two turns Held holds, and its laws say what a turn makes of it.
use mathlib.Core.Path.{refl}
use native.Mathlib.Omega.{arith}
use Rattle.replaying.proofs.Turning.{stands_fit}
use Rattle.replaying.proofs.Judging.{held_first, after_as, turn_adds, turn_goes_back, held_stopped, held_ended}
use Rattle.replaying.proofs.judge.Goals as goal
use Rattle.replaying.proofs.judge.Goals.{in-Added, in-Back}

pub loop-at-init : goal.loop-at-init
loop-at-init c = held_first _ _ refl refl

pub made-requires-clause-fits : goal.made-requires-clause-fits
made-requires-clause-fits c = stands_fit c.loop-at.invariant.stands

pub runs-requires : goal.runs-requires
runs-requires c = stands_fit c.loop-at.invariant.stands

pub returns-in-Err : goal.returns-in-Err
returns-in-Err c =
    let h = c.loop-at.invariant in
    held_stopped h (c.in-Err.ensures h.present h.stands h.kept_are) c.runs.ensures

pub overflow_cast-kept : goal.overflow_cast-kept
overflow_cast-kept c =
    let h = c.loop-at.invariant in
    let adds = turn_adds h (c.in-Ok.ensures h.present h.stands h.kept_are) c.in-Added.is in
    record { fits = omega (arith, adds.1) }

pub bounds-kept-next : goal.bounds-kept-next
bounds-kept-next c =
    let h = c.loop-at.invariant in
    let adds = turn_adds h (c.in-Ok.ensures h.present h.stands h.kept_are) c.in-Added.is in
    omega (arith, adds.0)

pub loop-at-preserved : goal.loop-at-preserved
loop-at-preserved c =
    let h = c.loop-at.invariant in
    let told = c.in-Ok.ensures h.present h.stands h.kept_are in
    elim c.match-turn.branch [
      | in-Added w ↦ (after_as (turn_adds h told w.in-Added.is).2 w.kept-is w.at-is w.plan-is).held
      | in-Back w ↦ (after_as (turn_goes_back h told w.in-Back.is) w.kept-is w.at-is w.plan-is).held
    ]

pub runs-requires-2 : goal.runs-requires-2
runs-requires-2 c = stands_fit c.loop-at.invariant.stands

pub returns : goal.returns
returns c = held_ended c.loop-at.invariant c.loop-at-test.false c.runs-2.ensures
