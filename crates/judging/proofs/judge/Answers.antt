-- `judging::judge` meets its contract: what the checks before and after the walk say together.
use Rattle.std.proofs.Common.{rules, sym}
use Rattle.judging.specs.Judge.{missing_run}
use Rattle.judging.specs.Passed.{tail_length, tail_clear, end_is, end_refused}
use Rattle.judging.proofs.judge.Goals as goal

pub count_walk-requires : goal.count_walk-requires
count_walk-requires c = let b = c.in_ok-n.ensures in (b.some, b.few, tail_length b, tail_clear b)

pub returns-in_default : goal.returns-in_default
returns-in_default c = let b = c.in_ok-n.ensures in end_refused b (end_is b (sym c.in_default.ensures)) (missing_run tt)

pub returns-in_err-rooms : goal.returns-in_err-rooms
returns-in_err-rooms c =
    let b = c.in_ok-n.ensures in
    let refused = end_refused b (end_is b (sym c.in-Some.ensures.0)) c.in_err-rooms.ensures in
    search rules
