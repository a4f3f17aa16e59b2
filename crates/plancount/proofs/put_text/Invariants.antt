-- `put_text`: the lines of fewer rooms are put, and then those of n rooms with fewer rises.
use Rattle.std.proofs.Common.{◌≡◌, ◌++◌, ◌+◌, ◌*◌, ◌-◌, ◌≤◌, length}
use Rattle.counting.specs.Ways.{plan_count}
use Rattle.plancount.specs.Text.{lines_of, up_to}
use Rattle.plancount.proofs.put_text.Given as goal

abbrev pub invariant-loop-n : goal.invariant-loop-n
invariant-loop-n l = record {
  put : l.text.items ≡ up_to plan_count (l.n - 1);
  short : length l.text.items ≤ 561 * (l.n - 1);
}

abbrev pub invariant-loop-rises : goal.invariant-loop-rises
invariant-loop-rises l = record {
  put : l.text.items ≡ up_to plan_count (l.n - 1) ++ lines_of plan_count l.n l.rises;
  short : length l.text.items ≤ 561 * (l.n - 1) + 33 * l.rises;
}
