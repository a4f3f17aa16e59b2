use Rattle.std.proofs.Common.{◌+◌, ◌*◌}
use Rattle.record.specs.Record.{triple_in}
use Rattle.judging.specs.Packed.{Packs}
use Rattle.judging.proofs.eight_steps.Given as goal

abbrev pub invariant-loop-i : goal.invariant-loop-i
invariant-loop-i l = Packs (triple_in l.body) (8 * l.m + l.i) l.tally
