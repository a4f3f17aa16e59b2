use Rattle.std.proofs.Common.{◌*◌}
use Rattle.record.specs.Record.{triple_in}
use Rattle.judging.specs.Packed.{Packs}
use Rattle.judging.proofs.walk_words.Given as goal

abbrev pub invariant-loop-m : goal.invariant-loop-m
invariant-loop-m l = Packs (triple_in l.body) (8 * l.m) l.tally
