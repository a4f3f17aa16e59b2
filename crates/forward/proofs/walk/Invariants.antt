use Rattle.std.proofs.Common.{suc}
use Rattle.record.specs.Way.{up, down}
use Rattle.record.specs.Record.{triple_in}
use Rattle.steps.specs.Passes.{Unpacked}
use Rattle.forward.proofs.Count.{Counted}
use Rattle.forward.proofs.Starts.{Placed}
use Rattle.forward.proofs.walk.Given as goal

abbrev pub invariant-loop-k : goal.invariant-loop-k
invariant-loop-k l = record {
  sizes : Counted (triple_in l.body) l.k l.notes.lower l.below l.above l.runs.below l.runs.above l.size;
  lefts : Placed (triple_in l.body) l.k down l.left l.newest_below l.runs.below;
  bottoms : Placed (triple_in l.body) l.k up l.bottom l.newest_above l.runs.above;
  unpacked : Unpacked (triple_in l.body) (suc l.k) l.notes.triples;
}
