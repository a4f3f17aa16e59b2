use Prim.Native.Nat.{◌+◌, ◌*◌}
use Rattle.encoding.proofs.Passed.{Passed}
use Rattle.encoding.proofs.encode.Given as goal

abbrev pub invariant-loop-i : goal.invariant-loop-i
invariant-loop-i l = Passed l.labels (8 * l.m + l.i) l.seen l.below l.above l.runs_below l.runs_above l.last.0 l.«record»

abbrev pub invariant-loop-m : goal.invariant-loop-m
invariant-loop-m l = Passed l.labels (8 * l.m) l.seen l.below l.above l.runs_below l.runs_above l.last.0 l.«record»
