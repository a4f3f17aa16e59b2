-- `list_keys` meets its contract: before each turn the keys before the one at hand are listed.
use Rattle.std.proofs.Common.{◌≡◌, length}
use Rattle.points.specs.Listed.{number_at, Listed}
use Rattle.points.proofs.list_keys.Given as goal

abbrev pub invariant-loop-i : goal.invariant-loop-i
invariant-loop-i l = (length l.older ≡ length l.initial.older) × Listed (length l.initial.newest) l.i (number_at l.keys) l.newest l.older
