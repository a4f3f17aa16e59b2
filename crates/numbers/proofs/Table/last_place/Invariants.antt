use Prim.Native.Nat.{ℕ}
use lib.ListN.{drop}
use Rattle.numbers.specs.Places.{Standing, Reached}
use Rattle.numbers.proofs.Table.last_place.Given as goal

abbrev pub invariant-loop-byte : goal.invariant-loop-byte
invariant-loop-byte l = Standing l.place × ((end : ℕ) → Reached l.place (drop l.byte-index l.rest) end → Reached l.before l.rest end)
