use Rattle.std.proofs.Common.{◌≡◌, length, get_or}
use Rattle.finite.specs.Marks.{Marks}
use Rattle.finite.specs.Search.{Some}
use Rattle.naming.specs.Twice.{Again}
use Rattle.naming.specs.Seen.{SeenIn}
use Rattle.naming.proofs.twice_in_bits.Given as goal

abbrev pub invariant-loop-name : goal.invariant-loop-name
invariant-loop-name g l = (length l.seen ≡ g.row.WORDS) × SeenIn (λ k. get_or l.names k 0) l.name-index g.row.WORDS l.seen
    × Marks l.found (Some (Again (λ k. get_or l.names k 0)) 0 l.name-index)
