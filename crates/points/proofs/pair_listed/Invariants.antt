-- `pair_listed` meets its contract: the keys looked up so far have their pairs, and in the end all.
use Rattle.std.proofs.Common.{◌≡◌, length}
use Rattle.points.specs.Listed.{number_at}
use Rattle.points.proofs.Pairing.{Partly}
use Rattle.points.proofs.pair_listed.Given as goal

abbrev pub invariant-loop-q : goal.invariant-loop-q
invariant-loop-q l = (length l.there ≡ length l.initial.there) × (length l.back ≡ length l.initial.back) × Partly (length l.here)
    (number_at l.here)
    (number_at l.sought) l.q l.there l.back
