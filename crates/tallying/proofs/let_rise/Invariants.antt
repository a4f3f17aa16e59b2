use Prim.Native.Nat.{◌+◌, ◌≤◌}
use Rattle.tallying.proofs.Counts.{Sweeping}
use Rattle.tallying.proofs.let_rise.Given as goal

abbrev pub invariant-loop-falls_left : goal.invariant-loop-falls_left
invariant-loop-falls_left l =
    (some : l.rises_left ≤ l.rises) × (few : l.rises + l.falls ≤ 16) × (flat : l.falls ≤ 8)
    × Sweeping l.rises l.falls l.rises_left some few flat l.falls_left l.planes
