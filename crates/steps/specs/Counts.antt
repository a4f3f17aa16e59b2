-- The counts of runs as the code has them.
use Rattle.std.specs.Prelude.{ℕ, zero, suc, Option, Some, None}
use Rattle.record.specs.Walk.{Counts, missing, counts}
use Rattle.steps.specs.declared.Raised.{Raised}
use Rattle.steps.specs.declared.Runs.{Runs}

abbrev pub end_counts : Option Runs → Counts
end_counts (Some runs) = counts runs.below runs.above
end_counts None = missing

-- counts without the 2 that was added to each; less than none there cannot be, and a run is missing
unfoldable pub less : (below above : ℕ) → Counts
less (suc (suc below)) (suc (suc above)) = counts below above
less (suc (suc below)) (suc zero) = missing
less (suc (suc below)) zero = missing
less (suc zero) above = missing
less zero above = missing

abbrev pub lowered : Raised → Counts
lowered raised = less raised.0 raised.1
