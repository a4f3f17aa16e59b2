-- `tallying::sweep` meets its contract: row by row, and no row needs one that was swept.
use native.Mathlib.Omega.{arith}
use Rattle.tallying.proofs.Rows.{row_fits, swept_more}
use Rattle.tallying.proofs.sweep.Goals as goal

pub sweep_row-requires : goal.sweep_row-requires
sweep_row-requires c = row_fits c.requires (omega arith) c.loop-i.invariant

pub loop-i-preserved : goal.loop-i-preserved
loop-i-preserved c = swept_more c.requires (omega arith) c.loop-i.invariant c.sweep_row.ensures
