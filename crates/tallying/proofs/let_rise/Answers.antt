-- `tallying::let_rise` meets its contract: plane after plane is swept, and none needs one that comes later.
use native.Mathlib.Omega.{arith}
use Rattle.tallying.proofs.Counts.{rise_fits, sweeping_next}
use Rattle.tallying.proofs.let_rise.Goals as goal

pub sweep-requires : goal.sweep-requires
sweep-requires c =
    let (some, few, flat, s) = c.loop-falls_left.invariant in
    rise_fits _ _ _ some few flat s (omega arith) c.min-below.ensures c.min-above.ensures

pub loop-falls_left-preserved : goal.loop-falls_left-preserved
loop-falls_left-preserved c =
    let (some, few, flat, s) = c.loop-falls_left.invariant in
    (some, few, flat, sweeping_next _ _ _ some few flat s (omega arith) c.min-below.ensures c.min-above.ensures c.sweep.ensures)
