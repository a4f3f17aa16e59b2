-- `packing::zero_size` meets its contract: a list has a 0 exactly if its least number is one.
use lib.Dec.{eqb}
use Rattle.finite.specs.Decide.{tells_equal, tells_iff}
use Rattle.sizes.specs.Lists.{some_way}
use Rattle.packing.proofs.Zero.{least_zero, zero_least}
use Rattle.packing.proofs.zero_size.Goals as goal

pub returns : goal.returns
returns c =
    let width = c.lowest-width in
    let height = c.lowest-height in
    some_way _ (eqb width.result 0) (eqb height.result 0)
    (tells_iff _ _ (eqb width.result 0) (least_zero c.args.widths.now c.requires.0 width.ensures) (zero_least c.args.widths.now width.ensures) (tells_equal width.result 0))
    (tells_iff _ _ (eqb height.result 0) (least_zero c.args.heights.now c.requires.1 height.ensures) (zero_least c.args.heights.now height.ensures) (tells_equal height.result 0))
