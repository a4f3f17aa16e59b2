-- `areas` meets its contract: each area fits, and is one more summand.
use Rattle.std.proofs.Common.{arith, sym}
use Rattle.finite.specs.SumBelow.{sum_none}
use Rattle.rooms.specs.Lists.{room_at}
use Rattle.checks.specs.Area.{area_of}
use Rattle.checks.proofs.Places.{corners_wide_and_tall}
use Rattle.checks.proofs.Scan.{sum_more}
use Rattle.checks.proofs.areas.Goals as goal

pub loop-i-init : goal.loop-i-init
loop-i-init c = (sym (sum_none _), omega arith)

pub area-total-requires : goal.area-total-requires
area-total-requires c =
    let sides = corners_wide_and_tall c.args.lists.now c.requires c.loop-i.i (omega (arith, c.len-i-end.ensures, c.loop-i-test.true)) in
    rw c.room.ensures (omega arith)

pub loop-i-preserved : goal.loop-i-preserved
loop-i-preserved c =
    let more = sum_more (λ k. area_of (room_at c.args.lists.now k)) c.loop-i.i in
    let size = rw c.room.ensures at c.area-total.ensures.0 in
    (omega arith, omega (arith, c.area-total.ensures.1))
