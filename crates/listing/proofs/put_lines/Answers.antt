-- `put_lines`: after i turns the lines of the first i positions are put.
use Rattle.std.proofs.Common.{arith}
use Rattle.record.specs.Labels.{label_at}
use Rattle.drawing.specs.Corners.{room_in}
use Rattle.text.specs.Places.{corners}
use Rattle.listing.specs.Lines.{no_lines_put, one_more}
use Rattle.listing.proofs.put_lines.Goals as goal

pub loop-i-init : goal.loop-i-init
loop-i-init c =
    let a = c.args in record {
      put = no_lines_put (label_at a.labels.now) (room_in (corners a.left.now a.bottom.now a.right.now a.top.now)) a.text.now a.start;
      short = omega arith;
    }

pub loop-i-preserved : goal.loop-i-preserved
loop-i-preserved c =
    let l = c.loop-i in
    let a = c.args in
    let room = c.room_from-room.ensures in
    let line = c.put_line-at.ensures in record {
      put =
          one_more (label_at a.labels.now) (room_in (corners a.left.now a.bottom.now a.right.now a.top.now)) l.i
          room l.invariant.put line.0;
      short = omega (arith, l.invariant.short, line.1);
    }
