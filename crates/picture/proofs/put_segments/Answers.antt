-- `put_segments`: after k turns the segments after the first k positions are put.
use Rattle.std.proofs.Common.{arith}
use Rattle.record.specs.Labels.{label_at}
use Rattle.drawing.specs.Corners.{room_in}
use Rattle.text.specs.Places.{corners}
use Rattle.picture.specs.Drawn.{no_segments_put, one_segment}
use Rattle.picture.proofs.put_segments.Goals as goal

pub loop-k-init : goal.loop-k-init
loop-k-init c =
    let a = c.args in record {
      put =
          no_segments_put (label_at a.labels.now) (room_in (corners a.left.now a.bottom.now a.right.now a.top.now)) a.n
          a.text.now a.start;
      short = omega arith;
    }

pub loop-k-preserved : goal.loop-k-preserved
loop-k-preserved c =
    let l = c.loop-k in
    let a = c.args in
    let line = c.put_segment-at.ensures in record {
      put =
          one_segment (label_at a.labels.now) (room_in (corners a.left.now a.bottom.now a.right.now a.top.now)) a.n l.k
          c.room_from-earlier.ensures c.room_from-later.ensures l.invariant.put line.0;
      short = omega (arith, l.invariant.short, line.1);
    }
