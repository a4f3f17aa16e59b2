-- `put_rooms`: after i turns the rooms at the first i positions are put.
use Rattle.std.proofs.Common.{arith}
use Rattle.record.specs.Labels.{label_at}
use Rattle.drawing.specs.Corners.{room_in}
use Rattle.text.specs.Places.{corners}
use Rattle.picture.specs.Drawn.{no_rooms_put, one_room}
use Rattle.picture.proofs.put_rooms.Goals as goal

pub loop-i-init : goal.loop-i-init
loop-i-init c =
    let a = c.args in record {
      put = no_rooms_put (label_at a.labels.now) (room_in (corners a.left.now a.bottom.now a.right.now a.top.now)) a.n a.text.now a.start;
      short = omega arith;
    }

pub loop-i-preserved : goal.loop-i-preserved
loop-i-preserved c =
    let l = c.loop-i in
    let a = c.args in
    let drawn = c.put_rectangle-at.ensures in
    let named = c.put_names-at.ensures in record {
      put =
          one_room (label_at a.labels.now) (room_in (corners a.left.now a.bottom.now a.right.now a.top.now)) a.n l.i
          c.room_from-room.ensures l.invariant.put drawn.0 named.0;
      short = omega (arith, l.invariant.short, drawn.1, named.1);
    }
