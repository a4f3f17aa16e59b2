-- `pair_with` meets its contract: the keys of all corners are put at the front of the arrays and paired.
use Rattle.std.proofs.Common.{◌+◌, ◌*◌, arith, length-take-le}
use Rattle.rooms.specs.Lists.{count_of}
use Rattle.corners.proofs.Keys.{told}
use Rattle.corners.proofs.pair_with.Goals as goal

pub returns : goal.returns
returns g c =
    let lists = c.args.lists.now in
    let here = c.put_corners.new.here in
    let sought = c.put_corners.new.sought in
    told lists.left.now lists.bottom.now lists.right.now lists.top.now here sought c.put_corners.ensures lists.some
    (length-take-le (2 * count_of lists + 2) here (omega (arith, c.requires.keys.0))) c.pair.result c.pair.new.there c.pair.new.back
    (rw c.len.ensures at c.pair.ensures)
