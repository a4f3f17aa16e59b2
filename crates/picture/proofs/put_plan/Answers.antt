-- `put_plan`: the head, the rooms, the segments and the last word, one after the other.
use Rattle.std.proofs.Common.{arith}
use Rattle.std.proofs.Math.Decide.{ℕ_discrete}
use Rattle.text.specs.Form.{filled}
use Rattle.text.specs.Places.{view_in}
use Rattle.finite.specs.Put.{put_more}
use Rattle.shapes.specs.Picture.{head, rooms, segments}
use Rattle.picture.proofs.put_plan.Goals as goal

pub returns : goal.returns
unfolding filled ℕ_discrete
returns c =
    let a = c.args in
    let first = c.put_head-at.ensures in
    let drawn = c.put_rooms-at.ensures in
    let lined = c.put_segments-at.ensures in
    let last = c.put_form.ensures in
    let so_far =
    put_more {part = head a.n} {rest = view_in rooms a.labels.now a.left.now a.bottom.now a.right.now a.top.now a.n} first.0 drawn.0 in
    let all = put_more {rest = view_in segments a.labels.now a.left.now a.bottom.now a.right.now a.top.now a.n} so_far lined.0 in
    (put_more all last.0, omega (arith, c.requires.plan.places.few, first.1, drawn.1, lined.1, last.1))
