-- `put_listing`: the header, and then the lines.
use Rattle.std.proofs.Common.{arith}
use Rattle.std.proofs.Math.Decide.{ℕ_discrete}
use Rattle.text.specs.Form.{filled}
use Rattle.text.specs.Places.{view_in}
use Rattle.finite.specs.Put.{put_more}
use Rattle.listing.specs.Text.{head_of, lines_of}
use Rattle.listing.proofs.put_listing.Goals as goal

pub returns : goal.returns
unfolding filled ℕ_discrete
returns c =
    let a = c.args in
    let head = c.put_form-at.ensures in
    let lines = c.put_lines.ensures in
    let all = view_in lines_of a.labels.now a.left.now a.bottom.now a.right.now a.top.now a.n in
    (put_more {part = head_of a.n} {rest = all} head.0 lines.0, omega (arith, c.requires.places.few, head.1, lines.1))
