-- `share` meets its contract. A product of bits says that all of them hold. Where each room starts before the other ends, the square at
-- the later starts lies in both rooms; and a square of both rooms lies between all of them.
use Rattle.std.proofs.Common.{max, arith}
use Rattle.finite.specs.Marks.{marks_both, marks_same}
use Rattle.checks.proofs.share.Goals as goal

pub returns : goal.returns
returns c =
    let a = c.args in
    let (wide, tall) = c.requires.first_has_size in
    let (wide-too, tall-too) = c.requires.second_has_size in
    let across = marks_both c.below.ensures c.below-2.ensures in
    let up = marks_both c.below-3.ensures c.below-4.ensures in
    marks_same (marks_both across up)
    (λ ((l, r), (b, t)). (max a.first.left a.second.left, max a.first.bottom a.second.bottom, omega arith, omega arith))
    (λ (x, y, u, v). ((omega arith, omega arith), (omega arith, omega arith)))
