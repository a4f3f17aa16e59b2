-- `judge` meets its contract. Each test tells of its cause, and is made where the earlier causes are excluded; what is left where the
-- rooms add up to the outline and the corners are not in pairs is that two overlap or four meet.
use Rattle.std.proofs.Common.{List, arith}
use Rattle.drawing.specs.declared.Room.{Room}
use Rattle.rooms.specs.Causes.{RoomSize, Overlap, Uncovered}
use Rattle.rooms.specs.Lists.{rooms_in}
use Rattle.checks.specs.Areas.{overfull→overlap, areas_differ→uncovered, uncovered→areas_less}
use Rattle.checks.specs.Accepted.{pairs→accepted, none_else→four_meet}
use Rattle.finite.specs.Decide.{told_false}
use Rattle.checks.proofs.judge.Goals as goal
use Rattle.checks.proofs.judge.Goals.{Else-flat}

abbrev rooms_at : Else-flat → List Room
rooms_at e = rooms_in e.args.lists.now

not_flat : (e : Else-flat) → ¬ RoomSize (rooms_at e)
not_flat e = told_false (RoomSize (rooms_at e)) e.flat.result e.if-flat.false e.flat.ensures

-- the corners are in pairs
pub returns-then-pair_corners-clause-verdict : goal.returns-then-pair_corners-clause-verdict
returns-then-pair_corners-clause-verdict c =
    let paired = rw c.if-pair_corners.true at c.pair_corners.ensures in
    pairs→accepted c.args.lists.now (not_flat (goal.at.returns-then-pair_corners-clause-verdict c).Else-flat) _ _ paired.paired

-- more than the outline
pub returns-in-Greater-clause-verdict : goal.returns-in-Greater-clause-verdict
returns-in-Greater-clause-verdict c =
    let e = (goal.at.returns-in-Greater-clause-verdict c).Else-flat in
    (not_flat e, overfull→overlap (rooms_at e) c.in-Greater.ensures)

-- less than the outline, and no two rooms overlap
pub returns-else-overlap-clause-verdict : goal.returns-else-overlap-clause-verdict
returns-else-overlap-clause-verdict c =
    let e = (goal.at.returns-else-overlap-clause-verdict c).Else-flat in
    let rooms = rooms_at e in
    let apart = told_false (Overlap rooms) c.overlap.result c.if-overlap.false c.overlap.ensures in
    let less = c.in-Less.ensures in
    (not_flat e, apart, areas_differ→uncovered rooms apart (λ e. omega (arith, less)))

-- as much as the outline, no two rooms overlap, and the corners are not in pairs
pub returns-else-overlap-2-clause-verdict : goal.returns-else-overlap-2-clause-verdict
returns-else-overlap-2-clause-verdict c =
    let e = (goal.at.returns-else-overlap-2-clause-verdict c).Else-flat in
    let rooms = rooms_at e in
    let apart = told_false (Overlap rooms) c.overlap-in-Equal.result c.if-overlap-2.false c.overlap-in-Equal.ensures in
    let same = c.in-Equal.ensures in
    let covered : ¬ Uncovered rooms = λ u. omega (arith, same, uncovered→areas_less rooms apart u) in
    let no_floorplan = rw c.if-pair_corners.false at c.pair_corners.ensures in
    (not_flat e, apart, covered, none_else→four_meet c.args.lists.now (not_flat e) no_floorplan apart covered)
