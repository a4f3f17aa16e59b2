-- `compare_areas` meets its contract: the sum of the areas is the sum over the rooms, and the box is their outline.
use mathlib.Core.Path.{◌≡◌}
use native.Mathlib.Omega.{arith}
use Rattle.rooms.specs.Outline.{outline}
use Rattle.rooms.specs.Lists.{rooms_in}
use Rattle.checks.specs.Area.{area_of}
use Rattle.checks.specs.Areas.{areas_of}
use Rattle.checks.proofs.Places.{box_sides, places_total, box_whole}
use Rattle.checks.proofs.compare_areas.Goals as goal
use Rattle.checks.proofs.compare_areas.Goals.{After-area-whole}

both : (c : After-area-whole)
    → let rooms = rooms_in c.args.lists.now in
    (c.areas-total.result ≡ areas_of rooms) × (c.area-whole.result ≡ area_of (outline rooms))
both c =
    let lists = c.args.lists.now in
    (places_total lists c.areas-total.ensures, box_whole lists c.args.outline c.requires.outline_value c.area-whole.ensures.0)

pub area-whole-requires : goal.area-whole-requires
area-whole-requires c = box_sides c.args.lists.now c.requires.not_room_size c.args.outline c.requires.outline_value

pub returns-then-total-whole : goal.returns-then-total-whole
returns-then-total-whole c =
    let (total, whole) = both (goal.at.returns-then-total-whole c).After-area-whole in
    rw (← total, ← whole) c.if-total-whole.true

pub returns-then-whole-total : goal.returns-then-whole-total
returns-then-whole-total c =
    let (total, whole) = both (goal.at.returns-then-whole-total c).After-area-whole in
    rw (← total, ← whole) c.if-whole-total.true

pub returns : goal.returns
returns c =
    let (total, whole) = both (goal.at.returns c).After-area-whole in
    rw (← total, ← whole) (omega (arith, c.if-total-whole.false, c.if-whole-total.false))
