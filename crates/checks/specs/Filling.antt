-- How the areas of the rooms, added up, stand to the outline's own.
use Rattle.std.specs.Prelude.{List, ◌≡◌, ◌<◌}
use Rattle.std.specs.declared.cmp.Ordering.{Ordering}
use Rattle.std.specs.Ordering.{MatchOrdering}
use Rattle.drawing.specs.declared.Room.{Room}
use Rattle.rooms.specs.Outline.{outline}
use Rattle.checks.specs.Area.{area_of}
use Rattle.checks.specs.Areas.{areas_of}

abbrev pub Fills : Ordering → List Room → Type 0
Fills filling rooms =
    let own = area_of (outline rooms) in
    MatchOrdering filling (areas_of rooms < own) (areas_of rooms ≡ own) (own < areas_of rooms)
