-- An accepted list whose rooms' corners stand in four lists, and the pairs of the corners in two arrays.
use Rattle.std.specs.Prelude.{List, ℕ}
use Rattle.rooms.specs.Causes.{AcceptedRooms}
use Rattle.rooms.specs.Lists.{rooms_in}
use Rattle.rooms.specs.declared.CornerLists.{CornerLists}
use Rattle.corners.specs.Corners.{CornersPairedIn}
use Rattle.corners.specs.ListPlan.{plan_in}

pub record PairedPlan (lists : CornerLists) (there back : List ℕ) : Type 0 where
  pub accepted : AcceptedRooms (rooms_in lists)
  pub pairs : CornersPairedIn (plan_in lists) there back
