-- Rooms whose corners stand in four lists: where they are accepted, their positions and labels are ranks as the code finds
-- them, from the corners as they stand there, and the pairs of their corners are the links by which it goes.
use Rattle.std.specs.Prelude.{◌≡◌, ◌≢◌, List, ℕ, ◌<◌}
use Rattle.std.proofs.Common.{subst, inl, inr, arith}
use Rattle.drawing.specs.declared.Room.{Room}
use Rattle.rooms.specs.LabelList.{label_of, position_of}
use Rattle.rooms.specs.Lists.{rooms_in}
use Rattle.rooms.specs.declared.CornerLists.{CornerLists}
use Rattle.rooms.specs.Plan.{Plan, Floorplan}
use Rattle.rooms.specs.PlanOf.{plan_of, accepted→floorplan}
use Rattle.points.specs.Listed.{number_at}
use Rattle.points.specs.Paired.{turn_round}
use Rattle.corners.specs.ListPlan.{plan_in, plan_is}
use Rattle.corners.specs.Corners.{CornersPaired}
use Rattle.orders.specs.Ranked.{Ranked, positions_ranked, labels_ranked}
use Rattle.orders.specs.Sized.{Sized}
use Rattle.orders.specs.Joined.{Linked, pairs→linked}
use Rattle.orders.specs.PairedPlan.{PairedPlan}
use Rattle.orders.specs.Walks.{RankedIn, Walks}

module _ {lists : CornerLists} {there back : List ℕ} (g : PairedPlan lists there back) where
  abbrev lefts : List ℕ
  lefts = lists.left.now

  abbrev bottoms : List ℕ
  bottoms = lists.bottom.now

  abbrev rights : List ℕ
  rights = lists.right.now

  abbrev tops : List ℕ
  tops = lists.top.now

  abbrev rooms : List Room
  rooms = rooms_in lists

  abbrev p : Plan
  p = plan_in lists

  is_plan : plan_of rooms ≡ p
  is_plan = plan_is lefts bottoms rights tops lists.one_length

  k : Floorplan p
  k = subst Floorplan is_plan (accepted→floorplan rooms g.accepted)

  c : CornersPaired p (number_at there) (number_at back)
  c = g.pairs.paired

  -- ---- by position, from the outline's lower-left corner
  positions_by_corners : RankedIn lefts bottoms rights tops p.west p.south (position_of rooms)
  positions_by_corners =
      subst (λ (q : Plan). Ranked q.count q.left q.bottom q.right q.top q.west q.south (position_of rooms))
      is_plan (positions_ranked rooms (accepted→floorplan rooms g.accepted))

  positions_sized : Sized lefts bottoms rights tops
  positions_sized = record { lengths = lists.one_length; tall = inl (λ i h. (k.fits i h).tall); wide = λ i h. (k.fits i h).wide }

  positions_linked : Linked p.count p.left p.bottom p.right p.top p.west p.south (number_at back) (number_at there)
  positions_linked =
      let f = k.fits 0 lists.some in
      pairs→linked p.count p.left p.bottom p.right p.top p.west p.south p.east p.north off
      c.keys.here_are c.keys.sought_are (turn_round c.paired) (λ e. omega arith) (λ e. omega arith)
    where
      off : (i : ℕ) → i < p.count → (p.right i ≢ p.west) × (p.top i ≢ p.south) × (p.left i ≢ p.east)
      off i h = let f = k.fits i h in (λ e. omega arith, λ e. omega arith, λ e. omega arith)

  pub positions_walk : Walks lefts bottoms rights tops back there (position_of rooms)
  positions_walk = record {
    sized = positions_sized;
    few = lists.few;
    links_places = g.pairs.back_places;
    others_places = g.pairs.there_places;
    x = p.west;
    y = p.south;
    ranked = positions_by_corners;
    linked = positions_linked;
  }

  -- ---- by label, from its upper-left corner: bottom and top exchanged
  labels_by_corners : RankedIn lefts tops rights bottoms p.west p.north (label_of rooms)
  labels_by_corners = subst (λ (q : Plan). Ranked q.count q.left q.top q.right q.bottom q.west q.north (label_of rooms))
      is_plan (labels_ranked rooms (accepted→floorplan rooms g.accepted))

  labels_sized : Sized lefts tops rights bottoms
  labels_sized = let l = lists.one_length in record {
    lengths = record { bottoms_length = l.tops_length; rights_length = l.rights_length; tops_length = l.bottoms_length };
    tall = inr (λ i h. (k.fits i h).tall);
    wide = λ i h. (k.fits i h).wide;
  }

  labels_linked : Linked p.count p.left p.top p.right p.bottom p.west p.north (number_at there) (number_at back)
  labels_linked =
      let f = k.fits 0 lists.some in
      pairs→linked p.count p.left p.top p.right p.bottom p.west p.north p.east p.south off
      c.keys.sought_are c.keys.here_are c.paired (λ e. omega arith) (λ e. omega arith)
    where
      off : (i : ℕ) → i < p.count → (p.right i ≢ p.west) × (p.bottom i ≢ p.north) × (p.left i ≢ p.east)
      off i h = let f = k.fits i h in (λ e. omega arith, λ e. omega arith, λ e. omega arith)

  pub labels_walk : Walks lefts tops rights bottoms there back (label_of rooms)
  labels_walk = record {
    sized = labels_sized;
    few = lists.few;
    links_places = g.pairs.there_places;
    others_places = g.pairs.back_places;
    x = p.west;
    y = p.north;
    ranked = labels_by_corners;
    linked = labels_linked;
  }
