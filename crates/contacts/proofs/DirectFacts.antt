-- Direct relations of an accepted room list. A direct step leaves no room between, so no chain of more steps goes the same way. Its
-- segment supports rooms from both sides, so it is inner, and the two rooms touch. Partners in equivalent lists stand alike.
use Rattle.std.specs.Prelude.{◌≡◌, ◌⊎◌, ◌↔◌, List, ℕ, ◌<◌, length}
use Rattle.std.proofs.Common.{sym, subst, subst₂, inl, inr}
use Rattle.finite.specs.Decide.{Tells, tells_holds}
use Rattle.record.specs.Labels.{label_at}
use Rattle.drawing.specs.declared.Room.{Room}
use Rattle.drawing.specs.declared.Relation.{Relation}
use Rattle.drawing.specs.declared.Side.{Side}
use Rattle.drawing.specs.declared.Side.TheVariants.{Left, Right, Above, Below}
use Rattle.drawing.specs.Side.{side_of, converse}
use Rattle.rooms.specs.Causes.{AcceptedRooms}
use Rattle.rooms.specs.Outline.{room_in}
use Rattle.rooms.specs.Segment.{Direction, upright, flat, right_edge, top_edge}
use Rattle.rooms.specs.Orders.{OneSegment, one, step}
use Rattle.rooms.specs.Direct.{facing, Direct, Stands}
use Rattle.rooms.specs.Equivalent.{Equivalent}
use Rattle.rooms.specs.Plan.{Floorplan}
use Rattle.rooms.specs.PlanOf.{plan_of}
use Rattle.rooms.proofs.Steps.{one_segment_turned, right_of→left_of, above_of→below_of}
use Rattle.rooms.proofs.RelationFacts.{directly_left_iff_none_between, directly_below_iff_none_between}
use Rattle.rooms.proofs.Equivalence.{equivalent_sym}
use Rattle.rooms.proofs.SameLabels.{equivalent→keeps_one_segment}
use Rattle.contacts.specs.Touches.{SupportsBoth, Touches}
use Rattle.contacts.specs.Direct.{ChainOfMore, OnlyThrough, PositionsDirect, dec_positions_direct, relation_of}
use Rattle.contacts.proofs.M101.{m101_touch_symmetric}
use Rattle.contacts.proofs.InnerFacts.{near_side, far_side, BothSides, both_sides→inside, inside→not_outline_side}

-- seen from the other room, it is the opposite side
pub direct_iff_turned : (rooms : List Room) (side : Side) (a b : ℕ) → Direct rooms side a b ↔ Direct rooms (converse side) b a
direct_iff_turned rooms Left a b = (one_segment_turned rooms a b, one_segment_turned rooms b a)
direct_iff_turned rooms Right a b = (one_segment_turned rooms a b, one_segment_turned rooms b a)
direct_iff_turned rooms Above a b = (one_segment_turned rooms a b, one_segment_turned rooms b a)
direct_iff_turned rooms Below a b = (one_segment_turned rooms a b, one_segment_turned rooms b a)

module _ (rooms : List Room) (accepted : AcceptedRooms rooms) where
  -- ---- one step, or more
  pub direct→no_chain_of_more : (side : Side) (a b : ℕ) → Direct rooms side a b → ¬ ChainOfMore rooms side a b
  direct→no_chain_of_more Left a b d more =
      ((directly_left_iff_none_between rooms accepted a b).0 d).1 more.last_but_one more.chain (one more.last_step)
  direct→no_chain_of_more Below a b d more =
      ((directly_below_iff_none_between rooms accepted a b).0 d).1 more.last_but_one more.chain (one more.last_step)
  direct→no_chain_of_more Right a b d more =
      let c = more.last_but_one in
      ((directly_left_iff_none_between rooms accepted b a).0 (one_segment_turned rooms a b d)).1 c
      (one (one_segment_turned rooms c b more.last_step)) (right_of→left_of rooms more.chain)
  direct→no_chain_of_more Above a b d more =
      let c = more.last_but_one in
      ((directly_below_iff_none_between rooms accepted b a).0 (one_segment_turned rooms a b d)).1 c
      (one (one_segment_turned rooms c b more.last_step)) (above_of→below_of rooms more.chain)

  pub direct_or_only_through : (side : Side) (a b : ℕ) → Stands rooms side a b → Direct rooms side a b ⊎ OnlyThrough rooms side a b
  direct_or_only_through side a b (one d) = inl d
  direct_or_only_through side a b (step {b = c} r s) =
      let more : ChainOfMore rooms side a b = record { last_but_one = c; chain = r; last_step = s } in
      inr (record { through = more; not_direct = λ d. direct→no_chain_of_more side a b d more })

-- ---- touch
module _ (rooms : List Room) (k : Floorplan (plan_of rooms)) where
  -- a segment on which one room ends and another starts supports rooms from both sides
  meet→touches : (d : Direction) (a b : ℕ) → OneSegment rooms (far_side d) (near_side d) a b → Touches rooms a b
  meet→touches d a b o = record {
    a< = o.a<;
    b< = o.b<;
    by = o.by;
    inner = record {
      segment = o.segment;
      not_outline_side = inside→not_outline_side rooms o.by (both_sides→inside rooms k o.by both);
    };
    supports_both = supports d o;
  }
    where
      both : BothSides rooms o.by
      both = record {
        direction = d;
        before = a;
        after = b;
        before< = o.a<;
        after< = o.b<;
        holds_far = o.holds_a;
        holds_near = o.holds_b;
      }

      supports : (d : Direction) (o : OneSegment rooms (far_side d) (near_side d) a b)
          → SupportsBoth o.by (room_in rooms a) (room_in rooms b)
      supports upright o = record { side = right_edge; supports_first = o.holds_a; supports_second = inr o.holds_b }
      supports flat o = record { side = top_edge; supports_first = o.holds_a; supports_second = inr o.holds_b }

  pub direct→touches : (side : Side) (a b : ℕ) → Direct rooms side a b → Touches rooms a b
  direct→touches Left a b d = meet→touches upright a b d
  direct→touches Below a b d = meet→touches flat a b d
  direct→touches Right a b d = m101_touch_symmetric rooms b a (meet→touches upright b a (one_segment_turned rooms a b d))
  direct→touches Above a b d = m101_touch_symmetric rooms b a (meet→touches flat b a (one_segment_turned rooms a b d))

-- ---- equivalent lists
partners_direct : (rooms others : List Room) (e : Equivalent rooms others) (side : Side) (a b : ℕ)
    → Direct rooms side a b → Direct others side (e.pair_rooms.to a) (e.pair_rooms.to b)
partners_direct rooms others e side = equivalent→keeps_one_segment rooms others e (facing side) (facing (converse side))

pub direct_iff_partners_direct : (rooms others : List Room) (e : Equivalent rooms others) (side : Side) (a b : ℕ)
    → a < length rooms → b < length rooms → Direct rooms side a b ↔ Direct others side (e.pair_rooms.to a) (e.pair_rooms.to b)
unfolding equivalent_sym
direct_iff_partners_direct rooms others e side a b ha hb = (
  partners_direct rooms others e side a b,
  λ d. subst₂ (Direct rooms side) (e.pair_rooms.from_to a ha) (e.pair_rooms.from_to b hb)
      (partners_direct others rooms (equivalent_sym e) side (e.pair_rooms.to a) (e.pair_rooms.to b) d),
)

-- ---- a relation that says what is so
pub relation_told : (labels : List ℕ) (first second : ℕ) (relation : Relation) → relation.side ≡ side_of (label_at labels) first second
    → Tells relation.direct (PositionsDirect labels relation.side first second) → relation ≡ relation_of labels first second
relation_told labels first second relation side direct =
    let told = subst (λ (s : Side). Tells relation.direct (PositionsDirect labels s first second)) side direct in
    let positions = dec_positions_direct labels (side_of (label_at labels) first second) first second in
    let directs = sym (tells_holds positions relation.direct told) in
    (λ i. record { side = side i; direct = directs i })
