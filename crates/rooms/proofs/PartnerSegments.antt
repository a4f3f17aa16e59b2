-- Accepted room lists with the same label list are equivalent: a segment's partner is the segment, over there, of the edge that its
-- first unit edge is a piece of. It holds the partners of all its edges, since edges on one segment stay on one segment.
use Rattle.std.specs.Prelude.{◌≡◌, ◌↔◌, List, ℕ, ◌<◌, length}
use Rattle.std.proofs.Math.Path.{refl, ap}
use Rattle.std.proofs.Common.{sym, ◌∙◌, subst, le_refl}
use Rattle.drawing.specs.declared.Room.{Room}
use Rattle.rooms.specs.Outline.{room_in}
use Rattle.rooms.specs.Segment.{upright, flat, Stretch, Drawn, Segment, Side, left_edge, right_edge, bottom_edge, top_edge, edge, Holds}
use Rattle.rooms.specs.Equivalent.{Equivalent}
use Rattle.rooms.specs.DecideSegment.{dec_drawn, upright_is_not_flat}
use Rattle.rooms.specs.Plan.{Floorplan, swap, swap_floorplan}
use Rattle.rooms.specs.PlanOf.{plan_of}
use Rattle.rooms.proofs.SegmentOfEdge.{segment_of, segment_direction, segment_holds, segment_only, edge_at, edge_at_start_held}
use Rattle.rooms.specs.LabelList.{label_list}
use Rattle.rooms.proofs.Steps.{left_of→left, left→left_of, below_of→below, below→below_of}
use Rattle.rooms.proofs.PartnerRooms.{partner, partner<, partner_left, partner_below, partner_of_partner}
use Rattle.rooms.proofs.SameSegment.{upright_pair, flat_pair, KeepsLeft, far_near, far_far, near_near}

-- ---- edges on one segment stay on one segment
module _ (rooms others : List Room) (k : Floorplan (plan_of rooms)) (ko : Floorplan (plan_of others)) (there back : ℕ → ℕ)
    (keeps-left : KeepsLeft (plan_of rooms) (plan_of others) there back) (keeps_Below : KeepsLeft (swap (plan_of rooms)) (swap (plan_of others)) there back) where
  abbrev Stay : (s t : Side) → Type 0
  Stay s t = (a b : ℕ) → a < length rooms → b < length rooms → segment_of rooms s a ≡ segment_of rooms t b → segment_of others s (there a) ≡ segment_of others t (there b)

  right_left : Stay right_edge left_edge
  right_left = far_near rooms others (plan_of rooms) (plan_of others) k ko left_edge right_edge (upright_pair rooms k) (upright_pair others ko) there back keeps-left

  top_bottom : Stay top_edge bottom_edge
  top_bottom = far_near rooms others (swap (plan_of rooms)) (swap (plan_of others)) (swap_floorplan k) (swap_floorplan ko) bottom_edge top_edge (flat_pair rooms k) (flat_pair others ko) there back keeps_Below

  -- an upright segment is no flat one
  apart : (s t : Side) (a b : ℕ) → (edge s (room_in rooms a)).direction ≡ upright → (edge t (room_in rooms b)).direction ≡ flat
      → segment_of rooms s a ≡ segment_of rooms t b → ⊥
  apart s t a b u v e =
      upright_is_not_flat (sym (segment_direction rooms s a ∙ u) ∙ ap (λ (x : Stretch). x.direction) e
      ∙ segment_direction rooms t b ∙ v)

  stay : (s t : Side) → Stay s t
  stay right_edge left_edge = right_left
  stay left_edge right_edge = λ a b ha hb e. sym (right_left b a hb ha (sym e))
  stay right_edge right_edge = far_far rooms others (plan_of rooms) (plan_of others) k ko left_edge right_edge (upright_pair rooms k) (upright_pair others ko) there back keeps-left
  stay left_edge left_edge = near_near rooms others (plan_of rooms) (plan_of others) k ko left_edge right_edge (upright_pair rooms k) (upright_pair others ko) there back keeps-left
  stay top_edge bottom_edge = top_bottom
  stay bottom_edge top_edge = λ a b ha hb e. sym (top_bottom b a hb ha (sym e))
  stay top_edge top_edge = far_far rooms others (swap (plan_of rooms)) (swap (plan_of others)) (swap_floorplan k) (swap_floorplan ko) bottom_edge top_edge (flat_pair rooms k) (flat_pair others ko) there back keeps_Below
  stay bottom_edge bottom_edge = near_near rooms others (swap (plan_of rooms)) (swap (plan_of others)) (swap_floorplan k) (swap_floorplan ko) bottom_edge top_edge (flat_pair rooms k) (flat_pair others ko) there back keeps_Below
  stay right_edge top_edge = λ a b ha hb e. absurd (apart right_edge top_edge a b refl refl e)
  stay right_edge bottom_edge = λ a b ha hb e. absurd (apart right_edge bottom_edge a b refl refl e)
  stay left_edge top_edge = λ a b ha hb e. absurd (apart left_edge top_edge a b refl refl e)
  stay left_edge bottom_edge = λ a b ha hb e. absurd (apart left_edge bottom_edge a b refl refl e)
  stay top_edge right_edge = λ a b ha hb e. absurd (apart right_edge top_edge b a refl refl (sym e))
  stay top_edge left_edge = λ a b ha hb e. absurd (apart left_edge top_edge b a refl refl (sym e))
  stay bottom_edge right_edge = λ a b ha hb e. absurd (apart right_edge bottom_edge b a refl refl (sym e))
  stay bottom_edge left_edge = λ a b ha hb e. absurd (apart left_edge bottom_edge b a refl refl (sym e))

-- ---- the partner of a segment
record Partners (rooms others : List Room) (there back : ℕ → ℕ) : Type 0 where
  there< : (a : ℕ) → a < length rooms → there a < length others
  back_there : (a : ℕ) → a < length rooms → back (there a) ≡ a
  stays : (s t : Side) (a b : ℕ) → a < length rooms → b < length rooms → segment_of rooms s a ≡ segment_of rooms t b
      → segment_of others s (there a) ≡ segment_of others t (there b)

module _ (rooms others : List Room) (there : ℕ → ℕ) where
  chosen : (s : Stretch) → Dec (Drawn rooms s.direction s.line s.from) → Stretch
  chosen s (yes drawn) = let (side, room) = edge_at rooms s.direction s.line s.from drawn in segment_of others side (there room)
  chosen s (no h) = s

  partner_segment : Stretch → Stretch
  partner_segment s = chosen s (dec_drawn rooms s.direction s.line s.from)

  -- an edge whose segment s is, and whose segment over there is the partner
  record PairedBy (s : Stretch) : Type 0 where
    of : Side
    room : ℕ
    room< : room < length rooms
    here : segment_of rooms of room ≡ s
    over : partner_segment s ≡ segment_of others of (there room)

  paired_by : Floorplan (plan_of rooms) → (s : Stretch) → Segment rooms s → PairedBy s
  unfolding partner_segment chosen
  paired_by k s g = go (dec_drawn rooms s.direction s.line s.from) refl
    where
      go : (d : Dec (Drawn rooms s.direction s.line s.from)) → dec_drawn rooms s.direction s.line s.from ≡ d → PairedBy s
      go (yes drawn) q =
          let (h, held) = edge_at_start_held rooms k s g drawn in
          let (side, room) = edge_at rooms s.direction s.line s.from drawn in
          record { of = side; room = room; room< = h; here = segment_only rooms k side room h s g held; over = ap (chosen s) q }
      go (no h) q = absurd (h (g.unbroken s.from (le_refl s.from) g.some))

module _ (rooms others : List Room) (k : Floorplan (plan_of rooms)) (ko : Floorplan (plan_of others)) (there back : ℕ → ℕ) (x : Partners rooms others there back) (y : Partners others rooms back there) where
  partner_is_segment : (s : Stretch) → Segment rooms s → Segment others (partner_segment rooms others there s)
  partner_is_segment s g =
      let o = paired_by rooms others there k s g in
      subst (Segment others) (sym o.over) (segment_holds others ko o.of (there o.room) (x.there< o.room o.room<)).0

  partner_back : (s : Stretch) → Segment rooms s → partner_segment others rooms back (partner_segment rooms others there s) ≡ s
  partner_back s g =
      let o = paired_by rooms others there k s g in
      let w = paired_by others rooms back ko (partner_segment rooms others there s) (partner_is_segment s g) in
      w.over ∙ y.stays w.of o.of w.room (there o.room) w.room< (x.there< o.room o.room<) (w.here ∙ o.over)
      ∙ ap (segment_of rooms o.of) (x.back_there o.room o.room<) ∙ o.here

  partner_holds : (s : Stretch) → Segment rooms s → (i : ℕ) → i < length rooms → (of : Side)
      → Holds s (edge of (room_in rooms i)) ↔ Holds (partner_segment rooms others there s) (edge of (room_in others (there i)))
  partner_holds s g i h of = let o = paired_by rooms others there k s g in (
    λ held. subst (λ (t : Stretch). Holds t (edge of (room_in others (there i))))
        (x.stays of o.of i o.room h o.room< (segment_only rooms k of i h s g held ∙ sym o.here) ∙ sym o.over)
        (segment_holds others ko of (there i) (x.there< i h)).1,
    λ held. subst (λ (t : Stretch). Holds t (edge of (room_in rooms i)))
        (ap (segment_of rooms of) (sym (x.back_there i h))
        ∙ y.stays of o.of (there i) (there o.room) (x.there< i h) (x.there< o.room o.room<)
        (segment_only others ko of (there i) (x.there< i h) (partner_segment rooms others there s) (partner_is_segment s g) held ∙ o.over)
        ∙ ap (segment_of rooms o.of) (x.back_there o.room o.room<) ∙ o.here)
        (segment_holds rooms k of i h).1,
  )

-- ---- the same label list
module _ (rooms others : List Room) (k : Floorplan (plan_of rooms)) (ko : Floorplan (plan_of others)) (same : label_list rooms ≡ label_list others) where
  partners : Partners rooms others (partner rooms others) (partner others rooms)
  partners = record {
    there< = partner< rooms others k ko same;
    back_there = partner_of_partner rooms others k ko same;
    stays = stay rooms others k ko (partner rooms others) (partner others rooms)
        (record {
          there< = partner< rooms others k ko same;
          back< = partner< others rooms ko k (sym same);
          keeps = λ a b r. left_of→left others (partner_left rooms others k ko same a b (left→left_of rooms k r));
          keeps_back = λ a b r. left_of→left rooms (partner_left others rooms ko k (sym same) a b (left→left_of others ko r));
          back_there = partner_of_partner rooms others k ko same;
        })
        (record {
          there< = partner< rooms others k ko same;
          back< = partner< others rooms ko k (sym same);
          keeps = λ a b r. below_of→below others (partner_below rooms others k ko same a b (below→below_of rooms k r));
          keeps_back = λ a b r. below_of→below rooms (partner_below others rooms ko k (sym same) a b (below→below_of others ko r));
          back_there = partner_of_partner rooms others k ko same;
        });
  }

pub same_labels→equivalent : (rooms others : List Room) → Floorplan (plan_of rooms) → Floorplan (plan_of others)
    → label_list rooms ≡ label_list others → Equivalent rooms others
same_labels→equivalent rooms others k ko same =
    let there = partner rooms others in
    let back = partner others rooms in
    let x = partners rooms others k ko same in
    let y = partners others rooms ko k (sym same) in
    record {
      pair_rooms = record { to = there; from = back; to_has = x.there<; from_has = y.there<; from_to = x.back_there; to_from = y.back_there };
      pair_segments = record {
        to = partner_segment rooms others there;
        from = partner_segment others rooms back;
        to_has = partner_is_segment rooms others k ko there back x y;
        from_has = partner_is_segment others rooms ko k back there y x;
        from_to = partner_back rooms others k ko there back x y;
        to_from = partner_back others rooms ko k back there y x;
      };
      holds = partner_holds rooms others k ko there back x y;
    }
