-- Equivalence goes both ways, and on to the partners' partners of a third list.
use Rattle.std.specs.Prelude.{List, ℕ}
use Rattle.std.proofs.Common.{sym, ap, ◌∙◌, subst₂}
use Rattle.drawing.specs.declared.Room.{Room}
use Rattle.rooms.specs.Outline.{room_in}
use Rattle.rooms.specs.Segment.{Stretch, edge, Holds}
use Rattle.rooms.specs.Equivalent.{Pairing, Equivalent}

unfoldable pub equivalent_sym : {rooms others : List Room} → Equivalent rooms others → Equivalent others rooms
equivalent_sym {rooms} {others} e = record {
  pair_rooms = turned_round e.pair_rooms;
  pair_segments = turned_round e.pair_segments;
  holds = λ s g i h side. let alike = e.holds (back s) (e.pair_segments.from_has s g) (room_back i) (e.pair_rooms.from_has i h) side in (
    λ held. alike.1 (subst₂ (λ (t : Stretch) (j : ℕ). Holds t (edge side (room_in others j))) (sym (e.pair_segments.to_from s g)) (sym (e.pair_rooms.to_from i h)) held),
    λ held. subst₂ (λ (t : Stretch) (j : ℕ). Holds t (edge side (room_in others j))) (e.pair_segments.to_from s g) (e.pair_rooms.to_from i h) (alike.0 held),
  );
}
  where
    turned_round : {A B : Type 0} {P : A → Type 0} {Q : B → Type 0} → Pairing P Q → Pairing Q P
    turned_round p = record { to = p.from; from = p.to; to_has = p.from_has; from_has = p.to_has; from_to = p.to_from; to_from = p.from_to }

    back : Stretch → Stretch
    back = e.pair_segments.from

    room_back : ℕ → ℕ
    room_back = e.pair_rooms.from

-- and the partners' partners of a third list
pub equivalent_trans : {rooms others more : List Room} → Equivalent rooms others → Equivalent others more → Equivalent rooms more
equivalent_trans e f = record {
  pair_rooms = chained e.pair_rooms f.pair_rooms;
  pair_segments = chained e.pair_segments f.pair_segments;
  holds = λ s g i h side.
      let there = e.holds s g i h side in
      let further = f.holds (e.pair_segments.to s) (e.pair_segments.to_has s g) (e.pair_rooms.to i) (e.pair_rooms.to_has i h) side in
      (λ held. further.0 (there.0 held), λ held. there.1 (further.1 held));
}
  where
    chained : {A B C : Type 0} {P : A → Type 0} {Q : B → Type 0} {R : C → Type 0} → Pairing P Q → Pairing Q R → Pairing P R
    chained p q = record {
      to = λ x. q.to (p.to x);
      from = λ z. p.from (q.from z);
      to_has = λ x h. q.to_has (p.to x) (p.to_has x h);
      from_has = λ z h. p.from_has (q.from z) (q.from_has z h);
      from_to = λ x h. ap p.from (q.from_to (p.to x) (p.to_has x h)) ∙ p.from_to x h;
      to_from = λ z h. ap q.to (p.to_from (q.from z) (q.from_has z h)) ∙ q.to_from z h;
    }
