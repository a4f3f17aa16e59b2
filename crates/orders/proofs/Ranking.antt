-- What the loops of `rank_all` and `label_list` keep, and that the labels by position are the label list.
use Rattle.std.proofs.Common.{◌≡◌, refl, sym, ap, subst, ◌∙◌, inl, inr, List, ℕ, suc, ◌+◌, ◌≤◌, ◌<◌, length, get_or, set, take, arith, length-set, get_or-set_same, get_or-set_other, get_or-take, length-take-le}
use Rattle.std.proofs.Math.Seq.{ext_get_or}
use Rattle.finite.specs.Decide.{eq_or_ne}
use Rattle.finite.specs.Fill.{filled, filling_end}
use Rattle.drawing.specs.declared.Room.{Room}
use Rattle.rooms.specs.LabelList.{room_at_position, label_of, label_list}
use Rattle.rooms.specs.Plan.{Floorplan}
use Rattle.rooms.specs.Ranks.{OneToN}
use Rattle.rooms.specs.PlanOf.{plan_of, accepted→floorplan}
use Rattle.rooms.proofs.Ranks.{positions_1_to_n, room_at_position_lem, length_label_list, label_list_at}
use Rattle.points.specs.Listed.{number_at}
use Rattle.orders.specs.Walks.{Walks}
use Rattle.orders.specs.InOrder.{InOrder, Ranking, LabelsInOrder}

-- ---- ranks: those up to k stand, and what is past the rooms' places is as it was
pub record Ranks (n : ℕ) (f : ℕ → ℕ) (k : ℕ) (before ranks : List ℕ) : Type 0 where
  pub size : length ranks ≡ length before
  pub so_far : (i : ℕ) → i < n → f i ≤ k → get_or ranks i 0 ≡ f i
  pub kept : (i : ℕ) → n ≤ i → get_or ranks i 0 ≡ get_or before i 0

module _ {f : ℕ → ℕ} {by before : List ℕ} (o : Ranking by f) where
  pub ranks_none : Ranks (length by) f 0 before before
  ranks_none = record { size = refl; so_far = λ i h l. absurd (omega (arith, o.one_to_n.range i h)); kept = λ i h. refl }

  pub rank_more : {k room : ℕ} {ranks : List ℕ} → k < length by → length by ≤ length before → room ≡ get_or by k 0
      → Ranks (length by) f k before ranks
      → Ranks (length by) f (k + 1) before (set ranks room (k + 1))
  rank_more {k} {room} {ranks} h places is r = record {
    size = length-set ranks room (k + 1) ∙ r.size;
    so_far = λ i hi l. elim (eq_or_ne i room) [
      | inl e ↦ ap (λ (i : ℕ). get_or (set ranks room (k + 1)) i 0) e ∙ get_or-set_same ranks room (k + 1) 0 (omega (arith, r.size, there))
          ∙ sym (ap f (e ∙ is) ∙ rank)
      | inr ne ↦ get_or-set_other ranks room i (k + 1) 0 ne ∙ r.so_far i hi (elim (eq_or_ne (f i) (k + 1)) [
        | inl e ↦ absurd (ne (o.one_to_n.once i (get_or by k 0) hi there (e ∙ sym rank) ∙ sym is))
        | inr other ↦ omega arith
      ])
    ];
    kept = λ i l. get_or-set_other ranks room i (k + 1) 0 (λ e. omega (arith, there)) ∙ r.kept i l;
  }
    where
      there : get_or by k 0 < length by
      there = (o.in_order k h).0

      rank : f (get_or by k 0) ≡ k + 1
      rank = (o.in_order k h).1

  pub ranks_all : {k : ℕ} {ranks : List ℕ} → length by ≤ k → length by ≤ length before → Ranks (length by) f k before ranks
      → ranks ≡ filled f (length by) before
  ranks_all {k} {ranks} h places r = filling_end f (length by) (record {
    size = r.size;
    done = λ i z l. r.so_far i l (omega (arith, o.one_to_n.range i l));
    kept = λ i q. elim q [ inl l ↦ absurd (omega arith) | inr l ↦ r.kept i l ];
  }) places

-- rooms that were walked stand in order at the front
pub walked→ranking : {left bottom right top links others : List ℕ} {f : ℕ → ℕ} → Walks left bottom right top links others f
    → (by : List ℕ) → length left ≤ length by → InOrder (length left) f (number_at by) → Ranking (take (length left) by) f
walked→ranking {left = left} {f = f} w by places order = record {
  one_to_n = subst (OneToN f) (sym size) w.ranked.one_to_n;
  in_order = λ k h. let l : k < length left = omega (arith, size) in rw (get_or-take (length left) by k 0 l, size) (order k l);
}
  where
    size : length (take (length left) by) ≡ length left
    size = length-take-le (length left) by places

-- ---- the label list
module _ {rooms : List Room} {labels by : List ℕ} (g : LabelsInOrder rooms labels by) where
  k : Floorplan (plan_of rooms)
  k = accepted→floorplan rooms g.accepted

  -- the label at place q, as it is looked up
  label_at_lem : (q : ℕ) → q < length by → get_or labels (get_or by q 0) 0 ≡ get_or (label_list rooms) q 0
  label_at_lem q h =
      let (there, position) = g.by_position q h in
      let (room<, e) = room_at_position_lem rooms k (suc q) (omega arith) (omega (arith, g.count)) in
      let same : get_or by q 0 ≡ room_at_position rooms (suc q) = (positions_1_to_n rooms k).once (get_or by q 0)
      (room_at_position rooms (suc q))
      (omega (arith, g.count)) room< (omega arith) in
      g.labels_are (get_or by q 0) there ∙ ap (label_of rooms) same ∙ sym (label_list_at rooms k q (omega (arith, g.count)))

  pub labels_listed : (list : List ℕ) → length by ≤ length list → ((q : ℕ) → q < length by
      → get_or list q 0 ≡ get_or labels (get_or by q 0) 0)
      → take (length by) list ≡ label_list rooms
  labels_listed list size each =
      ext_get_or 0 (take (length by) list) (label_list rooms) (length-take-le (length by) list size ∙ sym (length_label_list rooms k
      ∙ g.count))
      (λ q l. let h : q < length by = omega (arith, length-take-le (length by) list size) in get_or-take (length by) list q 0 h
      ∙ each q h ∙ label_at_lem q h)
