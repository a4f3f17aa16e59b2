-- The label list of an accepted room list is Baxter (000, Lemma 3.6): each label is put next to the run of the label before it,
-- since there is no 3-14-2 and no 2-41-3.
use Rattle.std.specs.Prelude.{◌≡◌, ◌≢◌, List, ℕ, zero, suc, ◌-◌, ◌≤◌, ◌<◌, length}
use Rattle.std.proofs.Common.{sym, ap, subst, inl, inr, arith}
use Rattle.finite.specs.Decide.{le_or_lt}
use Rattle.finite.specs.Search.{Some}
use Rattle.record.specs.Labels.{label_at, EachOnce}
use Rattle.record.specs.Barred.{Barred, Baxter}
use Rattle.record.specs.Way.{Way, up, down, other, Past}
use Rattle.record.specs.Sides.{BesideSeen}
use Rattle.record.proofs.NextTo.{Seen, NextTo, every, next_not_barred}
use Rattle.drawing.specs.declared.Room.{Room}
use Rattle.rooms.specs.LabelList.{label_of, position_of, room_at_position, label_list}
use Rattle.rooms.specs.Plan.{Floorplan}
use Rattle.rooms.specs.PlanOf.{plan_of}
use Rattle.rooms.proofs.Ranks.{labels_1_to_n, room_at_position_lem, length_label_list, label_list_at, no_3142, no_2413}

module _ (rooms : List Room) (k : Floorplan (plan_of rooms)) where
  abbrev f : ℕ → ℕ
  f = label_at (label_list rooms)

  abbrev at : ℕ → ℕ
  at i = room_at_position rooms (suc i)

  each_once : EachOnce f (length rooms)
  each_once = record { range = range; once = once }
    where
      range : (i : ℕ) → 1 ≤ i → i ≤ length rooms → (1 ≤ f i) × (f i ≤ length rooms)
      range zero a b = absurd (omega arith)
      range (suc i) a b = omega (arith, label_list_at rooms k i b, (labels_1_to_n rooms k).range (at i) (room_at_position_lem rooms k (suc i) a b).0)

      once : (i j : ℕ) → 1 ≤ i → i ≤ length rooms → 1 ≤ j → j ≤ length rooms → f i ≡ f j → i ≡ j
      once zero j a b c d e = absurd (omega arith)
      once (suc i) zero a b c d e = absurd (omega arith)
      once (suc i) (suc j) a b c d e =
          let (hi, pi) = room_at_position_lem rooms k (suc i) a b in
          let (hj, pj) = room_at_position_lem rooms k (suc j) c d in
          let same = (labels_1_to_n rooms k).once (at i) (at j) hi hj (omega (arith, label_list_at rooms k i b, label_list_at rooms k j d)) in
          omega (arith, ap (position_of rooms) same)

  -- of a label seen that lies between the labels of positions c and c + 1, the label next to it is seen too
  next_to : (c : ℕ) → 1 ≤ c → suc c ≤ length rooms → NextTo f c
  next_to zero a b = absurd (omega arith)
  next_to (suc c) a b = λ turn x (i, li, hi, e) p q. go turn x i li hi e p q
    where
      range : (j : ℕ) → 1 ≤ j → j ≤ length rooms → (1 ≤ f j) × (f j ≤ length rooms)
      range = each_once.range

      -- a label y, not that of position c + 1, that is seen unless it comes too late
      seen : (y : ℕ) → 1 ≤ y → y ≤ length rooms → f (suc (suc c)) ≢ y → ((j : ℕ) → suc c < j → j < length rooms → f (suc j) ≡ y
          → ⊥) → Seen f (suc c) y
      seen y lo hi not_next late = found (every f (length rooms) each_once y lo hi)
        where
          found : Some (λ j. f j ≡ y) 1 (suc (length rooms)) → Seen f (suc c) y
          found (zero, lj, hj, d) = absurd (omega arith)
          found (suc j, lj, hj, d) = elim (le_or_lt j c) [
            | inl l ↦ (suc j, lj, omega arith, d)
            | inr l ↦
                let not_c : j ≢ suc c = λ t. not_next (omega (arith, ap (λ (z : ℕ). f (suc z)) t)) in
                absurd (late j (omega arith) (omega arith) d)
          ]

      -- the labels and positions of the four rooms of a pattern
      labelled : (i : ℕ) → i < length rooms → (at i < length rooms) × (position_of rooms (at i) ≡ suc i) × (label_of rooms (at i) ≡ f (suc i))
      labelled i h = let (there, p) = room_at_position_lem rooms k (suc i) (omega arith) h in (there, p, sym (label_list_at rooms k i h))

      go : (turn : Way) (x i : ℕ) → 1 ≤ i → i < suc (suc c) → f i ≡ x → Past turn (f (suc c)) x → Past turn x (f (suc (suc c)))
          → BesideSeen (Seen f (suc c)) (other turn) x
      go turn x zero li hi e p q = absurd (omega arith)
      go up x (suc i) li within e p q = (
        x - 1,
        omega arith,
        seen (x - 1) (omega (arith, range (suc c) a (omega arith))) (omega (arith, range (suc i) li (omega arith))) (omega arith) (λ j l h d.
            let not_c : i ≢ c = λ t. omega (arith, ap (λ (z : ℕ). f (suc z)) t) in
            let (hi, pi, ei) = labelled i (omega arith) in
            let (hc, pc, ec) = labelled c (omega arith) in
            let (hn, pn, en) = labelled (suc c) (omega arith) in
            let (hj, pj, ej) = labelled j h in
            let other_label : f (suc c) ≢ f (suc j) = λ t. omega (arith, each_once.once (suc c) (suc j) (omega arith) (omega arith) (omega arith) h t) in
            no_3142 rooms k (at i) (at c) (at (suc c)) (at j) hi hc hn hj (omega arith) (omega arith) (omega arith) (omega arith) (omega arith) (omega arith)),
      )
      go down x (suc i) li within e p q = (
        suc x,
        omega arith,
        seen (suc x) (omega arith) (omega (arith, range (suc c) a (omega arith))) (omega arith) (λ j l h d.
            let not_c : i ≢ c = λ t. omega (arith, ap (λ (z : ℕ). f (suc z)) t) in
            let (hi, pi, ei) = labelled i (omega arith) in
            let (hc, pc, ec) = labelled c (omega arith) in
            let (hn, pn, en) = labelled (suc c) (omega arith) in
            let (hj, pj, ej) = labelled j h in
            let other_label : f (suc c) ≢ f (suc j) = λ t. omega (arith, each_once.once (suc c) (suc j) (omega arith) (omega arith) (omega arith) h t) in
            no_2413 rooms k (at i) (at c) (at (suc c)) (at j) hi hc hn hj (omega arith) (omega arith) (omega arith) (omega arith) (omega arith) (omega arith)),
      )

  pub label_list_baxter : Baxter (label_list rooms)
  label_list_baxter = record {
    each_once = subst (EachOnce f) (sym (length_label_list rooms k)) each_once;
    not_barred = subst (λ (n : ℕ). ¬ Barred f n) (sym (length_label_list rooms k)) (next_not_barred f (length rooms) each_once next_to);
  }
