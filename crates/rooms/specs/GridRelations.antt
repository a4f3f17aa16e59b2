-- In the grid drawing of a Baxter list, a room left of another one stands at an earlier position and has a smaller label, and a
-- room below another one stands earlier and has a larger label. The two are one law, since smaller and larger labels are the two
-- ways to look along the labels. Only here need the list be Baxter.
use Rattle.std.specs.Prelude.{◌≡◌, refl, List, ℕ, suc, ◌≤◌, ◌<◌, length}
use Rattle.std.proofs.Common.{sym, ap, subst, ◌∙◌, inl, inr, arith}
use Rattle.std.proofs.Math.Decide.{dec_lt}
use Rattle.finite.specs.Decide.{eq_or_ne}
use Rattle.record.specs.Labels.{label_at, EachOnce}
use Rattle.record.specs.Barred.{Barred, Baxter}
use Rattle.record.specs.Way.{Way, up, down, Less, Past, past_trans, past_not_back, Order, before, same, after, order}
use Rattle.record.proofs.NextTo.{between_seen}
use Rattle.drawing.specs.declared.Room.{Room}
use Rattle.drawing.specs.Drawing.{drawing_of}
use Rattle.drawing.specs.Nearest.{Nearest, last_nearest, first_nearest}
use Rattle.rooms.specs.Orders.{Chain, one, step}
use Rattle.rooms.specs.Plan.{LeftStep, BelowStep, Left, Below}
use Rattle.rooms.specs.PlanOf.{plan_of}
use Rattle.rooms.specs.GridFloorplan.{place→position, room_in_drawing}

module _ (f : ℕ → ℕ) (n : ℕ) (once : EachOnce f n) (not_barred : ¬ Barred f n) where
  -- no positions i < c, c + 1 < j have labels that go c, j, i, c + 1 one way: no 3-14-2 where that is up, no 2-41-3 where it is down
  no_3142_either_way : (way : Way) (i c j : ℕ) → 1 ≤ i → i < c → suc c < j → j ≤ n → Past way (f c) (f j) → Past way (f j) (f i)
      → Past way (f i) (f (suc c)) → ⊥
  no_3142_either_way way i c j from ic cj to low middle high =
      let (m, a, l, e) = between_seen f n once not_barred c (omega arith) (omega arith) way (i, from, omega arith, refl) high (f j) low (past_not_back middle) in
      omega (arith, once.once m j a (omega arith) (omega arith) to e)

  -- the room at i ends at z, where the room at j starts: then i is the earlier position, and its label comes first, going that way
  meet→earlier_and_past : (way : Way) (i j : ℕ) {z : ℕ} → 1 ≤ i → i ≤ n → 1 ≤ j → j ≤ n
      → Nearest up (λ k. Less way (f i) (f k)) n i (suc z) → Nearest down (λ k. Less way (f k) (f j)) n j z
      → (i < j) × Past way (f i) (f j)
  meet→earlier_and_past way i j {z} fi ti fj tj ahead back = (omega (arith, ahead.past, back.past), go (order way (f i) (f j)))
    where
      beyond_i : Past way (f i) (f (suc z))
      beyond_i = record { less = ahead.has (omega arith) (omega (arith, back.past)) }

      before_j : Past way (f z) (f j)
      before_j = record { less = back.has (omega (arith, ahead.past)) (omega (arith, back.past)) }

      go : Order way (f i) (f j) → Past way (f i) (f j)
      go (before p) = p
      go (same e) = absurd (omega (arith, ahead.past, back.past, once.once i j fi ti fj tj e))
      go (after p) = elim (eq_or_ne i z) [
        | inl e ↦ absurd (past_not_back p (subst (λ (k : ℕ). Past way (f k) (f j)) (sym e) before_j))
        | inr a ↦ elim (eq_or_ne (suc z) j) [
          | inl e ↦ absurd (past_not_back p (subst (λ (k : ℕ). Past way (f i) (f k)) e beyond_i))
          | inr b ↦ absurd (no_3142_either_way way i z j fi (omega (arith, ahead.past)) (omega (arith, back.past)) tj before_j p beyond_i)
        ]
      ]

-- ---- the drawing of a Baxter list
-- the room in place a stands at an earlier position than that in place b, and from its label to the other's one goes that way
abbrev Precedes : List ℕ → Way → (a b : ℕ) → Type 0
Precedes labels way a b = (a < b) × Past way (label_at labels (suc a)) (label_at labels (suc b))

module _ (labels : List ℕ) (baxter : Baxter labels) where
  abbrev f : ℕ → ℕ
  f = label_at labels

  abbrev n : ℕ
  n = length labels

  meet→precedes : (way : Way) (a b : ℕ) {end start : ℕ} → suc a ≤ n → suc b ≤ n → end ≡ start
      → Nearest up (λ k. Less way (f (suc a)) (f k)) n (suc a) (suc end)
      → Nearest down (λ k. Less way (f k) (f (suc b))) n (suc b) start → Precedes labels way a b
  meet→precedes way a b ha hb e ahead back =
      let (l, p) = meet→earlier_and_past f n baxter.each_once baxter.not_barred way (suc a) (suc b) (omega arith) ha (omega arith) hb ahead
      (subst (Nearest down (λ k. Less way (f k) (f (suc b))) n (suc b)) (sym e) back) in (omega arith, p)

  left_step→precedes : (a b : ℕ) → LeftStep (plan_of (drawing_of labels)) a b → Precedes labels up a b
  left_step→precedes a b d = let ha = place→position labels d.a< in let hb = place→position labels d.b< in
      meet→precedes up a b ha hb (ap (λ (room : Room). room.right) (sym (room_in_drawing labels a d.a<)) ∙ d.meet ∙ ap (λ (room : Room). room.left) (room_in_drawing labels b d.b<))
      (first_nearest (λ k. f (suc a) < f k) (λ k. dec_lt (f (suc a)) (f k)) n (suc a) (omega arith) ha)
      (last_nearest (λ k. f k < f (suc b)) (λ k. dec_lt (f k) (f (suc b))) n (suc b) (omega arith) hb)

  below_step→precedes : (a b : ℕ) → BelowStep (plan_of (drawing_of labels)) a b → Precedes labels down a b
  below_step→precedes a b d = let ha = place→position labels d.a< in let hb = place→position labels d.b< in
      meet→precedes down a b ha hb (ap (λ (room : Room). room.top) (sym (room_in_drawing labels a d.a<)) ∙ d.meet ∙ ap (λ (room : Room). room.bottom) (room_in_drawing labels b d.b<))
      (first_nearest (λ k. f k < f (suc a)) (λ k. dec_lt (f k) (f (suc a))) n (suc a) (omega arith) ha)
      (last_nearest (λ k. f (suc b) < f k) (λ k. dec_lt (f (suc b)) (f k)) n (suc b) (omega arith) hb)

  chain→precedes : (way : Way) {Direct : ℕ → ℕ → Type 0} → ((a b : ℕ) → Direct a b → Precedes labels way a b) → {a b : ℕ}
      → Chain Direct a b → Precedes labels way a b
  chain→precedes way direct (one d) = direct _ _ d
  chain→precedes way direct (step r d) = let (l, p) = chain→precedes way direct r in let (m, q) = direct _ _ d in (omega arith, past_trans p q)

  pub left→earlier_and_smaller : {a b : ℕ} → Left (plan_of (drawing_of labels)) a b
      → (a < b) × (label_at labels (suc a) < label_at labels (suc b))
  left→earlier_and_smaller r = let (l, p) = chain→precedes up left_step→precedes r in (l, p.less)

  pub below→earlier_and_larger : {a b : ℕ} → Below (plan_of (drawing_of labels)) a b
      → (a < b) × (label_at labels (suc b) < label_at labels (suc a))
  below→earlier_and_larger r = let (l, p) = chain→precedes down below_step→precedes r in (l, p.less)
