-- Which edges lie on one segment is told by "left of" alone: two right edges do if both are on the outline, which no room is right
-- of, or some room is directly right of both. So maps that keep "left of" both ways keep it.
use Rattle.std.specs.Prelude.{◌≡◌, List, ℕ, ◌<◌}
use Rattle.std.proofs.Common.{sym, ap, ◌∙◌, subst, inl, inr, arith, eq-or-lt_of_le}
use Rattle.drawing.specs.declared.Room.{Room}
use Rattle.rooms.specs.Orders.{one}
use Rattle.rooms.specs.Plan.{Plan, Floorplan, swap, LeftStep, Left, left→right≤left, left_step→none_between, none_between→left_step}
use Rattle.rooms.specs.SharedRow.{left_neighbour, right_neighbour}
use Rattle.rooms.specs.Outline.{outline}
use Rattle.rooms.proofs.OnOutline.{on_outline→side}
use Rattle.rooms.specs.Segment.{Stretch, Side, left_edge, right_edge, bottom_edge, top_edge, edge}
use Rattle.rooms.specs.PlanOf.{plan_of}
use Rattle.rooms.proofs.SegmentOfEdge.{segment_of, segment_line, same→one_segment, one_segment→same}
use Rattle.rooms.proofs.Steps.{directly_left→step, directly_below→step, step→directly_left, step→directly_below}

-- ---- the near and the far edges of the rooms of a list, seen as a plan
pub record EdgePair (rooms : List Room) (p : Plan) (near far : Side) : Type 0 where
  pub step→same : (a b : ℕ) → LeftStep p a b → segment_of rooms far a ≡ segment_of rooms near b
  pub same→step : (a b : ℕ) → a < p.count → b < p.count → segment_of rooms far a ≡ segment_of rooms near b → LeftStep p a b
  pub far_outer : (a : ℕ) → a < p.count → p.right a ≡ p.east → segment_of rooms far a ≡ edge far (outline rooms)
  pub near_outer : (a : ℕ) → a < p.count → p.left a ≡ p.west → segment_of rooms near a ≡ edge near (outline rooms)
  pub far_line : (a b : ℕ) → segment_of rooms far a ≡ segment_of rooms far b → p.right a ≡ p.right b
  pub near_line : (a b : ℕ) → segment_of rooms near a ≡ segment_of rooms near b → p.left a ≡ p.left b

pub upright_pair : (rooms : List Room) → Floorplan (plan_of rooms) → EdgePair rooms (plan_of rooms) left_edge right_edge
upright_pair rooms k = record {
  step→same = λ a b d. one_segment→same rooms k right_edge left_edge a b (step→directly_left rooms k a b d);
  same→step = λ a b ha hb e. directly_left→step rooms a b (same→one_segment rooms k right_edge left_edge a b ha hb e);
  far_outer = on_outline→side rooms k right_edge;
  near_outer = on_outline→side rooms k left_edge;
  far_line = λ a b e. sym (segment_line rooms right_edge a) ∙ ap (λ (s : Stretch). s.line) e ∙ segment_line rooms right_edge b;
  near_line = λ a b e. sym (segment_line rooms left_edge a) ∙ ap (λ (s : Stretch). s.line) e ∙ segment_line rooms left_edge b;
}

pub flat_pair : (rooms : List Room) → Floorplan (plan_of rooms) → EdgePair rooms (swap (plan_of rooms)) bottom_edge top_edge
flat_pair rooms k = record {
  step→same = λ a b d. one_segment→same rooms k top_edge bottom_edge a b (step→directly_below rooms k a b d);
  same→step = λ a b ha hb e. directly_below→step rooms a b (same→one_segment rooms k top_edge bottom_edge a b ha hb e);
  far_outer = on_outline→side rooms k top_edge;
  near_outer = on_outline→side rooms k bottom_edge;
  far_line = λ a b e. sym (segment_line rooms top_edge a) ∙ ap (λ (s : Stretch). s.line) e ∙ segment_line rooms top_edge b;
  near_line = λ a b e. sym (segment_line rooms bottom_edge a) ∙ ap (λ (s : Stretch). s.line) e ∙ segment_line rooms bottom_edge b;
}

-- ---- maps that keep "left of", both ways
pub record KeepsLeft (p q : Plan) (there back : ℕ → ℕ) : Type 0 where
  pub there< : (a : ℕ) → a < p.count → there a < q.count
  pub back< : (a : ℕ) → a < q.count → back a < p.count
  pub keeps : (a b : ℕ) → Left p a b → Left q (there a) (there b)
  pub keeps_back : (a b : ℕ) → Left q a b → Left p (back a) (back b)
  pub back_there : (a : ℕ) → a < p.count → back (there a) ≡ a

module _ (rooms others : List Room) (p q : Plan) (k : Floorplan p) (kq : Floorplan q) (near far : Side) (u : EdgePair rooms p near far) (v : EdgePair others q near far) (there back : ℕ → ℕ) (c : KeepsLeft p q there back) where
  keeps_step : (a b : ℕ) → LeftStep p a b → LeftStep q (there a) (there b)
  keeps_step a b d = none_between→left_step (c.keeps a b (one d)) (λ m x y. left_step→none_between k d (back m)
      (subst (λ (z : ℕ). Left p z (back m)) (c.back_there a d.a<) (c.keeps_back (there a) m x))
      (subst (λ (z : ℕ). Left p (back m) z) (c.back_there b d.b<) (c.keeps_back m (there b) y)))

  pub far_near : (a b : ℕ) → a < p.count → b < p.count → segment_of rooms far a ≡ segment_of rooms near b
      → segment_of others far (there a) ≡ segment_of others near (there b)
  far_near a b ha hb e = v.step→same (there a) (there b) (keeps_step a b (u.same→step a b ha hb e))

  -- no room is right of a, on the far side; so it is on the far side over there
  far_on_outline : (a : ℕ) → a < p.count → p.right a ≡ p.east → q.right (there a) ≡ q.east
  far_on_outline a ha e = elim (eq-or-lt_of_le (kq.fits (there a) (c.there< a ha)).east) [
    | inl t ↦ t
    | inr t ↦ absurd (let (m, lm, hm, d) = right_neighbour q kq (there a) (c.there< a ha) t in
        let l = subst (λ (z : ℕ). Left p z (back m)) (c.back_there a ha) (c.keeps_back (there a) m (one d)) in
        omega (arith, left→right≤left k l, k.fits (back m) (c.back< m hm)))
  ]

  near_on_outline : (a : ℕ) → a < p.count → p.left a ≡ p.west → q.left (there a) ≡ q.west
  near_on_outline a ha e = elim (eq-or-lt_of_le (kq.fits (there a) (c.there< a ha)).west) [
    | inl t ↦ sym t
    | inr t ↦ absurd (let (m, lm, hm, d) = left_neighbour q kq (there a) (c.there< a ha) t in
        let l = subst (λ (z : ℕ). Left p (back m) z) (c.back_there a ha) (c.keeps_back m (there a) (one d)) in
        omega (arith, left→right≤left k l, k.fits (back m) (c.back< m hm)))
  ]

  pub far_far : (a b : ℕ) → a < p.count → b < p.count → segment_of rooms far a ≡ segment_of rooms far b
      → segment_of others far (there a) ≡ segment_of others far (there b)
  far_far a b ha hb e = elim (eq-or-lt_of_le (k.fits a ha).east) [
    | inl t ↦ v.far_outer (there a) (c.there< a ha) (far_on_outline a ha t) ∙ sym (v.far_outer (there b) (c.there< b hb) (far_on_outline b hb (sym (u.far_line a b e) ∙ t)))
    | inr t ↦
        let (m, lm, hm, d) = right_neighbour p k a ha t in
        let w = u.step→same a m d in
        far_near a m ha hm w ∙ sym (far_near b m hb hm (sym e ∙ w))
  ]

  pub near_near : (a b : ℕ) → a < p.count → b < p.count → segment_of rooms near a ≡ segment_of rooms near b
      → segment_of others near (there a) ≡ segment_of others near (there b)
  near_near a b ha hb e = elim (eq-or-lt_of_le (k.fits a ha).west) [
    | inl t ↦ v.near_outer (there a) (c.there< a ha) (near_on_outline a ha (sym t)) ∙ sym (v.near_outer (there b) (c.there< b hb) (near_on_outline b hb (sym (u.near_line a b e) ∙ sym t)))
    | inr t ↦
        let (m, lm, hm, d) = left_neighbour p k a ha t in
        let w = u.step→same m a d in
        sym (far_near m a hm ha w) ∙ far_near m b hm hb (w ∙ e)
  ]
