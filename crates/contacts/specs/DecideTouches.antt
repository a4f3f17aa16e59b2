-- Whether two rooms touch is decided, on any room list: for each side of the one and the same or the opposite side of the other, a
-- stretch that holds both edges is looked for.
use Rattle.std.specs.Prelude.{◌≡◌, refl, ◌⊎◌, List, ℕ, ◌-◌, ◌<◌}
use Rattle.std.proofs.Common.{subst, inl, inr, le_refl, arith}
use Rattle.std.proofs.Math.Decide.{dec_lt}
use Rattle.std.proofs.Math.ListN.{length}
use Rattle.finite.specs.Decide.{dec-×, dec-×₃, dec-⊎, dec-¬, dec_iff}
use Rattle.drawing.specs.declared.Room.{Room}
use Rattle.drawing.specs.Drawing.{drawing_of}
use Rattle.finite.specs.Extremes.{least, greatest}
use Rattle.rooms.specs.Outline.{room_in, outline}
use Rattle.rooms.specs.Segment.{Stretch, Side, left_edge, right_edge, bottom_edge, top_edge, edge, Holds}
use Rattle.rooms.specs.DecideSegment.{HoldsBoth, dec_holds_both, dec_segment, dec_holds}
use Rattle.contacts.specs.Inner.{OutlineSide, InnerSegment}
use Rattle.contacts.specs.Touches.{opposite, SupportsBoth, Touches, PositionsTouch}

-- ---- inner segments
unfoldable dec_some_side : {P : Side → Type 0} → ((side : Side) → Dec (P side)) → Dec ((side : Side) × P side)
unfolding dec-⊎ dec_iff
dec_some_side {P} d = dec_iff to from (dec-⊎ (dec-⊎ (d left_edge) (d right_edge)) (dec-⊎ (d bottom_edge) (d top_edge)))
  where
    to : (P left_edge ⊎ P right_edge) ⊎ (P bottom_edge ⊎ P top_edge) → (side : Side) × P side
    to (inl (inl p)) = (left_edge, p)
    to (inl (inr p)) = (right_edge, p)
    to (inr (inl p)) = (bottom_edge, p)
    to (inr (inr p)) = (top_edge, p)

    from : (side : Side) × P side → (P left_edge ⊎ P right_edge) ⊎ (P bottom_edge ⊎ P top_edge)
    from (left_edge, p) = inl (inl p)
    from (right_edge, p) = inl (inr p)
    from (bottom_edge, p) = inr (inl p)
    from (top_edge, p) = inr (inr p)

-- two stretches are the same if each holds the other
unfoldable dec_same_stretch : (s t : Stretch) → Dec (s ≡ t)
unfolding dec-× dec_iff dec_holds
dec_same_stretch s t =
    dec_iff same (λ e. (subst (Holds s) e own, subst (λ (u : Stretch). Holds u s) e own)) (dec-× (dec_holds s t) (dec_holds t s))
  where
    own : Holds s s
    own = record { direction = refl; line = refl; from = le_refl s.from; to = le_refl s.to }

    same : Holds s t × Holds t s → s ≡ t
    same (h, k) =
        let from : s.from ≡ t.from = omega (arith, h.from, k.from) in
        let to : s.to ≡ t.to = omega (arith, h.to, k.to) in
        (λ i. record { direction = h.direction i; line = h.line i; from = from i; to = to i })

unfoldable dec_outline_side : (rooms : List Room) (s : Stretch) → Dec (OutlineSide rooms s)
unfolding dec_some_side dec_same_stretch least greatest
dec_outline_side rooms s = dec_some_side (λ side. dec_same_stretch s (edge side (outline rooms)))

unfoldable dec_inner : (rooms : List Room) (s : Stretch) → Dec (InnerSegment rooms s)
unfolding dec-× dec_iff dec-¬ dec_segment dec_outline_side
dec_inner rooms s = dec_iff
    (λ h. record { segment = h.0; not_outline_side = h.1 })
    (λ h. (h.segment, h.not_outline_side))
    (dec-× (dec_segment rooms s) (dec-¬ (dec_outline_side rooms s)))

-- ---- touch
module _ (rooms : List Room) (a b : ℕ) where
  abbrev InnerHoldsBoth : (of_a of_b : Side) → Type 0
  InnerHoldsBoth of_a of_b = HoldsBoth (InnerSegment rooms) (edge of_a (room_in rooms a)) (edge of_b (room_in rooms b))

  unfoldable dec_inner_holds_both : (of_a of_b : Side) → Dec (InnerHoldsBoth of_a of_b)
  unfolding dec_holds_both dec_inner
  dec_inner_holds_both of_a of_b =
      dec_holds_both rooms (InnerSegment rooms) (λ s inner. inner.segment) (dec_inner rooms) (edge of_a (room_in rooms a)) (edge of_b (room_in rooms b))

  abbrev FromSameOrOpposite : Side → Type 0
  FromSameOrOpposite side = InnerHoldsBoth side side ⊎ InnerHoldsBoth side (opposite side)

  unfoldable pub dec_touches : Dec (Touches rooms a b)
  unfolding dec-×₃ dec-⊎ dec_iff dec_lt dec_some_side dec_inner_holds_both
  dec_touches = dec_iff (λ (ha, hb, some). to ha hb some) from
      (dec-×₃ (dec_lt a (length rooms)) (dec_lt b (length rooms))
      (dec_some_side (λ side. dec-⊎ (dec_inner_holds_both side side) (dec_inner_holds_both side (opposite side)))))
    where
      touches : a < length rooms → b < length rooms → (s : Stretch) → InnerSegment rooms s → SupportsBoth s (room_in rooms a) (room_in rooms b)
          → Touches rooms a b
      touches ha hb s inner both = record { a< = ha; b< = hb; by = s; inner = inner; supports_both = both }

      to : a < length rooms → b < length rooms → (side : Side) × FromSameOrOpposite side → Touches rooms a b
      to ha hb (side, inl (s, inner, first, second)) = touches ha hb s inner (record { side = side; supports_first = first; supports_second = inl second })
      to ha hb (side, inr (s, inner, first, second)) = touches ha hb s inner (record { side = side; supports_first = first; supports_second = inr second })

      from : Touches rooms a b → (a < length rooms) × (b < length rooms) × ((side : Side) × FromSameOrOpposite side)
      from t = let both = t.supports_both in (
        t.a<,
        t.b<,
        (
          both.side,
          elim both.supports_second [
            | inl same ↦ inl (t.by, t.inner, both.supports_first, same)
            | inr across ↦ inr (t.by, t.inner, both.supports_first, across)
          ],
        ),
      )

abbrev pub dec_positions_touch : (labels : List ℕ) (first second : ℕ) → Dec (PositionsTouch labels first second)
dec_positions_touch labels first second = dec_touches (drawing_of labels) (first - 1) (second - 1)
