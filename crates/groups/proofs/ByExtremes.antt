-- Every room of a group stands on one side of every room of another one: which comparisons of their extremes say so. The law is one for
-- both directions, and with the groups exchanged it is that of the opposite sides.
use Rattle.std.specs.Prelude.{List, ◌↔◌, ℕ, ◌<◌}
use Rattle.std.proofs.Common.{subst}
use Rattle.record.specs.Labels.{EachOnce}
use Rattle.drawing.specs.Side.{converse}
use Rattle.drawing.specs.SideFacts.{converse_back}
use Rattle.drawing.specs.declared.Side.{Side}
use Rattle.drawing.specs.declared.Side.TheVariants.{Left, Right, Above, Below}
use Rattle.sizes.specs.Direction.{Direction, across, upward, Before}
use Rattle.groups.specs.Group.{EachIn, Fits}
use Rattle.groups.specs.Standing.{AllStand}
use Rattle.groups.proofs.StandingFacts.{fits_exchanged, stand_exchanged}
use Rattle.groups.specs.Pairs.{side_before}
use Rattle.groups.proofs.Pairs.{pair_before_iff_side}
use Rattle.groups.specs.Extremes.{Extremes, all_less_iff}

-- the first and the last position of a group, the least and the greatest label
pub record Span : Type 0 where
  pub first : ℕ
  pub last : ℕ
  pub least : ℕ
  pub greatest : ℕ

-- these are those of a group; f is the label at a position
pub record Spans (f : ℕ → ℕ) (group : List ℕ) (span : Span) : Type 0 where
  pub positions : Extremes group (λ k. k) span.first span.last
  pub labels : Extremes group f span.least span.greatest

-- the last position of one group is before the first of the other, and its labels lie before the other's, going across or upward
abbrev pub Precedes : Direction → (one other : Span) → Type 0
Precedes across one other = (one.last < other.first) × (one.greatest < other.least)
Precedes upward one other = (one.last < other.first) × (other.greatest < one.least)

-- the comparisons for each side
abbrev pub Between : Side → (one other : Span) → Type 0
Between Left one other = Precedes across one other
Between Right one other = Precedes across other one
Between Above one other = Precedes upward other one
Between Below one other = Precedes upward one other

-- a comparison of all pairs is one of the extremes
before_iff_precedes : (f : ℕ → ℕ) (way : Direction) {first second : List ℕ} {one other : Span} → Spans f first one → Spans f second other
    → EachIn first (λ i. EachIn second (λ j. Before f way i j)) ↔ Precedes way one other
before_iff_precedes f across s t = (
  λ h. (
    (all_less_iff s.positions t.positions).0 (λ i a b m j c d l. (h i a b m j c d l).0),
    (all_less_iff s.labels t.labels).0 (λ i a b m j c d l. (h i a b m j c d l).1),
  ),
  λ (g, h) i a b m j c d l. ((all_less_iff s.positions t.positions).1 g i a b m j c d l, (all_less_iff s.labels t.labels).1 h i a b m j c d l),
)
before_iff_precedes f upward s t = (
  λ h. (
    (all_less_iff s.positions t.positions).0 (λ i a b m j c d l. (h i a b m j c d l).0),
    (all_less_iff t.labels s.labels).0 (λ j c d l i a b m. (h i a b m j c d l).1),
  ),
  λ (g, h) i a b m j c d l. ((all_less_iff s.positions t.positions).1 g i a b m j c d l, (all_less_iff t.labels s.labels).1 h j c d l i a b m),
)

module _ (f : ℕ → ℕ) (n : ℕ) (once : EachOnce f n) where
  -- the sides on which the earlier positions stand
  ahead_iff : (way : Direction) (first second : List ℕ) → Fits n first second → {one other : Span} → Spans f first one → Spans f second other
      → AllStand f first second (side_before way) ↔ Precedes way one other
  ahead_iff way first second fits s t =
      let iff = before_iff_precedes f way s t in (
        λ h. iff.0 (λ i a b m j c d l. (pair_before_iff_side f n once first second fits a b m c d l way).1 (h i a b m j c d l)),
        λ h i a b m j c d l. (pair_before_iff_side f n once first second fits a b m c d l way).0 (iff.1 h i a b m j c d l),
      )

  -- and, with the groups exchanged, the opposite sides
  behind_iff : (way : Direction) (first second : List ℕ) → Fits n first second → {one other : Span} → Spans f first one → Spans f second other
      → AllStand f first second (converse (side_before way)) ↔ Precedes way other one
  behind_iff way first second fits s t =
      let back = fits_exchanged first second fits in
      let iff = ahead_iff way second first back t s in (
        λ h. iff.0 (subst (AllStand f second first) (converse_back (side_before way)) (stand_exchanged f first second fits.apart h)),
        λ h. stand_exchanged f second first back.apart (iff.1 h),
      )

  pub stand_iff_between : (side : Side) (first second : List ℕ) → Fits n first second → {one other : Span} → Spans f first one
      → Spans f second other → AllStand f first second side ↔ Between side one other
  stand_iff_between Left first second fits s t = ahead_iff across first second fits s t
  stand_iff_between Below first second fits s t = ahead_iff upward first second fits s t
  stand_iff_between Right first second fits s t = behind_iff across first second fits s t
  stand_iff_between Above first second fits s t = behind_iff upward first second fits s t
