-- What is answered for an accepted record and two groups whose last positions are known, check by check.
use mathlib.Core.List.{List}
use mathlib.Core.Logic.{◌⊎◌, inl, inr}
use mathlib.Core.Path.{◌≡◌, ap, subst, ◌∙◌}
use Prim.Native.Nat.{ℕ, ◌<◌}
use native.Mathlib.Omega.{arith}
use Rattle.record.specs.Labels.{label_at}
use Rattle.record.specs.Read.{kind_of, labels_of}
use Rattle.record.specs.declared.Refusal.TheVariants.{PositionOutside, EmptyGroup, SamePosition}
use Rattle.judging.specs.Judge.{Accepts}
use Rattle.judging.specs.Passed.{tail}
use Rattle.judging.specs.Walkable.{labels_in, labels_in_body}
use Rattle.groups.specs.Group.{SomeIn, Outside, Empty, SomeEmpty, Common, Fits}
use Rattle.groups.specs.Answer.{standing, groups_answer}
use Rattle.groups.proofs.StandingFacts.{standing_says}
use Rattle.groups.proofs.Demand1.{Asked, outside, empty, common, asked_answer, demand1_groups_answer}
use Rattle.std.specs.Prelude.{Option, Some, None, Err}
use Rattle.grouping.specs.Ends.{IsLast, LastIn, Past}

module _ {bytes : List ℕ} {n fallen : ℕ} (a : Accepts bytes n fallen) (first second : List ℕ) (one other : Option ℕ)
    (one_end : LastIn first one) (other_end : LastIn second other) where
  -- of a plan of n rooms, which is the record's kind
  of_kind : Outside n first second → Outside (kind_of bytes) first second
  of_kind = subst (λ (m : ℕ). Outside m first second) a.rooms_are

  outside_of : (group : List ℕ) (last : Option ℕ) → LastIn group last → Past n last → SomeIn group (λ k. n < k)
  outside_of group (Some last) end h = (last, end.from, omega (arith, end.few), (end.has, h))
  outside_of group None end h = absurd h

  pub past_rooms : (Past n one) ⊎ (Past n other) → Err PositionOutside ≡ groups_answer bytes first second
  past_rooms past = demand1_groups_answer bytes first second (outside a.readable (of_kind (elim past [
    | inl h ↦ inl (outside_of first one one_end h)
    | inr h ↦ inr (outside_of second other other_end h)
  ])))

  module _ (none_past : ¬ ((Past n one) ⊎ (Past n other))) where
    within : (group : List ℕ) (last : Option ℕ) → LastIn group last → ¬ Past n last → ¬ SomeIn group (λ k. n < k)
    within group (Some last) end none (k, c, d, (m, h)) = none (omega (arith, end.none_past k c d m))
    within group None end none (k, c, d, (m, h)) = end (k, c, d, m)

    inside : ¬ Outside n first second
    inside (inl z) = within first one one_end (λ h. none_past (inl h)) z
    inside (inr z) = within second other other_end (λ h. none_past (inr h)) z

    inside_kind : ¬ Outside (kind_of bytes) first second
    inside_kind = subst (λ (m : ℕ). ¬ Outside m first second) a.rooms_are inside

    pub first_empty : Empty first → Err EmptyGroup ≡ groups_answer bytes first second
    first_empty none = demand1_groups_answer bytes first second (empty a.readable inside_kind (inl none))

    pub second_empty : Empty second → Err EmptyGroup ≡ groups_answer bytes first second
    second_empty none = demand1_groups_answer bytes first second (empty a.readable inside_kind (inr none))

    module _ {one_last other_last : ℕ} (one_is : IsLast first one_last) (other_is : IsLast second other_last) where
      filled : ¬ SomeEmpty first second
      filled (inl e) = e (one_last, one_is.from, omega (arith, one_is.few), one_is.has)
      filled (inr e) = e (other_last, other_is.from, omega (arith, other_is.few), other_is.has)

      pub shared_position : Common first second → Err SamePosition ≡ groups_answer bytes first second
      shared_position c = demand1_groups_answer bytes first second (common a.readable inside_kind filled c)

      module _ (apart : ¬ Common first second) where
        pub fits : Fits n first second
        fits = record { inside = inside; filled = filled; apart = apart }

        asked : Asked bytes first second
        asked = record { readable = a.readable; fits = subst (λ (m : ℕ). Fits m first second) a.rooms_are fits }

        pub answered : standing (label_at (labels_in (tail bytes) n)) first second ≡ groups_answer bytes first second
        answered =
            ap (λ (labels : List ℕ). standing (label_at labels) first second) (labels_in_body bytes a.rooms_are)
            ∙ asked_answer bytes first second asked (standing (label_at (labels_of bytes)) first second) (standing_says (label_at (labels_of bytes)) first second)
