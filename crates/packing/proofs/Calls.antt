-- What the three calls answer of a record and lists that are refused, or admitted: then the walk along the record's body gives the lowest
-- corners, the needed lengths, and whether the relations are honoured.
use mathlib.Core.Bool.{Bool}
use mathlib.Core.List.{List, ◌++◌}
use mathlib.Core.Logic.{inl, inr, ⊎_elim}
use mathlib.Core.Path.{◌≡◌, sym, ap, subst, ◌∙◌}
use Prim.Native.Nat.{ℕ, suc, ◌≤◌, ◌<◌}
use native.Mathlib.Omega.{arith}
use lib.IntN.{ℤ, pos, ◌-ℤ◌}
use lib.ListN.{length, drop}
use Rattle.finite.specs.Decide.{Tells}
use Rattle.finite.specs.Table.{table}
use Rattle.record.specs.Labels.{label_at}
use Rattle.record.specs.Read.{kind_of, labels_of}
use Rattle.record.proofs.Demand2Read.{readable_only_list}
use Rattle.record.specs.declared.Refusal.{Refusal}
use Rattle.record.specs.declared.Refusal.TheVariants as refusal
use Rattle.judging.specs.Passed.{tail}
use Rattle.sizes.specs.Direction.{Direction, across, upward}
use Rattle.sizes.specs.Lowest.{start_at, needed_length}
use Rattle.sizes.specs.Lists.{EachWay, each_way_lem, number_at, lowest_corners, slack_of, HonoursAll}
use Rattle.sizes.specs.Sized.{lengths_of, Sized, Unsized, unsized_as, sized_as}
use Rattle.std.specs.Prelude.{Ok, Err}
use Rattle.sizes.specs.Answer.{slack_each_way, corners_answer, slack_answer, placing_answer}
use Rattle.sizes.specs.Demand1.{OtherSizes, refused, short, placed, no_slack, slack_is, no_placing, broken, accepted, demand1_corners_answer, demand1_slack_answer, demand1_placing_answer}
use Rattle.packing.specs.Admitted.{OtherLengths, Admitted}
use Rattle.judging.specs.Walkable.{labels_in, Walkable, readable_has_bytes, readable_walkable, labels_in_body}
use Rattle.placing.specs.Along.{LowestFor}
use Rattle.packing.proofs.Admitted.{same_lengths}

-- ---- admitted: there is a size for each room, and the body can be walked
module _ {bytes : List ℕ} {n : ℕ} {sizes : EachWay (List ℕ)} {corners : EachWay ℕ} (a : Admitted bytes n sizes corners) where
  abbrev labels : List ℕ
  labels = labels_of bytes

  pub size_is : (way : Direction) → length (sizes way) ≡ n
  size_is = each_way_lem (λ way. length (sizes way) ≡ n) (same across ∙ sym a.kind) (same upward ∙ sym a.kind)
    where
      same : (way : Direction) → lengths_of sizes way ≡ kind_of bytes
      same = same_lengths (λ h. a.sized.same_length (inl h))

  pub corner_is : (way : Direction) → corners way ≡ n
  corner_is way = same_lengths (λ h. a.sized.same_length (inr h)) way ∙ sym a.kind

  pub has_bytes : 1 ≤ length bytes
  has_bytes = readable_has_bytes a.sized.readable a.kind a.few

  pub walkable : {m : ℕ} → m ≡ n → Walkable (tail bytes) m
  walkable e = subst (Walkable (tail bytes)) (sym e) (readable_walkable a.sized.readable a.kind a.few)

  -- its labels are the record's
  labels_are : {m : ℕ} → m ≡ n → labels_in (tail bytes) m ≡ labels_of bytes
  labels_are e = labels_in_body bytes (e ∙ a.kind)

  count_is : {m : ℕ} → m ≡ n → m ≡ length (labels_of bytes)
  count_is e = e ∙ a.kind ∙ sym (readable_only_list bytes a.sized.readable).size

  -- what the walks give is what is defined
  module _ {m : ℕ} (e : m ≡ n) (way : Direction) {list before after : List ℕ} {needed : ℕ} (found : LowestFor (label_at (labels_in (tail bytes) m)) way m list before needed after) where
    pub lowest_front : after ≡ lowest_corners (labels_of bytes) way list ++ drop n before
    unfolding lowest_corners
    lowest_front = found.starts_are
        ∙ (λ j. table (λ i. start_at (label_at (labels_are e j)) way (number_at list) (count_is e j) (suc i)) (count_is e j) ++ drop (e j) before)

    pub slack_found : (outline : ℕ) → pos outline -ℤ pos needed ≡ slack_of (labels_of bytes) way list outline
    unfolding slack_of
    slack_found outline = ap (λ (z : ℕ). pos outline -ℤ pos z) found.needed_is
        ∙ (λ j. pos outline -ℤ pos (needed_length (label_at (labels_are e j)) way (number_at list) (count_is e j)))

  pub honours_told : {m : ℕ} → m ≡ n → (t : Bool) (put : EachWay (List ℕ)) → Tells t (HonoursAll (labels_in (tail bytes) m) sizes put)
      → Tells t (HonoursAll (labels_of bytes) sizes put)
  honours_told e t put told = subst (λ (list : List ℕ). Tells t (HonoursAll list sizes put)) (labels_are e) told

-- ---- the answers, where the lists of sizes stand for those of corners too
module _ (bytes : List ℕ) (sizes : EachWay (List ℕ)) where
  abbrev Twice : Type 0
  Twice = OtherLengths (kind_of bytes) (lengths_of sizes) (lengths_of sizes)

  once : Twice → OtherSizes bytes sizes
  once = ⊎_elim (λ p. p) (λ p. p)

  pub corners_refused : (places : EachWay ℕ) (refusal : Refusal) → Unsized bytes Twice sizes refusal
      → Err refusal ≡ corners_answer bytes sizes places
  corners_refused places refusal cause = demand1_corners_answer bytes sizes places (refused (unsized_as once inl cause))

  pub slack_refused : (outline : EachWay ℕ) (refusal : Refusal) → Unsized bytes Twice sizes refusal
      → Err refusal ≡ slack_answer bytes sizes outline
  slack_refused outline refusal cause = demand1_slack_answer bytes sizes outline (no_slack (unsized_as once inl cause))

  module _ {n : ℕ} (a : Admitted bytes n sizes (lengths_of sizes)) where
    all : Sized bytes (OtherSizes bytes sizes) sizes
    all = sized_as once inl a.sized

    pub corners_short : (places : EachWay ℕ) (way : Direction) → places way < n
        → Err refusal.ShortOutput ≡ corners_answer bytes sizes places
    corners_short places way h =
        demand1_corners_answer bytes sizes places (short all (way, subst (λ (m : ℕ). places way < m) a.kind h))

    pub corners_placed : (places : EachWay ℕ) → n ≤ places across → n ≤ places upward
        → Ok n ≡ corners_answer bytes sizes places
    corners_placed places h k =
        ap Ok a.kind ∙ demand1_corners_answer bytes sizes places (placed all (λ (way, p). long way p))
      where
        long : (way : Direction) → places way < kind_of bytes → ⊥
        long across p = omega (arith, a.kind)
        long upward p = omega (arith, a.kind)

    pub slack_answered : (outline : EachWay ℕ) {x y : ℤ} → x ≡ slack_of (labels_of bytes) across (sizes across) (outline across)
        → y ≡ slack_of (labels_of bytes) upward (sizes upward) (outline upward) → slack_each_way x y ≡ slack_answer bytes sizes outline
    slack_answered outline p q = demand1_slack_answer bytes sizes outline (slack_is all p q)

-- ---- the answers for a placing
module _ (bytes : List ℕ) (sizes corners : EachWay (List ℕ)) where
  pub placing_refused : (refusal : Refusal) → Unsized bytes (OtherLengths (kind_of bytes) (lengths_of sizes) (lengths_of corners)) sizes refusal
      → Err refusal ≡ placing_answer bytes sizes corners
  placing_refused refusal cause = demand1_placing_answer bytes sizes corners (no_placing cause)

  module _ {n : ℕ} (a : Admitted bytes n sizes (lengths_of corners)) where
    pub placing_broken : ¬ HonoursAll (labels_of bytes) sizes corners → Err refusal.BrokenRelation ≡ placing_answer bytes sizes corners
    placing_broken h = demand1_placing_answer bytes sizes corners (broken a.sized h)

    pub placing_accepted : HonoursAll (labels_of bytes) sizes corners → Ok tt ≡ placing_answer bytes sizes corners
    placing_accepted h = demand1_placing_answer bytes sizes corners (accepted a.sized h)
