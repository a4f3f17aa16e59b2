-- The rooms of two groups, pair by pair, where nothing is refused: a room of the first stands left of one of the second, or below it, if it
-- stands before that across or upward, and else the other way round. So where all positions of the first come before those of the second,
-- it is enough to know whether some room stands before another one across, and whether one does upward.
use Rattle.std.specs.Prelude.{List, ◌≢◌, ◌⊎◌, ◌↔◌, ◌≡◌, refl, ℕ, ◌≤◌, ◌<◌, None, Ok}
use Rattle.std.proofs.Common.{inl, inr, sym, ap, ◌∙◌, arith}
use Rattle.std.proofs.Math.Logic.{⊎_swap, ite}
use Rattle.std.proofs.Math.Decide.{dec_lt}
use Rattle.finite.specs.Decide.{le_or_lt}
use Rattle.record.specs.Labels.{EachOnce}
use Rattle.drawing.specs.Side.{side_of, converse}
use Rattle.drawing.proofs.SideFacts.{side_exchanged, exchange_side}
use Rattle.drawing.specs.declared.Side.{Side}
use Rattle.drawing.specs.declared.Side.TheVariants.{Left, Right, Above, Below}
use Rattle.sizes.specs.Direction.{Direction, across, upward, Before}
use Rattle.sizes.specs.SideFacts.{left_iff_other_right, below_iff_other_above}
use Rattle.groups.specs.Group.{Member, Fits}
use Rattle.groups.specs.Standing.{AllStand}
use Rattle.groups.proofs.StandingFacts.{member_inside, apart, Says}
use Rattle.groups.specs.Pairs.{Ahead, SomeBefore, SomePair, other_way, side_before}

-- where all rooms stand on one side, so does a pair of which more is known
pair_side : (f : ℕ → ℕ) (first second : List ℕ) {Stands : (i j : ℕ) → Type 0} {side : Side} → SomePair first second Stands
    → AllStand f first second side → (i : ℕ) × (j : ℕ) × Stands i j × (side_of f i j ≡ side)
pair_side f first second (i, a, b, (m, (j, c, d, (l, h)))) all = (i, j, h, all i a b m j c d l)

before_iff_side : (f : ℕ → ℕ) (way : Direction) (i j : ℕ) → i ≢ j → f i ≢ f j → Before f way i j ↔ (side_of f i j ≡ side_before way)
before_iff_side f across i j differ labels = (
  λ p. exchange_side f j i (λ e. differ (sym e)) ((left_iff_other_right f i j differ labels).0 p),
  λ e. (left_iff_other_right f i j differ labels).1 (exchange_side f i j differ e),
)
before_iff_side f upward i j differ labels = (
  λ p. exchange_side f j i (λ e. differ (sym e)) ((below_iff_other_above f i j differ labels).0 p),
  λ e. (below_iff_other_above f i j differ labels).1 (exchange_side f i j differ e),
)

-- ---- positions alone: a room at an earlier position stands left or below, one at a later position right or above
abbrev later : Side → ℕ
later Left = 0
later Right = 1
later Above = 1
later Below = 0

earlier_stands : (f : ℕ → ℕ) (i j : ℕ) → i < j → later (side_of f i j) ≡ 0
unfolding side_of
earlier_stands f i j h = go (dec_lt i j) (dec_lt (f i) (f j)) (dec_lt (f j) (f i))
  where
    go : (e : Dec (i < j)) (s : Dec (f i < f j)) (l : Dec (f j < f i)) → later (ite e (ite s Left Below) (ite l Right Above)) ≡ 0
    go (yes e) (yes s) l = refl
    go (yes e) (no s) l = refl
    go (no e) s l = absurd (e h)

converse_later : (side : Side) → later side ≡ 0 → later (converse side) ≡ 1
converse_later Left e = refl
converse_later Right e = absurd (omega arith)
converse_later Above e = absurd (omega arith)
converse_later Below e = refl

later_stands : (f : ℕ → ℕ) (i j : ℕ) → j < i → later (side_of f i j) ≡ 1
later_stands f i j h =
    ap later (side_exchanged f j i (λ e. omega arith)) ∙ converse_later (side_of f j i) (earlier_stands f j i h)

-- so where a room of the first comes before one of the second, and one after one of them, no side is that of all
pub interleaved_mixed : (f : ℕ → ℕ) (first second : List ℕ) → SomePair first second (λ i j. i < j) → SomePair first second (λ i j. j < i)
    → Says f first second (Ok None)
interleaved_mixed f first second before after side all =
    let (i, j, h, e) = pair_side f first second before all in
    let (k, l, g, d) = pair_side f first second after all in
    omega (arith, sym (ap later e) ∙ earlier_stands f i j h, sym (ap later d) ∙ later_stands f k l g)

module _ (f : ℕ → ℕ) (n : ℕ) (once : EachOnce f n) (first second : List ℕ) (fits : Fits n first second) where
  -- a pair of rooms
  module _ {i j : ℕ} (a : 1 ≤ i) (b : i < 257) (m : Member first i) (c : 1 ≤ j) (d : j < 257) (l : Member second j) where
    positions_differ : i ≢ j
    positions_differ = apart first second fits.apart a b m l

    labels_differ : f i ≢ f j
    labels_differ e = positions_differ (once.once i j a (member_inside first (λ h. fits.inside (inl h)) i a b m) c
        (member_inside second (λ h. fits.inside (inr h)) j c d l) e)

    pub pair_before_iff_side : (way : Direction) → Before f way i j ↔ (side_of f i j ≡ side_before way)
    pair_before_iff_side way = before_iff_side f way i j positions_differ labels_differ

    -- the earlier one stands before the other, in one direction or the other one
    one_way : i < j → Before f across i j ⊎ Before f upward i j
    one_way h = elim (le_or_lt (f j) (f i)) [ inl g ↦ inr (h, omega (arith, labels_differ)) | inr g ↦ inl (h, g) ]

    either_way : (way : Direction) → i < j → Before f way i j ⊎ Before f (other_way way) i j
    either_way across h = one_way h
    either_way upward h = ⊎_swap (one_way h)

  -- where none stands before one in the other direction, all stand on one side
  pub all_one_way : (way : Direction) → Ahead first second → ¬ SomeBefore f (other_way way) first second → AllStand f first second (side_before way)
  all_one_way way ahead none i a b m j c d l = elim (either_way a b m c d l way (ahead i a b m j c d l)) [
    | inl p ↦ (pair_before_iff_side a b m c d l way).0 p
    | inr p ↦ absurd (none (i, a, b, (m, (j, c, d, (l, p)))))
  ]

  -- where some stand before some in both, they are mixed
  some_side : (way : Direction) → SomeBefore f way first second → SomePair first second (λ i j. side_of f i j ≡ side_before way)
  some_side way (i, a, b, (m, (j, c, d, (l, p)))) = (i, a, b, (m, (j, c, d, (l, (pair_before_iff_side a b m c d l way).0 p))))

  pub both_mixed : SomeBefore f across first second → SomeBefore f upward first second → Says f first second (Ok None)
  both_mixed left below side all =
      let (i, j, is-left, e) = pair_side f first second (some_side across left) all in
      let (k, l, is_below, d) = pair_side f first second (some_side upward below) all in
      let same : Left ≡ Below = sym is-left ∙ e ∙ sym d ∙ is_below in
      absurd (let z : ◌≡◌ {A = ℕ} 0 1 = cc in omega arith)
