-- Rooms whose labels are an interval: each has a place among their positions, by its label in the order of a cut, and where a line parts
-- them those before it and those after it have intervals of labels again.
use Rattle.std.proofs.Common.{inl, inr, arith}
use Rattle.std.specs.Prelude.{◌≡◌, ℕ, ◌+◌, ◌≤◌, ◌<◌}
use Rattle.finite.specs.Decide.{le_or_lt}
use Rattle.finite.specs.Search.{Each}
use Rattle.slicing.specs.Cuts.{Before, Parts}
use Rattle.slicing.specs.Places.{Places, first_places→later, last_places→earlier, lower→first_places}
use Rattle.slicing.specs.declared.Cut.{Cut}
use Rattle.slicing.specs.declared.Cut.TheVariants.{Vertical, Horizontal}
use Rattle.slicing.specs.Interval.{Interval, lowest_of_first, lowest_of_rest, place_of}

-- ---- labels of the interval
abbrev InRange : (s e lowest label : ℕ) → Type 0
InRange s e lowest label = (lowest ≤ label) × (label + s < lowest + e)

place_range : (cut : Cut) (s e lowest label : ℕ) → InRange s e lowest label
    → (s ≤ place_of cut s e lowest label) × (place_of cut s e lowest label < e)
place_range Vertical s e lowest label r = (omega arith, omega arith)
place_range Horizontal s e lowest label r = (omega arith, omega arith)

place_once : (cut : Cut) (s e lowest a b : ℕ) → InRange s e lowest a → InRange s e lowest b
    → place_of cut s e lowest a ≡ place_of cut s e lowest b → a ≡ b
place_once Vertical s e lowest a b r t q = omega arith
place_once Horizontal s e lowest a b r t q = omega arith

before→place : (cut : Cut) (s e lowest a b : ℕ) → InRange s e lowest a → InRange s e lowest b → Before cut a b
    → place_of cut s e lowest a < place_of cut s e lowest b
before→place Vertical s e lowest a b r t q = omega arith
before→place Horizontal s e lowest a b r t q = omega arith

place→before : (cut : Cut) (s e lowest a b : ℕ) → InRange s e lowest a → InRange s e lowest b
    → place_of cut s e lowest a < place_of cut s e lowest b → Before cut a b
place→before Vertical s e lowest a b r t q = omega arith
place→before Horizontal s e lowest a b r t q = omega arith

first_range : (cut : Cut) (s m e lowest label : ℕ) → s < m → m ≤ e → InRange s e lowest label
    → place_of cut s e lowest label < m → InRange s m (lowest_of_first cut m e lowest) label
first_range Vertical s m e lowest label some within r h = (omega arith, omega arith)
first_range Horizontal s m e lowest label some within r h = (omega arith, omega arith)

rest_range : (cut : Cut) (s m e lowest label : ℕ) → s < m → m ≤ e → InRange s e lowest label
    → m ≤ place_of cut s e lowest label → InRange m e (lowest_of_rest cut s m lowest) label
rest_range Vertical s m e lowest label some within r h = (omega arith, omega arith)
rest_range Horizontal s m e lowest label some within r h = (omega arith, omega arith)

-- ---- the rooms
module _ {f : ℕ → ℕ} {s e lowest : ℕ} (interval : Interval f s e lowest) (cut : Cut) where
  abbrev place : ℕ → ℕ
  place i = place_of cut s e lowest (f i)

  one_room : (i j : ℕ) → s ≤ i → i < e → s ≤ j → j < e → f i ≡ f j → i ≡ j
  one_room i j a b c d q = elim (le_or_lt i j) [
    | inl h ↦ elim (le_or_lt j i) [ inl g ↦ omega arith | inr g ↦ absurd (interval.distinct i j a g d q) ]
    | inr h ↦ absurd (interval.distinct j i c h b (omega arith))
  ]

  places : Places place s e
  places = record {
    range = λ i a b. place_range cut s e lowest (f i) (interval.range i a b);
    once = λ i j a b c d q. one_room i j a b c d (place_once cut s e lowest (f i) (f j) (interval.range i a b) (interval.range j c d) q);
  }

  module _ (m : ℕ) (some : s < m) (within : m ≤ e) where
    -- a line stands after the rooms up to m - 1 where their places are those up to m - 1
    pub parts→first_places : Parts f cut s m e → Each (λ i. place i < m) s m
    parts→first_places parts = lower→first_places places m some within
        (λ i j a b c d. before→place cut s e lowest (f i) (f j) (interval.range i a (omega arith)) (interval.range j (omega arith) d)
        (parts i a b j c d))

    pub first_places→parts : Each (λ i. place i < m) s m → Parts f cut s m e
    first_places→parts first i a b j c d =
        place→before cut s e lowest (f i) (f j) (interval.range i a (omega arith)) (interval.range j (omega arith) d)
        (omega (arith, first i a b, first_places→later places m some within first j c d))

    -- and the others' are the places from m on
    pub parts→last_places : Parts f cut s m e → Each (λ j. m ≤ place j) m e
    parts→last_places parts = first_places→later places m some within (parts→first_places parts)

    pub last_places→parts : Each (λ j. m ≤ place j) m e → Parts f cut s m e
    last_places→parts last = first_places→parts (last_places→earlier places m some within last)

    -- the labels of the first block, and of the rest
    pub interval_of_first : Parts f cut s m e → Interval f s m (lowest_of_first cut m e lowest)
    interval_of_first parts = record {
      some = some;
      range = λ i a b. first_range cut s m e lowest (f i) some within (interval.range i a (omega arith)) (parts→first_places parts i a b);
      distinct = λ i j a b c. interval.distinct i j a b (omega arith);
    }

    pub interval_of_rest : m < e → Parts f cut s m e → Interval f m e (lowest_of_rest cut s m lowest)
    interval_of_rest more parts = record {
      some = more;
      range = λ j a b. rest_range cut s m e lowest (f j) some within (interval.range j (omega arith) b) (parts→last_places parts j a b);
      distinct = λ i j a b c. interval.distinct i j (omega arith) b c;
    }
