-- The walk along the triples with positions in place of labels. Forward, the newest position of each run beside the current one is
-- known; the current run's is the last position. Backward, of each run beside the current one, and of the current one on both
-- sides, the position that first comes to lie beyond its far end is known, less 1.
use Rattle.std.specs.Prelude.{Bool, true, false, List, [], ◌∷◌, ℕ, zero, suc, ◌-◌}
use Rattle.record.specs.Triple.{Triple, triple}
use Rattle.record.specs.Way.{Way, up, down}
use Rattle.record.specs.Sides.{rest_of}
use Rattle.record.specs.Runs.{facing}
use Rattle.record.specs.Decode.{bits_of, turn_of}

-- the first of some numbers, 0 if there is none
unfoldable pub first_of : List ℕ → ℕ
first_of [] = 0
first_of (x ∷ xs) = x

-- ---- forward
-- the newest positions of the runs that the label of position k + 2 meets, looking either way, nearest first, where those of the
-- runs beside the current one are given
abbrev pub newest_ahead : Triple → (k : ℕ) → (Way → List ℕ) → Way → List ℕ
newest_ahead t k newest = facing (turn_of t) (λ way. suc k) newest

-- the newest positions of the runs beside the current one after the first k of the triples of positions 2, 3, ..
unfoldable pub newest_after : (ℕ → Triple) → (k : ℕ) → Way → List ℕ
unfolding rest_of
newest_after triples zero way = []
newest_after triples (suc k) way = let t = triples (suc (suc k)) in rest_of (bits_of t way) (newest_ahead t k (newest_after triples k) way)

-- the newest position in the first run that the label of position i meets, looking either way; 0 if it meets none
unfoldable pub newest_met : (ℕ → Triple) → (i : ℕ) → Way → ℕ
unfolding newest_after first_of
newest_met triples zero way = 0
newest_met triples (suc zero) way = 0
newest_met triples (suc (suc k)) way = first_of (newest_ahead (triples (suc (suc k))) k (newest_after triples k) way)

-- ---- backward
-- of the current run on either side, and of the runs beside it, nearest first: the position that first comes to lie beyond, less 1;
-- n if none does
pub record Entered : Type 0 where
  pub current : Way → ℕ
  pub others : Way → List ℕ

-- a number put before others, or not
abbrev pub pushed : Bool → ℕ → List ℕ → List ℕ
pushed true x xs = x ∷ xs
pushed false x xs = xs

abbrev pub entered_met : Triple → Entered → Way → List ℕ
entered_met t y way = pushed (bits_of t way) (y.current way) (y.others way)

abbrev pub others_of : List ℕ → List ℕ
others_of [] = []
others_of (x ∷ xs) = xs

-- before the label of position p + 1, whose triple is t, came: on the side of its turn it is the first to lie beyond the current run
unfoldable pub entered_before : Triple → (p : ℕ) → Entered → Entered
unfolding first_of
entered_before (triple first second false) p y = let met = entered_met (triple first second false) y in record {
  current = λ way. elim way [ up ↦ p | down ↦ first_of (met down) ];
  others = λ way. elim way [ up ↦ met up | down ↦ others_of (met down) ];
}
entered_before (triple first second true) p y = let met = entered_met (triple first second true) y in record {
  current = λ way. elim way [ up ↦ first_of (met up) | down ↦ p ];
  others = λ way. elim way [ up ↦ others_of (met up) | down ↦ met down ];
}

-- after all n positions but the last j
unfoldable pub entered_but : (ℕ → Triple) → (n j : ℕ) → Entered
unfolding entered_before
entered_but triples n zero = record { current = λ way. n; others = λ way. [] }
entered_but triples n (suc j) = entered_before (triples (n - j)) (n - j - 1) (entered_but triples n j)
