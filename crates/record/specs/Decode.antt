-- Decoding triples along the table. Forward, only the number of labels in each run is known: a new label makes the run that it is
-- joined to longer, or a run of its own. At the end all labels, 1 to n, are one run; backward, the newest label is taken out of the
-- current run again, and its place there is its label.
use Rattle.std.specs.Prelude.{Bool, true, false, List, [], ◌∷◌, ℕ, zero, suc, ◌+◌, ◌-◌}
use Rattle.finite.specs.Table.{table}
use Rattle.record.specs.Triple.{Triple, triple}
use Rattle.record.specs.Way.{Way, up, down, other}
use Rattle.record.specs.Sides.{Run, rest_of}
use Rattle.record.specs.Runs.{Runs, facing}

-- ---- a triple's bits and turn
-- whether the new label is joined to a run above it, below it
abbrev pub bits_of : Triple → Way → Bool
bits_of (triple first second third) up = first
bits_of (triple first second third) down = second

-- the side of the current run on which the new label lies
abbrev pub turn_of : Triple → Way
turn_of (triple first second false) = up
turn_of (triple first second true) = down

-- ---- forward
-- how many labels the current run has, and the runs on both sides of it, nearest first
pub record Sizes : Type 0 where
  pub current : ℕ
  pub others : Way → List ℕ

abbrev pub sizes_ahead : Triple → Sizes → Way → List ℕ
sizes_ahead t q = facing (turn_of t) (λ way. q.current) q.others

-- the size of the run that the new label is joined to, 0 where it is joined to none
unfoldable pub joined_size : Bool → List ℕ → ℕ
joined_size false sizes = 0
joined_size true [] = 0
joined_size true (s ∷ sizes) = s

unfoldable pub grow_sizes : Triple → Sizes → Sizes
unfolding joined_size rest_of
grow_sizes t q = record {
  current = suc (joined_size (bits_of t up) (sizes_ahead t q up) + joined_size (bits_of t down) (sizes_ahead t q down));
  others = λ way. rest_of (bits_of t way) (sizes_ahead t q way);
}

-- after the first k of the triples of positions 2, 3, ..
unfoldable pub sizes_after : (ℕ → Triple) → (k : ℕ) → Sizes
unfolding grow_sizes
sizes_after triples zero = record { current = 1; others = λ way. [] }
sizes_after triples (suc k) = grow_sizes (triples (suc (suc k))) (sizes_after triples k)

-- how many labels of its run lie below the label of position k, as it is put there
unfoldable pub lower_size : (ℕ → Triple) → (k : ℕ) → ℕ
unfolding sizes_after joined_size
lower_size triples zero = 0
lower_size triples (suc zero) = 0
lower_size triples (suc (suc k)) = let t = triples (suc (suc k)) in joined_size (bits_of t down) (sizes_ahead t (sizes_after triples k) down)

-- ---- backward
abbrev pub beside : Way → ℕ → ℕ
beside up v = v + 1
beside down v = v - 1

-- the runs that the label v met one way, where its run now ends at e and has these runs after it
abbrev pub met : Bool → Way → (v e : ℕ) → List Run → List Run
met false way v e rest = rest
met true way v e rest = record { near = beside way v; far = e } ∷ rest

abbrev pub first_run : List Run → Run
first_run [] = record { near = 0; far = 0 }
first_run (r ∷ rs) = r

abbrev pub other_runs : List Run → List Run
other_runs [] = []
other_runs (r ∷ rs) = rs

-- the runs before a label was put on the side `turn`: onward it met the runs there, looking back the run that was current, and the
-- runs behind it
abbrev pub split : (turn : Way) → (onward back : List Run) → Runs
split up onward back = record { edge = λ way. elim way [ up ↦ (first_run back).near | down ↦ (first_run back).far ]; stack = λ way. elim way [ up ↦ onward | down ↦ other_runs back ] }
split down onward back = record { edge = λ way. elim way [ up ↦ (first_run back).far | down ↦ (first_run back).near ]; stack = λ way. elim way [ up ↦ other_runs back | down ↦ onward ] }

-- the runs before the newest label, which has `lower` labels of its run below it, was put in
unfoldable pub take_out : Triple → (lower : ℕ) → Runs → Runs
take_out t lower y = split (turn_of t) (runs (turn_of t)) (runs (other (turn_of t)))
  where
    runs : Way → List Run
    runs way = met (bits_of t way) way (y.edge down + lower) (y.edge way) (y.stack way)

-- the runs after all n positions but the last j
unfoldable pub runs_but : (ℕ → Triple) → (n j : ℕ) → Runs
unfolding take_out lower_size
runs_but triples n zero = record { edge = λ way. elim way [ up ↦ n | down ↦ 1 ]; stack = λ way. [] }
runs_but triples n (suc j) = take_out (triples (n - j)) (lower_size triples (n - j)) (runs_but triples n j)

-- the label of position i: above the lower labels of its run
unfoldable pub label_of : (ℕ → Triple) → (n i : ℕ) → ℕ
unfolding runs_but
label_of triples n i = (runs_but triples n (n - i)).edge down + lower_size triples i

-- the label list of the triples of positions 2 to n
unfoldable pub decode : (ℕ → Triple) → (n : ℕ) → List ℕ
unfolding label_of table
decode triples n = table (λ i. label_of triples n (suc i)) n
