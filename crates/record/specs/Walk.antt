-- The walk along the triples. "Read from the front, the labels seen so far form runs of consecutive labels. Let the current run
-- hold the newest label, with p runs below it and q above. Start: p = 0, q = 0. The triple decides among eight steps."
use Rattle.std.specs.Prelude.{◌≡◌, true, false, ℕ, zero, suc, ◌-◌}
use Rattle.record.specs.Triple.{Triple, triple}

-- the run counts p and q, or a triple needed a run that is missing
pub data Counts : Type 0 where
  missing : Counts
  counts : (p q : ℕ) → Counts

-- the table: a row a triple, or two where it needs p ≥ 1 or q ≥ 1
unfoldable pub step : Triple → (p q : ℕ) → Counts
step (triple false false false) p q = counts (suc p) q
step (triple false true false) p q = counts p q
step (triple true false false) p zero = missing
step (triple true false false) p (suc q) = counts (suc p) q
step (triple true true false) p zero = missing
step (triple true true false) p (suc q) = counts p q
step (triple false false true) p q = counts p (suc q)
step (triple true false true) p q = counts p q
step (triple false true true) zero q = missing
step (triple false true true) (suc p) q = counts p (suc q)
step (triple true true true) zero q = missing
step (triple true true true) (suc p) q = counts p q

abbrev pub and_then : Counts → (ℕ → ℕ → Counts) → Counts
and_then missing next = missing
and_then (counts p q) next = next p q

-- the counts after the first k of the triples of positions 2, 3, ..
unfoldable pub walk : (ℕ → Triple) → (k : ℕ) → Counts
unfolding step
walk triples zero = counts 0 0
walk triples (suc k) = and_then (walk triples k) (step (triples (suc (suc k))))

-- the triples of positions 2 to n are accepted: no run is missing, and "at the end p and q are both 0"
abbrev pub Accepted : (ℕ → Triple) → (n : ℕ) → Type 0
Accepted triples n = walk triples (n - 1) ≡ counts 0 0
