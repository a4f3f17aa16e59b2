-- The state of a plan that is built room by room: "the triples still present", the newest first. Its rooms and runs are those that the
-- record's walk along these triples gives from the start.
use Rattle.std.specs.Prelude.{false, List, ℕ, suc, ◌+◌, ◌-◌, ◌*◌, length, get_or}
use Rattle.record.specs.Triple.{Triple, triple}
use Rattle.record.specs.Walk.{Counts, missing, counts, walk}

-- "a plan that starts with one room", to which each triple has added one
abbrev pub rooms_of : List Triple → ℕ
rooms_of present = suc (length present)

-- the triple of a position from 2 to n: the newest is that of position n
abbrev pub present_at : List Triple → ℕ → Triple
present_at present i = get_or present (rooms_of present - i) (triple false false false)

-- the run counts p and q
unfoldable pub counts_of : List Triple → Counts
unfolding walk
counts_of present = walk (present_at present) (length present)

-- the runs are p + q + 1, the current one among them
abbrev pub runs_in : Counts → ℕ
runs_in missing = 0
runs_in (counts p q) = suc (p + q)

abbrev pub runs_of : List Triple → ℕ
runs_of present = runs_in (counts_of present)

-- "After each move give the rooms and runs": an entry is 256 × rooms + runs
abbrev pub entry_of : List Triple → ℕ
entry_of present = 256 * rooms_of present + runs_of present
