-- The newest triple is the last step of the walk, so a state's counts come from those of the state before it by one step.
use Rattle.std.specs.Prelude.{false, List, [], ◌∷◌, ◌≡◌, ℕ, suc, ◌+◌, ◌-◌, ◌≤◌, ◌<◌, length, get_or}
use Rattle.std.proofs.Common.{ap}
use Rattle.std.proofs.Math.Path.{ap₂}
use native.Mathlib.Omega.{arith}
use Rattle.record.specs.Triple.{Triple, triple}
use Rattle.record.specs.Walk.{Counts, missing, counts, step, and_then, walk}
use Rattle.record.proofs.Demand2Read.{walk_same}
use Rattle.steps.specs.Table.{Meets, step_meets, once_risen}
use Rattle.traces.specs.State.{rooms_of, present_at, counts_of}

module _ (t : Triple) (present : List Triple) where
  earlier_same : (i : ℕ) → i ≤ rooms_of present → present_at (t ∷ present) i ≡ present_at present i
  earlier_same i h =
      let e : rooms_of (t ∷ present) - i ≡ suc (rooms_of present - i) = omega arith in
      ap (λ (j : ℕ). get_or (t ∷ present) j (triple false false false)) e

  newest_is : present_at (t ∷ present) (rooms_of (t ∷ present)) ≡ t
  newest_is =
      let e : rooms_of (t ∷ present) - rooms_of (t ∷ present) ≡ 0 = omega arith in
      ap (λ (j : ℕ). get_or (t ∷ present) j (triple false false false)) e

  pub counts_add : counts_of (t ∷ present) ≡ and_then (counts_of present) (step t)
  unfolding counts_of walk
  counts_add =
      let same = walk_same (present_at (t ∷ present)) (present_at present) (length present) (λ i l h. earlier_same i h) in
      ap₂ (λ (c : Counts) (u : Triple). and_then c (step u)) same newest_is

-- a step leaves at most one run more
abbrev Grows : (p q : ℕ) → Counts → Type 0
Grows p q missing = Unit
Grows p q (counts p-next q-next) = p-next + q-next ≤ suc (p + q)

step_grows : (t : Triple) (p q : ℕ) → Grows p q (step t p q)
step_grows t p q = go (step t p q) (step_meets t p q)
  where
    go : (c : Counts) → Meets t p q c → Grows p q c
    go missing m = tt
    go (counts p-next q-next) m = omega (arith, m, once_risen t)

-- so there are at most as many runs as rooms
abbrev Few : ℕ → Counts → Type 0
Few k missing = Unit
Few k (counts p q) = p + q ≤ k

counts_few : (present : List Triple) → Few (length present) (counts_of present)
counts_few [] = unfold counts_of walk in omega arith
counts_few (t ∷ present) = rw (counts_add t present) (go (counts_of present) (counts_few present))
  where
    on : (p q : ℕ) (c : Counts) → Grows p q c → p + q ≤ length present → Few (suc (length present)) c
    on p q missing g h = tt
    on p q (counts p-next q-next) g h = omega arith

    go : (c : Counts) → Few (length present) c → Few (suc (length present)) (and_then c (step t))
    go missing h = tt
    go (counts p q) h = on p q (step t p q) (step_grows t p q) h

pub runs_few : (present : List Triple) (p q : ℕ) → counts_of present ≡ counts p q → p + q < rooms_of present
runs_few present p q e = let few = counts_few present in let h : p + q ≤ length present = rw e at few in omega arith
