-- Entries: they have 16 bits, and what a triple adds to one.
use mathlib.Core.List.{List, ◌∷◌}
use mathlib.Core.Path.{◌≡◌, ap, subst, ◌∙◌}
use Prim.Native.Nat.{ℕ, suc, ◌+◌, ◌≤◌}
use native.Mathlib.Omega.{arith}
use Rattle.record.specs.Triple.{Triple}
use Rattle.record.specs.Way.{up, down}
use Rattle.record.specs.Decode.{bits_of}
use Rattle.record.specs.Walk.{Counts, missing, counts, step, and_then}
use Rattle.record.specs.Read.{Missing}
use Rattle.traces.specs.State.{counts_of, runs_in, entry_of}
use Rattle.traces.specs.Newest.{counts_add}
use Rattle.traces.specs.Still.{Built}
use Rattle.traces.proofs.Still.{built_few, counted, built_runs}
use Rattle.steps.specs.Told.{bit_le}
use Rattle.steps.specs.Table.{Meets, step_meets, once_risen}
use Rattle.replaying.specs.Packed.{gain_of}

module _ {present : List Triple} (b : Built present) where
  pub entry_small : entry_of present ≤ 65535
  entry_small = omega (arith, built_runs b, built_few b)

gains : (t : Triple) (p q : ℕ) → ¬ Missing (step t p q) → 256 + runs_in (step t p q) ≡ suc (p + q) + gain_of t
gains t p q there = go (step t p q) (step_meets t p q) there
  where
    go : (c : Counts) → Meets t p q c → ¬ Missing c → 256 + runs_in c ≡ suc (p + q) + gain_of t
    go missing m h = absurd (h tt)
    go (counts p-next q-next) m h = omega (arith, m, once_risen t, bit_le (bits_of t down), bit_le (bits_of t up))

pub entry_added : (t : Triple) {present : List Triple} → Built present → ¬ Missing (counts_of (t ∷ present))
    → entry_of (t ∷ present) ≡ entry_of present + gain_of t
entry_added t {present} b there =
    let c = counted b in
    let next : counts_of (t ∷ present) ≡ step t c.below c.above =
    counts_add t present ∙ ap (λ (k : Counts). and_then k (step t)) c.are in
    let gained = gains t c.below c.above (subst (λ (k : Counts). ¬ Missing k) next there) in
    omega (arith, gained, ap runs_in next, ap runs_in c.are)
