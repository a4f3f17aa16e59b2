-- `tallying::total_of` meets its contract: triple after triple.
use mathlib.Core.List.{List}
use mathlib.Core.Path.{◌≡◌, refl, subst, ◌∙◌}
use Prim.Native.Nat.{ℕ, suc, ◌+◌, ◌-◌, ◌<◌}
use native.Mathlib.Omega.{arith}
use Rattle.tallying.specs.Shows.{BothPlanes}
use Rattle.tallying.proofs.Start.{length_one}
use Rattle.tallying.proofs.Sweeping.{shows_as}
use Rattle.tallying.proofs.Totals.{first_plane, both_planes, total_fits, total_shows, totalled}
use Rattle.tallying.proofs.total_of.Goals as goal
use Rattle.tallying.proofs.total_of.Goals.{At-loop-k}

-- both planes, with the numbers in another form
both_as : {reach far k now : ℕ} {planes : List ℕ} → reach ≡ far → k ≡ now → BothPlanes reach k planes → BothPlanes far now planes
both_as {reach} {far} {k} {now} {planes} e d both =
    subst (λ (j : ℕ). BothPlanes far j planes) d (subst (λ (r : ℕ). BothPlanes r k planes) e both)

-- a turn is left
more : (l : At-loop-k) → let n = l.args.n in
    l.loop-k.k < n → BothPlanes (n - 1 - l.loop-k.k + 1) (l.loop-k.k - 1) l.loop-k.pair
more l h = both_as (omega arith) refl l.loop-k.invariant

pub loop-k-init : goal.loop-k-init
loop-k-init c =
    both_planes (c.args.n - 1) 0 (length_one 221) (first_plane (c.args.n - 1)) c.copy_back.ensures

pub sweep-requires : goal.sweep-requires
sweep-requires c =
    total_fits _ (c.loop-k.k - 1) c.min-reach.result (omega arith) (omega (arith, c.min-reach.ensures)) (more (goal.at.sweep-requires c).At-loop-k (omega arith))

pub loop-k-preserved : goal.loop-k-preserved
loop-k-preserved c =
    let shows = total_shows (c.args.n - 1 - c.loop-k.k) (c.loop-k.k - 1) c.min-reach.result (omega arith) (omega (arith, c.min-reach.ensures)) (more (goal.at.loop-k-preserved c).At-loop-k (omega arith)) c.sweep.ensures in
    both_as refl (omega arith) (both_planes (c.args.n - (c.loop-k.k + 1)) (suc (c.loop-k.k - 1)) (c.sweep.ensures.size ∙ c.loop-k.invariant.size) (shows_as shows refl (omega arith) (omega arith)) c.copy_back-in-loop-k.ensures)

pub returns : goal.returns
returns c =
    totalled c.args.n (c.loop-k.k - 1) (omega arith) (both_as (omega arith) refl c.loop-k.invariant)
