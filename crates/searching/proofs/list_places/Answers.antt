-- `searching::list_places` meets its contract: the positions passed are placed, and none of their labels occurs twice.
use mathlib.Core.Path.{sym, subst}
use Prim.Native.Nat.{ℕ, suc}
use native.Mathlib.Omega.{arith}
use lib.ListN.{get_or}
use Rattle.record.specs.Labels.{label_at}
use Rattle.patterns.specs.Completion.{Place}
use Rattle.searching.specs.Places.{Places}
use Rattle.searching.proofs.Table.{placed_none, twice_here}
use Rattle.searching.proofs.list_places.Goals as goal
use Rattle.searching.proofs.list_places.Goals.{After-index-at}

-- what is listed for the next label
place : (c : After-index-at)
    → let f = label_at c.args.labels.now in
    Place f c.loop-i.i (f (suc c.loop-i.i)) (get_or c.loop-i.places c.index-at.result 0)
place c =
    let label = c.index-at.result in
    subst (λ (x : ℕ). Place (label_at c.args.labels.now) c.loop-i.i x (get_or c.loop-i.places label 0)) c.index-at.ensures.0
    (c.loop-i.invariant.0.each label (omega (arith, c.index-at.ensures)))

pub loop-i-init : goal.loop-i-init
loop-i-init c = (subst (Places _ 0) (sym c.requires) (placed_none _), λ (j, from, to, again). omega arith)

pub returns-then-places-at-ne0 : goal.returns-then-places-at-ne0
returns-then-places-at-ne0 c permutation =
    let i = c.loop-i.i in
    let at = goal.at.returns-then-places-at-ne0 c in
    let again = twice_here _ i (place at.After-index-at) (omega (arith, c.if-places-at-ne0.true)) in
    permutation.single (suc i, omega arith, omega (arith, c.loop-i-test.true), again)
