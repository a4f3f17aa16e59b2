-- `labels::outside` meets its contract: the mark is set where a label of those passed is outside 1 to n.
use mathlib.Core.Logic.{inl, inr, ⊎_elim}
use native.Mathlib.Omega.{arith}
use Rattle.labels.proofs.Found.{found_by}
use Rattle.labels.proofs.outside.Goals as goal
use Rattle.labels.proofs.outside.Goals.{then-label-eq0, then-label-eq0-via-then-label-eq0, then-label-eq0-via-else-label-eq0+then-most-label, else-label-eq0+else-most-label}
use Rattle.labels.proofs.outside.Invariants.{OutsideAt}

pub loop-label-preserved : goal.loop-label-preserved
loop-label-preserved c =
    found_by (OutsideAt c.args.labels.now) c.loop-label.label-index c.loop-label.found c.if-label-eq0.found c.loop-label.invariant
    (elim c.if-label-eq0.branch [
      | then-label-eq0 w ↦ inl (
        elim w.then-label-eq0.branch [
          | then-label-eq0-via-then-label-eq0 w' ↦ inl (omega (arith, w'.if-label-eq0.true))
          | then-label-eq0-via-else-label-eq0+then-most-label w' ↦ inr (omega (arith, w'.if-most-label.true))
        ],
        w.found-is,
      )
      | else-label-eq0+else-most-label w ↦
          inr (⊎_elim (λ h. omega (arith, w.if-label-eq0.false)) (λ h. omega (arith, w.if-most-label.false)), w.found-is)
    ])
