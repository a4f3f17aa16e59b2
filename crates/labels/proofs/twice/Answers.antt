-- `labels::twice` meets its contract. The labels passed are marked and none of them occurs twice.
use mathlib.Core.Bool.{false}
use mathlib.Core.List.{List}
use mathlib.Core.Path.{◌≡◌, refl, sym, ap, subst, ◌∙◌}
use Prim.Native.Nat.{ℕ, suc, ◌+◌}
use native.Mathlib.Omega.{arith}
use native.Mathlib.Numerals.{add-one}
use lib.ListN.{get_or}
use Rattle.finite.specs.Decide.{told, told_not}
use Rattle.finite.specs.Marks.{Marks, marks_holds, marks_fails}
use Rattle.marks.specs.Seen.{mark_of, with_label, seen_after}
use Rattle.encoding.specs.Marked.{seen_of, marked_earlier}
use Rattle.labels.proofs.Found.{found_before}
use Rattle.labels.proofs.twice.Goals as goal
use Rattle.labels.proofs.twice.Invariants.{TwiceAt}

-- the mark of the next label tells whether it does
again : (labels seen : List ℕ) (i : ℕ) → seen ≡ seen_of labels i → Marks (mark_of seen (get_or labels i 0)) (TwiceAt labels (suc i))
again labels seen i e =
    subst (λ (seen : List ℕ). Marks (mark_of seen (get_or labels i 0)) (TwiceAt labels (suc i))) (sym e) (marked_earlier labels i (get_or labels i 0))

-- the marks with that label
seen_more : (labels seen after : List ℕ) (i : ℕ) → seen ≡ seen_of labels i → after ≡ with_label seen (get_or labels i 0) → after ≡ seen_of labels (i + 1)
unfolding seen_after
seen_more labels seen after i e f = rw (add-one i) (f ∙ ap (λ (seen : List ℕ). with_label seen (get_or labels i 0)) e)

pub loop-label-init : goal.loop-label-init
unfolding seen_after
loop-label-init c = (refl, λ (j, a, b, t). omega arith)

pub returns-then-mark : goal.returns-then-mark
returns-then-mark c =
    let labels = c.args.labels.now in
    let i = c.loop-label.label-index in
    let marked = again labels c.loop-label.seen i c.loop-label.invariant.0 in
    (suc i, omega arith, omega (arith, c.loop-label-test.true), marks_holds marked (told c.if-mark.true c.mark.ensures.was))

pub loop-label-preserved : goal.loop-label-preserved
loop-label-preserved c =
    let labels = c.args.labels.now in
    let i = c.loop-label.label-index in
    let marked = again labels c.loop-label.seen i c.loop-label.invariant.0 in (
      seen_more labels c.loop-label.seen _ i c.loop-label.invariant.0 c.mark.ensures.is,
      found_before (TwiceAt labels) i (marks_fails marked (told_not c.if-mark.false c.mark.ensures.was)) false c.loop-label.invariant.1,
    )
