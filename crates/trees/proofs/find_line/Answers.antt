-- `trees::find_line` meets its contract: each turn looks at a room more from either end.
use mathlib.Core.Path.{ap, ◌∙◌}
use Prim.Native.Nat.{ℕ, ◌+◌, max, min}
use native.Mathlib.Omega.{arith}
use Rattle.slicing.proofs.LineSearch.{search_goes_on, line_from_left, line_from_right, no_line}
use Rattle.trees.proofs.find_line.Goals as goal

pub returns-then-i-end : goal.returns-then-i-end
returns-then-i-end c =
    let inv = c.loop-end.invariant in
    let room = c.loop-end-test.true in
    (inv.some, omega (arith, inv.more), line_from_left c.requires.0.interval inv room c.if-i-end.true)

pub returns-then-j-start : goal.returns-then-j-start
returns-then-j-start c =
    let inv = c.loop-end.invariant in
    let room = c.loop-end-test.true in
    (omega (arith, inv.some), inv.more, line_from_right c.requires.0.interval inv room c.if-j-start.true)

pub loop-end-preserved : goal.loop-end-preserved
loop-end-preserved c =
    let l = c.loop-end in
    let inv = l.invariant in
    search_goes_on c.requires.0.interval inv c.loop-end-test.true
    (omega (arith, inv.upto, c.if-i-end.false)) (omega (arith, inv.downto, c.if-j-start.false))
    (c.max-end.ensures ∙ ap (λ (x : ℕ). max l.end (x + 1)) c.place.ensures.0)
    (c.min-start.ensures ∙ ap (λ (x : ℕ). min l.start x) c.place-in-loop-end.ensures.0)

pub returns : goal.returns
returns c = let inv = c.loop-end.invariant in no_line c.requires.0.interval inv (omega (arith, c.loop-end-test.false))
