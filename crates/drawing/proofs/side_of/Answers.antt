-- `side_of` meets its contract. Each of the four answers is given where the two comparisons of its case hold.
-- The laws of these cases say that it is the one that is defined.
use Rattle.drawing.proofs.Cases.{side_left, side_below, side_right, side_above}
use Rattle.drawing.proofs.side_of.Goals as goal

pub returns-then-labels-i : goal.returns-then-labels-i
returns-then-labels-i c = side_left _ _ _ _ _ c.index-i.ensures c.index-j.ensures c.if-i-j.true c.if-labels-i.true

pub returns-then-i-j : goal.returns-then-i-j
returns-then-i-j c = side_below _ _ _ _ _ c.index-i.ensures c.index-j.ensures c.if-i-j.true c.if-labels-i.false

pub returns-then-labels-j : goal.returns-then-labels-j
returns-then-labels-j c = side_right _ _ _ _ _ c.index-i.ensures c.index-j.ensures c.if-i-j.false c.if-labels-j.true

pub returns : goal.returns
returns c = side_above _ _ _ _ _ c.index-i.ensures c.index-j.ensures c.if-i-j.false c.if-labels-j.false
