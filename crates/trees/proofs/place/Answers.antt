-- `trees::place` meets its contract: the label that is read is one of the block's, so its place is one of the block's positions.
use Rattle.std.proofs.Common.{arith}
use Rattle.trees.proofs.Labels.{label_is, label_in_block}
use Rattle.trees.proofs.place.Goals as goal

pub overflow_sub-result : goal.overflow_sub-result
overflow_sub-result c =
    let p = c.requires in
    omega (arith, label_in_block p.0 p.1 p.2 c.from-label.ensures)

pub overflow_sub-result-in-Horizontal : goal.overflow_sub-result-in-Horizontal
overflow_sub-result-in-Horizontal c =
    let p = c.requires in
    omega (arith, label_in_block p.0 p.1 p.2 c.from-label.ensures)

pub returns-in-Vertical : goal.returns-in-Vertical
returns-in-Vertical c =
    let p = c.requires in
    let label = c.from-label.ensures in
    let within = label_in_block p.0 p.1 p.2 label in
    rw (c.in-Vertical.is, ← label_is p.0 p.1 p.2 label) (omega arith, omega arith)

pub returns-in-Horizontal : goal.returns-in-Horizontal
returns-in-Horizontal c =
    let p = c.requires in
    let label = c.from-label.ensures in
    let within = label_in_block p.0 p.1 p.2 label in
    rw (c.in-Horizontal.is, ← label_is p.0 p.1 p.2 label) (omega arith, omega arith)
