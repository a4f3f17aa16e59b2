-- `trees::part_end` meets its contract: a room in its place has a line after it; else the first and the last label tell whether a line is
-- looked for.
use Rattle.std.proofs.Common.{true}
use Rattle.trees.proofs.Putting.{first_told, ends_part}
use Rattle.trees.proofs.part_end.Goals as goal

pub returns-then-stands_before : goal.returns-then-stands_before
returns-then-stands_before c =
    let a = c.args in
    ends_part a.cut c.find_line.result c.requires
    (first_told a.labels.now a.cut a.from a.to true c.requires.position c.requires.interval.some c.if-stands_before.ensures) c.find_line.ensures
