-- `label_list` meets its contract: before each turn the labels of the positions up to k stand in the list.
use Rattle.std.proofs.Common.{arith}
use Rattle.orders.proofs.Ranking.{labels_listed}
use Rattle.orders.proofs.label_list.Goals as goal

pub returns : goal.returns
returns c =
    let f = c.loop-k.invariant in
    λ rooms g. labels_listed g c.loop-k.list (omega (arith, f.size, c.requires.places))
    (λ q h. f.done q (omega arith) (omega (arith, c.loop-k-test.false)))
