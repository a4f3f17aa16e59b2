-- `set_group` meets its contract. `load` ensures that the list shows the old word and `store` that it shows the new one;
-- the law of a number put into a word by a mask and a shift says how the two differ.
use native.Mathlib.Omega.{arith}
use Rattle.bits.proofs.WordGroup.{group_of_eight_set}
use Rattle.bits.proofs.set_group.Goals as goal

pub returns : goal.returns
returns c =
    let a = c.args in
    rw (← c.from.ensures)
    (group_of_eight_set a.bytes.now c.store.new.bytes a.m a.i c.load.result c.from.result (omega arith) (omega arith)
    c.load.ensures c.store.ensures)
