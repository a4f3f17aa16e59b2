-- `group` meets its contract. By what `load` ensures the list shows the word, so the group is the word's three digits from `down` on,
-- which the shift and the mask with 7 take out.
use mathlib.Core.Path.{sym, ◌∙◌}
use Prim.Native.Nat.{◌-◌, ◌*◌, ◌/◌, ◌%◌, ◌^◌}
use lib.Bits.{and_mask, mask_lt}
use Rattle.bits.proofs.WordGroup.{group_shown}
use Rattle.bits.proofs.group.Goals as goal

pub returns : goal.returns
returns c =
    let a = c.args in
    let shifted = c.load.result / 2 ^ (13 - 3 * a.k % 8) in
    (and_mask shifted 3 ∙ sym (group_shown a.bytes.now a.k c.load.result c.load.ensures), mask_lt shifted 3)
