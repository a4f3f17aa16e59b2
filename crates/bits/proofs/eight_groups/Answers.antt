-- `eight_groups` meets its contract: the word is that of three bytes, those past the end being 0.
use mathlib.Core.Path.{◌≡◌, refl, subst}
use Prim.Native.Nat.{◌+◌, ◌-◌, ◌*◌}
use native.Mathlib.Omega.{arith}
use lib.ListN.{length}
use Rattle.bits.specs.Eight.{EightGroups}
use Rattle.bits.proofs.Eight.{word, eight_groups, last_bytes}
use Rattle.bits.proofs.eight_groups.Goals as goal

pub returns-then-left-lt3 : goal.returns-then-left-lt3
returns-then-left-lt3 c =
    let a = c.args in
    let xs = a.bytes.now in
    let left = length xs - 3 * a.m in
    let high = c.from-high in
    let last = c.from in
    let low = last_bytes xs a.m last.result (omega arith) last.ensures (omega arith) left refl (omega (arith, c.if-left-lt3.true)) in
    let is : word xs a.m low.1 (omega (arith, low.2)) ≡ high.result * 65536 + last.result * 256 * (left - 1) = omega (arith, low.0, low.2) in
    subst (EightGroups xs a.m) is (eight_groups xs a.m low.1 (omega (arith, low.2)))

pub returns : goal.returns
returns c =
    let a = c.args in
    let xs = a.bytes.now in
    let high = c.from-high in
    let middle = c.from-2 in
    let is : word xs a.m (omega arith) (omega arith) ≡ high.result * 65536 + middle.result * 256 + c.from-3.result = omega arith in
    subst (EightGroups xs a.m) is (eight_groups xs a.m (omega arith) (omega arith))
