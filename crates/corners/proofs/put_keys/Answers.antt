-- `put_keys` meets its contract: before each turn the keys of the rooms before the one at hand stand in turn.
use Rattle.std.proofs.Common.{◌≡◌, length, arith}
use Rattle.corners.proofs.Keys.{keyed_last}
use Rattle.corners.proofs.put_keys.Goals as goal

pub returns : goal.returns
returns c =
    let said = c.put_pair-2.ensures in
    let end : c.loop-i.i ≡ length c.args.lists.now.left.now = omega (arith, c.len-n.ensures, c.loop-i-test.false) in
    rw (said.keys_after, c.len-n.ensures) (keyed_last _ _ _ _ c.loop-i.keys (rw end at c.loop-i.invariant.1)
    (omega (arith, c.loop-i.invariant.0, c.requires)) said.small)
