-- `encoding::set_triple` meets its contract: a group of the body is set, which is the part of the record behind the kind byte.
use Prim.Native.Nat.{◌+◌, ◌*◌}
use native.Mathlib.Omega.{arith}
use Rattle.encoding.proofs.Part.{part_set}
use Rattle.encoding.proofs.set_triple.Goals as goal

pub returns : goal.returns
returns c =
    let a = c.args in
    part_set a.«record».now c.set_group.new.bytes (8 * a.m + a.i) a.triple (omega arith)
    c.set_group.ensures
