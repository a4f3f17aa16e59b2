-- `replaying::trace` meets its contract: too long, stopped, too short a slice, or written.
use native.Mathlib.Omega.{arith}
use Rattle.replaying.proofs.Whole.{ended_leads, written_whole}
use Rattle.replaying.proofs.trace.Goals as goal

pub write-requires : goal.write-requires
write-requires c =
    let few = c.if-trace-gt65535.false in
    let ends = ended_leads c.args.trace.now c.args.states.now few c.in_ok-replayed.ensures in
    (few, ends.1, omega (arith, ends.0, c.if-states-replayed.false))

pub returns : goal.returns
returns c =
    written_whole _ _ c.if-trace-gt65535.false c.in_ok-replayed.ensures c.if-states-replayed.false c.write.ensures
