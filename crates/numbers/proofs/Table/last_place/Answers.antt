-- `numbers::Table::last_place` meets its contract: what is reached from the next byte on is reached from this one on.
use native.Mathlib.Omega.{arith}
use lib.ListN.{get_or}
use Rattle.numbers.proofs.Passing.{standing_next, reached_next, reached_end}
use Rattle.numbers.proofs.Table.last_place.Goals as goal

pub loop-byte-preserved : goal.loop-byte-preserved
loop-byte-preserved c =
    let rest = c.args.rest.now in
    let i = c.loop-byte.byte-index in
    let leads = c.place_after-place.ensures in (
      standing_next (get_or rest i 0) leads c.loop-byte.invariant.0,
      λ end r.
          c.loop-byte.invariant.1 end
          (reached_next rest i c.loop-byte.place c.place_after-place.result end c.loop-byte-test.true leads r),
    )

pub returns : goal.returns
returns c =
    c.loop-byte.invariant.1 c.loop-byte.place
    (reached_end c.args.rest.now c.loop-byte.byte-index c.loop-byte.place (omega (arith, c.loop-byte-test.false)))
