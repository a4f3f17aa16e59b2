-- `pair_listed` meets its contract: the keys looked up so far have their pairs, and in the end all.
use Rattle.std.proofs.Common.{arith}
use Rattle.points.proofs.Pairing.{all_paired}
use Rattle.points.proofs.pair_listed.Goals as goal

pub returns-in_default : goal.returns-in_default
returns-in_default c =
    λ k. let (e, z, h, is) = k.found c.loop-q.q (omega (arith, c.requires.sought_len, c.loop-q-test.true)) in
    (rw c.in_default.is at c.look_up.ensures) e h is

pub returns : goal.returns
returns c = record {
  there_places = omega (arith, c.requires.unpaired.there_places, c.loop-q.invariant.0);
  back_places = omega (arith, c.requires.unpaired.back_places, c.loop-q.invariant.1);
  paired = all_paired _ _ _ (omega (arith, c.requires.sought_len, c.loop-q-test.false)) c.loop-q.invariant.2;
}
