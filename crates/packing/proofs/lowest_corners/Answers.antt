-- `packing::lowest_corners` meets its contract: the record and the lists are refused or admitted, and the walk puts the corners.
use mathlib.Core.Path.{refl, sym, ◌∙◌}
use native.Mathlib.Omega.{arith}
use lib.ListN.{length}
use Rattle.std.proofs.lemmas.Result.{err_from_is_err_and}
use Rattle.sizes.specs.Direction.{across, upward}
use Rattle.sizes.specs.Lists.{each_way, each_way_lem}
use Rattle.packing.proofs.Calls.{size_is, walkable, lowest_front, corners_refused, corners_short, corners_placed}
use Rattle.packing.proofs.lowest_corners.Goals as goal

pub returns-in_err-n-clause-lowest_corners : goal.returns-in_err-n-clause-lowest_corners
returns-in_err-n-clause-lowest_corners c =
    let p = err_from_is_err_and c.from_residual.result c.from_residual.ensures.1 in
    rw (p.1, p.2) (record {
      answered =
          corners_refused c.args.«record».now (each_way c.args.widths.now c.args.heights.now)
          (each_way (length c.args.x.now) (length c.args.y.now)) c.in_err-n.field-0.0 c.in_err-n.ensures;
      left = each_way_lem _ refl refl;
    })

pub returns-then-x-n-clause-lowest_corners : goal.returns-then-x-n-clause-lowest_corners
returns-then-x-n-clause-lowest_corners c = record {
  answered =
      corners_short c.args.«record».now (each_way c.args.widths.now c.args.heights.now) c.in_ok-n.ensures
      (each_way (length c.args.x.now) (length c.args.y.now)) across c.if-x-n.true;
  left = each_way_lem _ refl refl;
}

pub returns-then-y-n-clause-lowest_corners : goal.returns-then-y-n-clause-lowest_corners
returns-then-y-n-clause-lowest_corners c = record {
  answered =
      corners_short c.args.«record».now (each_way c.args.widths.now c.args.heights.now) c.in_ok-n.ensures
      (each_way (length c.args.x.now) (length c.args.y.now)) upward c.if-y-n.true;
  left = each_way_lem _ refl refl;
}

pub lowest-requires-clause-sizes : goal.lowest-requires-clause-sizes
lowest-requires-clause-sizes c =
    let same = size_is c.in_ok-n.ensures in
    (walkable c.in_ok-n.ensures (same across), same upward ∙ sym (same across))

pub lowest-requires-clause-places : goal.lowest-requires-clause-places
lowest-requires-clause-places c =
    let same = size_is c.in_ok-n.ensures in
    (omega (arith, same across, c.if-x-n.false), omega (arith, same across, c.if-y-n.false))

pub returns-clause-lowest_corners : goal.returns-clause-lowest_corners
returns-clause-lowest_corners c =
    let same = size_is c.in_ok-n.ensures across in
    record {
      answered =
          corners_placed c.args.«record».now (each_way c.args.widths.now c.args.heights.now) c.in_ok-n.ensures
          (each_way (length c.args.x.now) (length c.args.y.now)) c.if-x-n.false c.if-y-n.false;
      left =
          each_way_lem _ (lowest_front c.in_ok-n.ensures same across c.lowest.ensures.across)
          (lowest_front c.in_ok-n.ensures same upward c.lowest.ensures.upward);
    }
