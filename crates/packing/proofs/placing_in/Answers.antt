-- `packing::placing_in` meets its contract: the record and the lists are refused or admitted, and the walk tells whether the relations are
-- honoured.
use mathlib.Core.Path.{sym, ◌∙◌}
use Rattle.std.proofs.lemmas.Result.{err_from_is_err_and}
use Rattle.sizes.specs.Direction.{across, upward}
use Rattle.sizes.specs.Lists.{each_way}
use Rattle.finite.specs.Decide.{told_true, told_false}
use Rattle.packing.proofs.Calls.{size_is, corner_is, walkable, honours_told, placing_refused, placing_broken, placing_accepted}
use Rattle.packing.proofs.placing_in.Goals as goal

pub returns-in_err-admit : goal.returns-in_err-admit
returns-in_err-admit c =
    let p = err_from_is_err_and c.from_residual.result c.from_residual.ensures.1 in
    rw (p.1, p.2)
    (placing_refused c.args.«record».now (each_way c.args.widths.now c.args.heights.now) (each_way c.args.x.now c.args.y.now)
    c.in_err-admit.field-0.0 c.in_err-admit.ensures)

pub keeps-requires-clause-sizes : goal.keeps-requires-clause-sizes
keeps-requires-clause-sizes c =
    let same = size_is c.in_ok-admit.ensures in
    (walkable c.in_ok-admit.ensures (same across), same upward ∙ sym (same across))

pub keeps-requires-clause-corners : goal.keeps-requires-clause-corners
keeps-requires-clause-corners c =
    let same = size_is c.in_ok-admit.ensures in
    let corner = corner_is c.in_ok-admit.ensures in
    (corner across ∙ sym (same across), corner upward ∙ sym (same across))

pub returns-then-not-keeps : goal.returns-then-not-keeps
returns-then-not-keeps c =
    placing_broken c.args.«record».now (each_way c.args.widths.now c.args.heights.now) (each_way c.args.x.now c.args.y.now)
    c.in_ok-admit.ensures
    (told_false _ _ c.if-not-keeps.true
    (honours_told c.in_ok-admit.ensures (size_is c.in_ok-admit.ensures across) c.keeps.result (each_way c.args.x.now c.args.y.now)
    c.keeps.ensures))

pub returns : goal.returns
returns c =
    placing_accepted c.args.«record».now (each_way c.args.widths.now c.args.heights.now) (each_way c.args.x.now c.args.y.now)
    c.in_ok-admit.ensures
    (told_true _ _ c.if-not-keeps.false
    (honours_told c.in_ok-admit.ensures (size_is c.in_ok-admit.ensures across) c.keeps.result (each_way c.args.x.now c.args.y.now)
    c.keeps.ensures))
