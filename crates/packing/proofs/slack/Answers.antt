-- `packing::slack` meets its contract: the record and the lists are refused or admitted, and the walk gives the needed lengths.
use mathlib.Core.Path.{sym, ◌∙◌}
use native.Mathlib.Omega.{arith}
use Rattle.std.proofs.lemmas.Result.{err_from_is_err_and}
use Rattle.sizes.specs.Direction.{across, upward}
use Rattle.sizes.specs.Lists.{each_way}
use Rattle.packing.proofs.Signed.{difference_is}
use Rattle.packing.proofs.Calls.{size_is, walkable, slack_found, slack_refused, slack_answered}
use Rattle.packing.proofs.slack.Goals as goal

pub returns-in_err-admit : goal.returns-in_err-admit
returns-in_err-admit c =
    let p = err_from_is_err_and c.from_residual.result c.from_residual.ensures.1 in
    rw (p.1, p.2)
    (slack_refused c.args.«record».now (each_way c.args.widths.now c.args.heights.now)
    (each_way c.args.outline_width c.args.outline_height) c.in_err-admit.field-0.0 c.in_err-admit.ensures)

pub lowest-needed-requires-clause-sizes : goal.lowest-needed-requires-clause-sizes
lowest-needed-requires-clause-sizes c =
    let same = size_is c.in_ok-admit.ensures in
    (walkable c.in_ok-admit.ensures (same across), same upward ∙ sym (same across))

pub lowest-needed-requires-clause-places : goal.lowest-needed-requires-clause-places
lowest-needed-requires-clause-places c =
    let a = c.in_ok-admit.ensures in
    let same = size_is a in
    (omega (arith, same across, a.few), omega (arith, same across, a.few))

pub returns : goal.returns
returns c =
    let same = size_is c.in_ok-admit.ensures across in
    let call = c.lowest-needed in
    slack_answered c.args.«record».now (each_way c.args.widths.now c.args.heights.now) c.in_ok-admit.ensures
    (each_way c.args.outline_width c.args.outline_height)
    (difference_is c.args.outline_width call.result.across c.less.ensures (omega arith) (omega arith)
    ∙ slack_found c.in_ok-admit.ensures same across call.ensures.across c.args.outline_width)
    (difference_is c.args.outline_height call.result.up c.less-2.ensures (omega arith) (omega arith)
    ∙ slack_found c.in_ok-admit.ensures same upward call.ensures.upward c.args.outline_height)
