-- `grouping::groups` meets its contract: the record is judged, and then the groups are looked at.
use mathlib.Core.Path.{◌∙◌}
use Rattle.std.proofs.lemmas.Result.{err_from_is_err_and}
use Rattle.finite.specs.Decide.{told_true, told_false}
use Rattle.judging.specs.Walkable.{readable_walkable}
use Rattle.groups.proofs.Demand1.{refused_record, demand1_groups_answer}
use Rattle.grouping.proofs.Asking.{past_rooms, first_empty, second_empty, shared_position, fits, answered}
use Rattle.grouping.proofs.groups.Goals as goal

pub returns-in_err-n : goal.returns-in_err-n
returns-in_err-n c =
    let p = err_from_is_err_and c.from_residual.result c.from_residual.ensures.1 in
    rw (p.1, p.2) (demand1_groups_answer c.args.«record».now c.args.first.now c.args.second.now (refused_record c.in_err-n.ensures))

pub returns-then-outside : goal.returns-then-outside
returns-then-outside c =
    past_rooms c.in_ok-n.ensures c.args.first.now c.args.second.now _ _ c.last_position-one.ensures c.last_position-other.ensures
    (told_true _ _ c.if-outside.true c.outside.ensures)

pub returns-in_default : goal.returns-in_default
returns-in_default c =
    first_empty c.in_ok-n.ensures c.args.first.now c.args.second.now _ _ c.last_position-one.ensures c.last_position-other.ensures
    (told_false _ _ c.if-outside.false c.outside.ensures) c.in_default.ensures

pub returns-in_default-other : goal.returns-in_default-other
returns-in_default-other c =
    second_empty c.in_ok-n.ensures c.args.first.now c.args.second.now _ _ c.last_position-one.ensures c.last_position-other.ensures
    (told_false _ _ c.if-outside.false c.outside.ensures) c.in_default-other.ensures

pub returns-then-in_common : goal.returns-then-in_common
returns-then-in_common c =
    shared_position c.in_ok-n.ensures c.args.first.now c.args.second.now _ _ c.last_position-one.ensures c.last_position-other.ensures
    (told_false _ _ c.if-outside.false c.outside.ensures) c.in-Some.ensures c.in-Some-other.ensures
    (told_true _ _ c.if-in_common.true c.in_common.ensures)

pub stand-requires : goal.stand-requires
stand-requires c =
    let a = c.in_ok-n.ensures in (
      readable_walkable a.readable a.rooms_are a.few,
      fits c.in_ok-n.ensures c.args.first.now c.args.second.now _ _ c.last_position-one.ensures c.last_position-other.ensures
          (told_false _ _ c.if-outside.false c.outside.ensures) c.in-Some.ensures c.in-Some-other.ensures
          (told_false _ _ c.if-in_common.false c.in_common.ensures),
      c.in-Some.ensures,
      c.in-Some-other.ensures,
    )

pub returns : goal.returns
returns c =
    c.stand.ensures ∙ answered c.in_ok-n.ensures c.args.first.now c.args.second.now _ _ c.last_position-one.ensures c.last_position-other.ensures
    (told_false _ _ c.if-outside.false c.outside.ensures) c.in-Some.ensures c.in-Some-other.ensures
    (told_false _ _ c.if-in_common.false c.in_common.ensures)
