-- `packing::admit` meets its contract: the record is judged, and then the lists are looked at.
use Rattle.std.proofs.lemmas.Result.{err_from_is_err_and}
use Rattle.finite.specs.Decide.{told_true, told_false}
use Rattle.sizes.specs.Lists.{each_way}
use Rattle.sizes.specs.Sized.{refused_record}
use Rattle.packing.proofs.Admitted.{other_sizes, other_corners, zero_sizes}
use Rattle.packing.proofs.admit.Goals as goal

pub returns-in_err-n : goal.returns-in_err-n
returns-in_err-n c =
    let p = err_from_is_err_and c.from_residual.result c.from_residual.ensures.1 in
    rw (p.1, p.2) (refused_record c.in_err-n.ensures)

pub returns-then-other_length : goal.returns-then-other_length
returns-then-other_length c =
    other_sizes c.in_ok-n.ensures (each_way c.args.widths.now c.args.heights.now) (each_way c.args.x_length c.args.y_length)
    (told_true _ _ c.if-other_length.true c.other_length.ensures)

pub returns-then-other_length-2 : goal.returns-then-other_length-2
returns-then-other_length-2 c =
    other_corners c.in_ok-n.ensures (each_way c.args.widths.now c.args.heights.now) (each_way c.args.x_length c.args.y_length)
    (told_true _ _ c.if-other_length-2.true c.other_length-2.ensures)

pub returns-then-zero_size : goal.returns-then-zero_size
returns-then-zero_size c =
    zero_sizes c.in_ok-n.ensures (each_way c.args.widths.now c.args.heights.now) (each_way c.args.x_length c.args.y_length)
    (told_false _ _ c.if-other_length.false c.other_length.ensures)
    (told_false _ _ c.if-other_length-2.false c.other_length-2.ensures)
    (told_true _ _ c.if-zero_size.true c.zero_size.ensures)
