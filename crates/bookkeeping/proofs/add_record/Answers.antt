-- `bookkeeping::add_record` meets its contract: what was admitted is appended and added to the summary, and what was refused changes nothing.
use Rattle.std.proofs.lemmas.Result.{err_from_is_err_and}
use Rattle.bookkeeping.proofs.Added.{adds, changes_nothing}
use Rattle.bookkeeping.proofs.add_record.Goals as goal

pub returns-in_err-after : goal.returns-in_err-after
returns-in_err-after c =
    let p = err_from_is_err_and c.from_residual.result c.from_residual.ensures.1 in
    rw (p.1, p.2) (changes_nothing c.in_err-after.field-0.0 c.in_err-after.ensures)

pub returns : goal.returns
returns c = rw c.append.ensures (adds c.in_ok-after.ensures)
