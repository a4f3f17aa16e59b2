-- `answers::read_corners` meets its contract: the record is read or refused, and where there are places enough the labels are written and the corners are the drawing's.
use Rattle.std.proofs.Common.{sym, subst, ◌∙◌, ◌++◌, ◌≡◌, ℕ, length, take, drop, zero-le, Result, Err, arith, rules}
use Rattle.std.proofs.Math.Seq.{length-take-le}
use Rattle.record.specs.Read.{labels_of}
use Rattle.record.specs.declared.Refusal.{Refusal}
use Rattle.answers.specs.Leaves.{LeavesIn}
use Rattle.reading.specs.SameRefusal.{same_refusal}
use Rattle.answers.specs.Corners.{CornersIn}
use Rattle.answers.specs.Drawn.{labels_front, drawing_held}
use Rattle.answers.proofs.Asked.{enough, read_answer, front_left, front_written}
use Rattle.answers.proofs.read_corners.Goals as goal

pub returns-in_err-n : goal.returns-in_err-n
returns-in_err-n c =
    let bytes = c.args.«record».now in
    let labels = c.args.labels.now in
    let fit = c.min-fit.result in
    let leaves = subst (λ (r : Result ℕ Refusal). LeavesIn r bytes 0 (take fit labels) c.args.corners.now c.read_into.new.labels c.read_into.new.corners)
    c.in_err-n.was c.read_into.ensures.leaves in
    let refused : CornersIn bytes labels c.args.places (Err c.in_err-n.field-0.0) (c.read_into.new.labels ++ drop fit labels) c.read_into.new.corners = record {
      answered = same_refusal Err bytes _ c.in_err-n.field-0.0 (sym c.in_err-n.was ∙ c.read_into.ensures.answer);
      few = zero-le;
      fit = zero-le;
      labels_are = front_left fit labels leaves.0;
      corners_are = tt;
    } in search rules

pub returns : goal.returns
returns c =
    let g = c.in_ok-n.ensures.leaves in
    let labels = c.args.labels.now in
    let fit = c.min-fit.result in
    let size : length (take fit labels) ≡ fit = length-take-le fit labels (omega arith) in
    let w = g.long (omega arith) g.some in
    record {
      answered = read_answer g.kind g.readable _ _ (enough (omega arith) (omega arith));
      few = g.few;
      fit = omega arith;
      labels_are = front_written c.in_ok-n.n fit (labels_of c.args.«record».now) labels (omega arith)
          (labels_front g.kind g.readable (take fit labels) (omega arith) w.labels_are);
      corners_are = drawing_held g.kind g.readable w g.lefts g.bottoms;
    }
