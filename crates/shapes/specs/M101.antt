-- M-101 of the picture: its lines, drawn on 1 to n - 1, are the inner segments of the drawing. In `view_of segments labels` the line on k
-- is `segment_drawn` of the stretch that is spoken of here.
use Rattle.std.specs.Prelude.{List, ◌≢◌, ℕ, length}
use Rattle.std.proofs.Common.{inr, arith}
use Rattle.record.specs.Labels.{label_at}
use Rattle.record.specs.Read.{kind_of, labels_of}
use Rattle.record.specs.Checked.{Readable}
use Rattle.record.proofs.Demand2Read.{readable_only_list}
use Rattle.drawing.specs.Drawing.{room_at}
use Rattle.contacts.specs.GridLine.{line_at, InnerSegmentsAre}
use Rattle.contacts.proofs.GridSegments.{lines_are_inner_segments}

pub m101_lines_are_inner_segments : (bytes : List ℕ) → Readable bytes
    → let labels = labels_of bytes in InnerSegmentsAre labels (line_at (label_at labels) (room_at (label_at labels) (length labels)))
m101_lines_are_inner_segments bytes readable =
    let list = readable_only_list bytes readable in
    let some : kind_of bytes ≢ 0 = λ e. readable.kind (inr e) in
    lines_are_inner_segments (labels_of bytes) list.baxter.each_once (omega (arith, list.size))
