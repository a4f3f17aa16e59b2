-- What is shown of a record's plan, and the line of its refusal, is what a program prints of it, in any view.
use Rattle.std.specs.Prelude.{List, ◌≡◌, ℕ}
use Rattle.std.proofs.Common.{ap, ◌∙◌}
use Rattle.record.specs.Labels.{label_at}
use Rattle.record.specs.Read.{labels_of}
use Rattle.record.specs.Refusal.{number_of}
use Rattle.record.specs.Checked.{Refuses, refused_checked, readable_checked}
use Rattle.record.specs.declared.Refusal.{Refusal}
use Rattle.drawing.specs.Corners.{room_in}
use Rattle.drawing.specs.Drawing.{room_at}
use Rattle.text.specs.View.{View, Local, view_of, printed, refused_line}
use Rattle.text.specs.Shown.{shown, IsPlanOf}
use Rattle.text.specs.declared.record_plan.Plan.{Plan}

module _ (view : View) where
  abbrev refusal_line : Refusal → List ℕ
  refusal_line refusal = refused_line (number_of refusal)

  pub refused_printed : {bytes : List ℕ} {refusal : Refusal} → Refuses bytes refusal → refused_line (number_of refusal) ≡ printed view bytes
  refused_printed {bytes} cause = refused_checked refusal_line bytes (view_of view (labels_of bytes)) cause

  pub shown_printed : Local view → {bytes : List ℕ} (plan : Plan) → IsPlanOf bytes plan → shown view plan ≡ printed view bytes
  shown_printed here {bytes} plan is =
      let label : ℕ → ℕ = label_at (labels_of bytes) in
      here (label_at plan.labels) label (room_in plan.corners) (room_at label plan.n) plan.n is.each_label is.each_room
      ∙ ap (λ (n : ℕ). view label (room_at label n) n) is.count
      ∙ readable_checked refusal_line bytes (view_of view (labels_of bytes)) is.readable
