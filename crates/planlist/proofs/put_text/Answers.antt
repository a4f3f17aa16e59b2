-- `put_text`: what is shown of the record's plan, and the line of its refusal, is what is printed of it; and the text is put whole.
use Rattle.std.proofs.Common.{ap, ◌∙◌, ℕ, arith}
use Rattle.text.specs.Places.{view_in}
use Rattle.text.specs.Puts.{put_whole}
use Rattle.text.specs.Viewed.{refused_printed, shown_printed}
use Rattle.listing.specs.Text.{listing}
use Rattle.listing.specs.Lines.{listing_local}
use Rattle.planlist.proofs.put_text.Goals as goal

pub returns-in-Ok : goal.returns-in-Ok
returns-in-Ok c =
    let plan = c.in-Ok.plan in
    let all = c.put_listing.ensures in
    let shown = ap (λ (n : ℕ). view_in listing plan.labels plan.corners.left plan.corners.bottom plan.corners.right plan.corners.top n) c.from-n.ensures in
    put_whole (omega (arith, c.requires, all.1)) (shown ∙ shown_printed listing listing_local plan c.in-Ok.ensures.plan) all.0

pub returns-in-Err : goal.returns-in-Err
returns-in-Err c =
    let line = c.put_refusal.ensures in
    put_whole (omega (arith, c.requires, line.1)) (refused_printed listing c.in-Err.ensures.refused) line.0
