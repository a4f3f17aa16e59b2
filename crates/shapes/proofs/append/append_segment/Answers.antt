-- `append_segment`: where the label falls, the form of a horizontal segment is appended, with four numbers.
use Rattle.std.proofs.Common.{List, ◌≡◌, ◌++◌, ◌≤◌, ◌<◌, ℕ, arith, add-one, ap, sym, ◌∙◌}
use Rattle.std.proofs.Math.Logic.{if_neg}
use Rattle.std.proofs.Math.Decide.{dec_lt, ℕ_discrete}
use Rattle.text.specs.Form.{filled}
use Rattle.contacts.specs.GridLine.{horizontal_at}
use Rattle.shapes.specs.Picture.{segment_drawn}
use Rattle.shapes.proofs.append.append_segment.Goals as goal

falls : {first second one other : ℕ} → second ≤ first → first ≡ one → second ≡ other → ¬ (one < other)
falls h e f rises = omega arith

pub returns-else-first-second-clause-items : goal.returns-else-first-second-clause-items
unfolding filled ℕ_discrete
returns-else-first-second-clause-items g c =
    let before : List ℕ = c.args.text.now.items in
    let later = rw add-one at c.room-later.ensures.value in
    let falling = falls c.if-first-second.false c.label-first.ensures (rw add-one at c.label-second.ensures) in
    c.append_form-else-first-second.ensures.items
    ∙ (λ t. before ++ segment_drawn (c.from-n.ensures t) (horizontal_at (c.from-k.ensures t) (c.room-earlier.ensures.value t) (later t)))
    ∙ ap (λ s. before ++ segment_drawn c.args.plan.now.n s) (sym (if_neg (dec_lt _ _) falling _ _))
