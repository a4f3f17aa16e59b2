-- `questions::question` meets its contract: the record is read or refused, the positions are looked at, and the two rooms answer, both of which the walk back has passed.
use Rattle.std.proofs.Common.{◌≡◌, ◌⊎◌, inl, inr, sym, ap, subst₂, ◌∙◌, ℕ, ◌≤◌, Err, arith, rules}
use Rattle.finite.specs.Decide.{Tells}
use Rattle.reading.specs.SameRefusal.{same_refusal}
use Rattle.record.specs.Labels.{label_at}
use Rattle.record.specs.Read.{kind_of, labels_of}
use Rattle.drawing.specs.Corners.{room_in}
use Rattle.drawing.specs.Drawing.{room_at}
use Rattle.drawing.specs.InnerLine.{ShareInnerLine, FaceOnOneLine}
use Rattle.drawing.specs.Within.{Within, drawn_within}
use Rattle.drawing.specs.declared.Room.{Room}
use Rattle.questions.specs.Answer.{Outside, question_answer}
use Rattle.questions.proofs.Asked.{within, related_answer}
use Rattle.questions.proofs.Given.{side_is, room_is}
use Rattle.questions.proofs.question.Goals as goal
use Rattle.questions.proofs.question.Goals.{After-room-other}

-- both positions are inside
inside : (e : After-room-other) → ¬ (Outside e.args.first e.in_ok-n.n ⊎ Outside e.args.second e.in_ok-n.n)
inside e (inl o) = e.if-outside.ensures o
inside e (inr o) = e.if-outside-2.ensures o

both : (e : After-room-other) → let n = e.in_ok-n.n in (1 ≤ e.args.first) × (e.args.first ≤ n) × (1 ≤ e.args.second) × (e.args.second ≤ n)
both e =
    let n = e.in_ok-n.n in
    let one = within e.args.first n e.if-outside.ensures in
    let other = within e.args.second n e.if-outside-2.ensures in
    (one.0, one.1, other.0, other.1)

-- the two rooms are those of the drawing
drawn : (e : After-room-other)
    → let room = room_at (label_at (labels_of e.args.«record».now)) (kind_of e.args.«record».now) in
    (e.room-one.result ≡ room e.args.first) × (e.room-other.result ≡ room e.args.second)
drawn e =
    let g = e.in_ok-n.ensures.leaves in
    let at = both e in
    let past = e.earlier.ensures in
    let left = g.long g.few (omega (arith, past.0, at.0, at.1)) in
    let room = room_in e.read_into.new.corners in (
      e.room-one.ensures ∙ ap room e.index.ensures ∙ room_is g.kind g.readable left g.lefts g.bottoms e.args.first at.0 past.0 at.1,
      e.room-other.ensures ∙ ap room e.index-2.ensures ∙ room_is g.kind g.readable left g.lefts g.bottoms e.args.second at.2 past.1 at.3,
    )

pub returns-in_err-n : goal.returns-in_err-n
returns-in_err-n c =
    let bytes = c.args.«record».now in
    let refused : Err c.in_err-n.field-0.0 ≡ question_answer bytes c.args.first c.args.second =
    same_refusal Err bytes _ c.in_err-n.field-0.0 c.in_err-n.ensures.answer in
    search rules

pub share_inner_line-touch-requires : goal.share_inner_line-touch-requires
share_inner_line-touch-requires c =
    let e = (goal.at.share_inner_line-touch-requires c).After-room-other in
    let g = c.in_ok-n.ensures.leaves in
    let at = both e in
    let rooms = drawn e in
    let f = label_at (labels_of c.args.«record».now) in
    let n = kind_of c.args.«record».now in (
      subst₂ (λ (m : ℕ) (room : Room). Within m room) (sym g.kind) (sym rooms.0) (drawn_within f n c.args.first at.0 (omega (arith, at.1, g.kind))),
      subst₂ (λ (m : ℕ) (room : Room). Within m room) (sym g.kind) (sym rooms.1) (drawn_within f n c.args.second at.2 (omega (arith, at.3, g.kind))),
    )

pub returns : goal.returns
returns c =
    let e = (goal.at.returns c).After-room-other in
    let a = c.args in
    let g = c.in_ok-n.ensures.leaves in
    let at = both e in
    let past = c.earlier.ensures in
    let left = g.long g.few (omega (arith, past.0, at.0, at.1)) in
    let rooms = drawn e in
    related_answer g.kind g.readable a.first a.second (inside e) g.few c.if-first-second.false
    (c.side_of-side.ensures ∙ side_is g.kind g.readable left a.first a.second at.0 past.0 at.1 at.2 past.1 at.3)
    (subst₂ (λ (one other : Room). Tells c.face_on_one_line-direct.result (FaceOnOneLine one other)) rooms.0 rooms.1
    c.face_on_one_line-direct.ensures)
    (subst₂ (λ (one other : Room). Tells c.share_inner_line-touch.result (ShareInnerLine c.in_ok-n.n one other)) rooms.0 rooms.1
    c.share_inner_line-touch.ensures)
