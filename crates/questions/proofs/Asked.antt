-- What the record and the two positions tell the question: its answer.
use mathlib.Core.Bool.{Bool}
use mathlib.Core.List.{List}
use mathlib.Core.Logic.{◌≢◌, ◌⊎◌, inl, inr, ◌↔◌}
use mathlib.Core.Path.{◌≡◌, sym, subst}
use Prim.Native.Nat.{ℕ, ◌≤◌, ◌<◌}
use native.Mathlib.Omega.{arith}
use lib.ListN.{length}
use Rattle.finite.specs.Decide.{Tells, tells_iff}
use Rattle.record.specs.Labels.{label_at}
use Rattle.record.specs.Read.{kind_of, labels_of}
use Rattle.record.specs.Checked.{Readable}
use Rattle.record.proofs.Demand2Read.{readable_only_list}
use Rattle.drawing.specs.declared.Room.{Room}
use Rattle.drawing.specs.Drawing.{room_at}
use Rattle.drawing.specs.InnerLine.{ShareInnerLine, FaceOnOneLine}
use Rattle.drawing.specs.Side.{side_of}
use Rattle.drawing.specs.declared.Side.{Side}
use Rattle.drawing.specs.declared.Relation.{Relation}
use Rattle.contacts.specs.Direct.{PositionsDirect}
use Rattle.contacts.proofs.M102.{m102_positions_direct_iff_face_on_one_line}
use Rattle.contacts.specs.Touches.{PositionsTouch}
use Rattle.contacts.proofs.M101.{m101_positions_touch_iff_share_inner_line}
use Rattle.questions.specs.Demand1.{related, demand1_question_answer}
use Rattle.questions.specs.Answer.{Outside, answering, question_answer}

pub within : (position n : ℕ) → ¬ Outside position n → (1 ≤ position) × (position ≤ n)
within position n h =
    let some : position ≢ 0 = λ z. h (inl z) in
    let most : ¬ (n < position) = λ l. h (inr l) in
    (omega arith, omega arith)

module _ {bytes : List ℕ} {n : ℕ} (kind : n ≡ kind_of bytes) (readable : Readable bytes) (first second : ℕ) where
  abbrev f : ℕ → ℕ
  f = label_at (labels_of bytes)

  module _ (inside : ¬ (Outside first n ⊎ Outside second n)) where
    inside_kind : ¬ (Outside first (kind_of bytes) ⊎ Outside second (kind_of bytes))
    inside_kind h = inside (subst (λ (m : ℕ). Outside first m ⊎ Outside second m) (sym kind) h)

    abbrev room : ℕ → Room
    room = room_at f (kind_of bytes)

    one : (1 ≤ first) × (first ≤ kind_of bytes)
    one = within first (kind_of bytes) (λ o. inside_kind (inl o))

    other : (1 ≤ second) × (second ≤ kind_of bytes)
    other = within second (kind_of bytes) (λ o. inside_kind (inr o))

    n_labels : length (labels_of bytes) ≡ kind_of bytes
    n_labels = (readable_only_list bytes readable).size

    first_most : first ≤ length (labels_of bytes)
    first_most = omega (arith, one, n_labels)

    second_most : second ≤ length (labels_of bytes)
    second_most = omega (arith, other, n_labels)

    -- the two positions touch exactly if their rooms share an inner line
    touch_iff : PositionsTouch (labels_of bytes) first second ↔ ShareInnerLine (kind_of bytes) (room first) (room second)
    touch_iff =
        let once = (readable_only_list bytes readable).baxter.each_once in
        subst (λ (m : ℕ). PositionsTouch (labels_of bytes) first second ↔ ShareInnerLine m (room_at f m first) (room_at f m second)) n_labels
        (m101_positions_touch_iff_share_inner_line (labels_of bytes) once first second one.0 first_most other.0 second_most)

    -- and are in a direct relation exactly if one of the rooms ends where the other starts
    direct_iff : n ≤ 255 → first ≢ second
        → PositionsDirect (labels_of bytes) (side_of f first second) first second ↔ FaceOnOneLine (room first) (room second)
    direct_iff few differ =
        let baxter = (readable_only_list bytes readable).baxter in
        let side = side_of f first second in
        subst (λ (m : ℕ). PositionsDirect (labels_of bytes) side first second ↔ FaceOnOneLine (room_at f m first) (room_at f m second)) n_labels
        (m102_positions_direct_iff_face_on_one_line (labels_of bytes) baxter (omega (arith, kind, n_labels)) first second
        one.0 first_most other.0 second_most differ)

    pub related_answer : n ≤ 255 → first ≢ second → {relation : Relation} {touch : Bool} → relation.side ≡ side_of f first second
        → Tells relation.direct (FaceOnOneLine (room first) (room second)) → Tells touch (ShareInnerLine n (room first) (room second))
        → answering relation touch ≡ question_answer bytes first second
    related_answer few differ {relation} {touch} side face share =
        let iff = direct_iff few differ in
        let direct = tells_iff _ _ relation.direct iff.1 iff.0 face in
        let shares = subst (λ (m : ℕ). Tells touch (ShareInnerLine m (room first) (room second))) kind share in
        demand1_question_answer bytes first second
        (related readable inside_kind differ side
        (subst (λ (s : Side). Tells relation.direct (PositionsDirect (labels_of bytes) s first second)) (sym side) direct)
        (tells_iff _ _ touch touch_iff.1 touch_iff.0 shares))
