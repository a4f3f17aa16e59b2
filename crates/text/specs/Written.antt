-- What reading the corners of a record answers and writes is what a program prints of the record, in any view: here the labels and corners
-- stand in lent lists.
use Rattle.std.specs.Prelude.{List, ◌++◌, ◌≡◌, ℕ, suc, ◌≤◌, ◌<◌, length, get_or, drop, Result, Ok, Err}
use Rattle.std.proofs.Common.{inl, inr, sym, ap, subst, ◌∙◌, arith}
use Rattle.std.proofs.Math.Logic.{if_neg}
use Rattle.std.proofs.Math.ListN.{get_or-append}
use Rattle.finite.specs.Table.{get_d_table}
use Rattle.record.specs.Labels.{label_at}
use Rattle.record.specs.Read.{kind_of, body_of, labels_of}
use Rattle.record.specs.Record.{triple_in}
use Rattle.record.specs.Refusal.{number_of}
use Rattle.record.proofs.Backward.{length_decode}
use Rattle.record.specs.Checked.{checked, Sorted, refused, read, sorted, refused_checked, readable_checked}
use Rattle.record.specs.declared.Refusal.{Refusal}
use Rattle.drawing.specs.Corners.{room_in}
use Rattle.drawing.specs.Drawing.{room_at, drawing_of}
use Rattle.drawing.specs.declared.Corners.{Corners}
use Rattle.drawing.specs.declared.Room.{Room}
use Rattle.answers.specs.Answer.{Short, dec_short, Few, record_answer, count_of, written}
use Rattle.answers.specs.Corners.{rooms_from, HoldDrawing}
use Rattle.text.specs.View.{View, Local, view_of, printed, refused_line}
use Rattle.text.specs.Places.{corners, view_in}

-- what is printed for an answer, with the labels that it gave
abbrev text_for : View → Result ℕ Refusal → (labels : List ℕ) → List ℕ
text_for view (Ok n) labels = view (label_at labels) (room_at (label_at labels) n) n
text_for view (Err refusal) labels = refused_line (number_of refusal)

abbrev Is-read : Result ℕ Refusal → Type 0
Is-read (Ok n) = Unit
Is-read (Err refusal) = ⊥

-- ---- 255 places are enough for any record
pub enough : (kind : ℕ) → kind ≤ 255 → ¬ Short kind 255 255
enough kind h (inl s) = omega arith
enough kind h (inr s) = omega arith

never : {A : Type 0} {n : ℕ} {refusal : Refusal} → Ok n ≡ Err refusal → A
never e = absurd (subst Is-read e tt)

pub length_labels : (bytes : List ℕ) → length (labels_of bytes) ≡ kind_of bytes
unfolding labels_of
length_labels bytes = length_decode (triple_in (body_of bytes)) (kind_of bytes)

-- ---- what was read of these bytes where there are 255 places: the answer, the labels' slice, which held `before`, and the corners
pub record Written (bytes : List ℕ) (answer : Result ℕ Refusal) (labels left bottom right top : List ℕ) : Type 0 where
  pub byte : kind_of bytes ≤ 255
  pub before : List ℕ
  pub answered : answer ≡ record_answer bytes 255 255
  pub few : Few answer
  pub list : labels ≡ written answer (labels_of bytes) before
  pub rooms : HoldDrawing answer bytes (corners left bottom right top)

-- a label that is written from the front of a list
pub front_label : (labels : List ℕ) {n : ℕ} → length labels ≡ n → (k : ℕ) → k < n → {now : List ℕ} (rest : List ℕ) → now ≡ labels ++ rest
    → get_or now k 0 ≡ get_or labels k 0
front_label labels size k inside rest e = ap (λ (l : List ℕ). get_or l k 0) e ∙ get_or-append labels rest 0 k (omega arith)

-- a room of the drawing
pub room_drawn : (labels : List ℕ) (c : Corners) (n : ℕ) → length labels ≡ n → rooms_from c n ≡ drawing_of labels → (k : ℕ) → k < n
    → room_in c (suc k) ≡ room_at (label_at labels) n (suc k)
unfolding drawing_of
room_drawn labels c n size held k inside =
    let room : ℕ → Room = λ i. room_in c (suc i) in
    let drawn : ℕ → Room = λ i. room_at (label_at labels) (length labels) (suc i) in
    sym (get_d_table room n k (room 0) inside)
    ∙ ap (λ (rooms : List Room). get_or rooms k (room 0)) held
    ∙ get_d_table drawn (length labels) k (room 0) (omega arith)
    ∙ ap (λ (m : ℕ). room_at (label_at labels) m (suc k)) size

-- ---- what is answered
module _ (bytes : List ℕ) (byte : kind_of bytes ≤ 255) where
  answer_checked : record_answer bytes 255 255 ≡ checked Err bytes (Ok (kind_of bytes))
  answer_checked =
      let fit = if_neg (dec_short (kind_of bytes) 255 255) (enough (kind_of bytes) byte) _ _ in
      ap (λ (good : Result ℕ Refusal). checked Err bytes good) fit

  kind_read : (n : ℕ) → Ok n ≡ record_answer bytes 255 255 → (n ≡ kind_of bytes) × (1 ≤ n)
  kind_read n e = go (sorted bytes)
    where
      go : Sorted bytes → (n ≡ kind_of bytes) × (1 ≤ n)
      go (refused cause) = never (e ∙ answer_checked ∙ sym (refused_checked Err bytes _ cause))
      go (read all) =
          let same : n ≡ kind_of bytes = ap count_of (e ∙ answer_checked ∙ sym (readable_checked Err bytes _ all)) in
          let some : ¬ (kind_of bytes ≡ 0) = λ none. all.kind (inr none) in
          (same, omega arith)

  -- the text for the answer is what is printed
  module _ (view : View) where
    abbrev for : Result ℕ Refusal → List ℕ
    for answer = text_for view answer (labels_of bytes)

    abbrev refusal : Refusal → List ℕ
    refusal r = refused_line (number_of r)

    listed : for (Ok (kind_of bytes)) ≡ view_of view (labels_of bytes)
    listed = ap (λ (n : ℕ). for (Ok n)) (sym (length_labels bytes))

    text_answer : for (record_answer bytes 255 255) ≡ printed view bytes
    text_answer = ap for answer_checked ∙ go (sorted bytes)
      where
        go : Sorted bytes → for (checked Err bytes (Ok (kind_of bytes))) ≡ printed view bytes
        go (refused cause) =
            ap for (sym (refused_checked Err bytes (Ok (kind_of bytes)) cause))
            ∙ refused_checked refusal bytes (view_of view (labels_of bytes)) cause
        go (read all) =
            ap for (sym (readable_checked Err bytes (Ok (kind_of bytes)) all))
            ∙ listed
            ∙ readable_checked refusal bytes (view_of view (labels_of bytes)) all

-- ---- a record that is refused
module _ {bytes : List ℕ} {answer : Result ℕ Refusal} {labels left bottom right top : List ℕ}
    (w : Written bytes answer labels left bottom right top) where
  pub refusal_printed : (view : View) (refusal : Refusal) → answer ≡ Err refusal → refused_line (number_of refusal) ≡ printed view bytes
  refusal_printed view refusal is = ap (for bytes w.byte view) (sym is ∙ w.answered) ∙ text_answer bytes w.byte view

-- ---- a record that is read
module _ {bytes : List ℕ} {n : ℕ} {labels left bottom right top : List ℕ} (w : Written bytes (Ok n) labels left bottom right top) where
  pub read_some : 1 ≤ n
  read_some = (kind_read bytes w.byte n w.answered).1

  size_read : length (labels_of bytes) ≡ n
  size_read = length_labels bytes ∙ sym (kind_read bytes w.byte n w.answered).0

  -- the labels and rooms at the first n positions are the record's
  label_read : (k : ℕ) → k < n → label_at labels (suc k) ≡ label_at (labels_of bytes) (suc k)
  label_read k h = front_label (labels_of bytes) size_read k h (drop n w.before) w.list

  pub room_read : (k : ℕ) → k < n → room_in (corners left bottom right top) (suc k) ≡ room_at (label_at (labels_of bytes)) n (suc k)
  room_read k h = room_drawn (labels_of bytes) (corners left bottom right top) n size_read w.rooms k h

  pub read_printed : (view : View) → Local view → view_in view labels left bottom right top n ≡ printed view bytes
  read_printed view here =
      here (label_at labels) (label_at (labels_of bytes)) (room_in (corners left bottom right top))
      (room_at (label_at (labels_of bytes)) n) n label_read room_read
      ∙ ap (for bytes w.byte view) w.answered
      ∙ text_answer bytes w.byte view
