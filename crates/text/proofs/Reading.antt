-- What `read_corners` answers and writes where there are 255 places: the record's plan, or its refusal.
use Rattle.std.specs.Prelude.{List, ◌≡◌, ℕ, suc, ◌≤◌, ◌<◌, length, drop, Result, Ok, Err}
use Rattle.std.proofs.Common.{inr, sym, ap, subst, ◌∙◌, arith}
use Rattle.std.proofs.Math.Logic.{if_neg}
use Rattle.record.specs.Labels.{label_at}
use Rattle.record.specs.Read.{kind_of, labels_of}
use Rattle.record.specs.Checked.{checked, Readable, Refuses, Sorted, refused, read, sorted, refused_checked, readable_checked}
use Rattle.record.specs.declared.Refusal.{Refusal}
use Rattle.drawing.specs.Corners.{room_in}
use Rattle.drawing.specs.Within.{Within, drawn_within}
use Rattle.drawing.specs.declared.Corners.{Corners}
use Rattle.drawing.specs.declared.Room.{Room}
use Rattle.answers.specs.Answer.{dec_short, record_answer}
use Rattle.answers.specs.Corners.{CornersIn}
use Rattle.text.specs.Shown.{Holds}
use Rattle.text.specs.Written.{enough, length_labels, front_label, room_drawn}

module _ {bytes before labels : List ℕ} {corners : Corners} (byte : kind_of bytes ≤ 255) (places : length before ≡ 255) where
  checked_answer : {answer : Result ℕ Refusal} → CornersIn bytes before 255 answer labels corners
      → answer ≡ checked Err bytes (Ok (kind_of bytes))
  checked_answer told =
      let fit = if_neg (dec_short (kind_of bytes) 255 255) (enough (kind_of bytes) byte) _ _ in
      told.answered
      ∙ ap (λ (n : ℕ). record_answer bytes n 255) places
      ∙ ap (λ (good : Result ℕ Refusal). checked Err bytes good) fit

  -- ---- a record that is refused
  pub refuses : {refusal : Refusal} → CornersIn bytes before 255 (Err refusal) labels corners → Refuses bytes refusal
  refuses {refusal} told = go (sorted bytes)
    where
      go : Sorted bytes → Refuses bytes refusal
      go (refused {refusal = other} cause) =
          let same : other ≡ refusal = let e = checked_answer told ∙ sym (refused_checked Err bytes _ cause) in cc in
          subst (Refuses bytes) same cause
      go (read all) = let e = checked_answer told ∙ sym (readable_checked Err bytes _ all) in absurd cc

  -- ---- a record that is read
  module _ {n : ℕ} (told : CornersIn bytes before 255 (Ok n) labels corners) where
    counted : Readable bytes × (n ≡ kind_of bytes)
    counted = go (sorted bytes)
      where
        go : Sorted bytes → Readable bytes × (n ≡ kind_of bytes)
        go (refused cause) = let e = checked_answer told ∙ sym (refused_checked Err bytes _ cause) in absurd cc
        go (read all) = let e = checked_answer told ∙ sym (readable_checked Err bytes _ all) in (all, cc)

    pub some : 1 ≤ n
    some =
        let kind : ¬ (kind_of bytes ≡ 0) = λ none. counted.0.kind (inr none) in
        omega (arith, counted.1)

    size : length (labels_of bytes) ≡ n
    size = length_labels bytes ∙ sym counted.1

    pub holds : Holds bytes n labels corners
    holds = record {
      readable = counted.0;
      count = sym size;
      each_label = λ k h. front_label (labels_of bytes) size k h (drop n before) told.labels_are;
      each_room = λ k h. room_drawn (labels_of bytes) corners n size told.corners_are k h;
    }

    pub inside : (k : ℕ) → k < n → Within n (room_in corners (suc k))
    inside k h =
        subst (λ (room : Room). Within n room) (sym (holds.each_room k h))
        (drawn_within (label_at (labels_of bytes)) n (suc k) (omega arith) h)
