-- M-106 of both calls: the rooms that Record in gives, handed in to Rooms in as they are, give the record back.
use Rattle.std.specs.Prelude.{List, ◌++◌, ◌≡◌, refl, ℕ, length, take, drop, Result, Ok, Err}
use Rattle.std.proofs.Common.{sym, ap, subst, ◌∙◌}
use Rattle.std.proofs.Math.Seq.{take-append_seam}
use Rattle.bits.specs.Bit.{Bytes}
use Rattle.record.specs.Read.{kind_of, labels_of}
use Rattle.record.specs.Checked.{Readable}
use Rattle.record.proofs.Demand2Read.{demand2_read_only_list}
use Rattle.record.specs.declared.Refusal.{Refusal}
use Rattle.drawing.specs.declared.Room.{Room}
use Rattle.drawing.specs.Drawing.{drawing_of}
use Rattle.rooms.specs.Causes.{AcceptedRooms}
use Rattle.rooms.specs.LabelList.{record_of_rooms}
use Rattle.rooms.specs.GridFloorplan.{length_drawing}
use Rattle.rooms.proofs.Demand3.{drawing_of_record}
use Rattle.answers.specs.Answer as answers
use Rattle.answers.specs.Demand1.{RecordSays, refused_record, short, written, demand1_record_cause}
use Rattle.entering.specs.Answer.{Short, Slices, RoomsIn}
use Rattle.entering.specs.Demand1.{wrote, demand1_rooms_answer}
use Rattle.plans.specs.Demand3.{bytes_left, bytes_are_record}

-- what a reading that is no refusal says of the bytes
abbrev Reads : (bytes : List ℕ) → Result ℕ Refusal → Type 0
Reads bytes (Ok n) = Readable bytes × (n ≡ kind_of bytes)
Reads bytes (Err refusal) = Unit

says_reads : (bytes : List ℕ) {labels rooms : ℕ} {answer : Result ℕ Refusal} → RecordSays bytes labels rooms answer → Reads bytes answer
says_reads bytes (refused_record cause) = tt
says_reads bytes (short all s) = tt
says_reads bytes (written all s) = (all, refl)

module _ {bytes : List ℕ} (all : Bytes bytes) {before after : answers.Slices} {n : ℕ}
    (did : answers.RecordIn bytes before (Ok n) after) where
  reads : Readable bytes × (n ≡ kind_of bytes)
  reads = subst (Reads bytes) (sym did.answered)
      (says_reads bytes (demand1_record_cause bytes (length before.labels) (length before.rooms)))

  -- the rooms at the front of the slice, as many as the number returned
  front : take n after.rooms ≡ drawing_of (labels_of bytes)
  front =
      let drawing = drawing_of (labels_of bytes) in
      let labels = demand2_read_only_list bytes all reads.0 in
      let size : n ≡ length drawing = reads.1 ∙ sym labels.size ∙ sym (length_drawing (labels_of bytes)) in
      ap (take n) did.rooms_are ∙ ap (λ (m : ℕ). take m (drawing ++ drop n before.rooms)) size ∙ take-append_seam drawing _

  -- "so that a drawing can be handed straight back"
  pub m106_drawing_comes_back : (sent left : Slices) (answer : Result ℕ Refusal) → RoomsIn (take n after.rooms) sent answer left
      → ¬ Short (take n after.rooms) (length sent.bytes) (length sent.labels) (length sent.positions) (length sent.names)
      → (answer ≡ Ok (length bytes)) × (bytes_left (length bytes) left ≡ bytes)
  m106_drawing_comes_back sent left answer handed long =
      (is, bytes_are_record (subst (λ (a : Result ℕ Refusal). RoomsIn rooms sent a left) is handed) ∙ back)
    where
      rooms : List Room
      rooms = take n after.rooms

      drawn : AcceptedRooms (drawing_of (labels_of bytes)) × (record_of_rooms (drawing_of (labels_of bytes)) ≡ bytes)
      drawn = let (accepted, sixteen_bits, e) = drawing_of_record bytes all reads.0 in (accepted, e)

      back : record_of_rooms rooms ≡ bytes
      back = ap record_of_rooms front ∙ drawn.1

      is : answer ≡ Ok (length bytes)
      is = handed.answered
          ∙ sym (demand1_rooms_answer rooms _ _ _ _ (wrote (subst AcceptedRooms (sym front) drawn.0) long))
          ∙ ap (λ (r : List ℕ). Ok (length r)) back
