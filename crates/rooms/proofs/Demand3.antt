-- Demand 3: "Any two accepted room lists get the same record, byte for byte, exactly when the two floorplans are equivalent. The
-- reading of any bytes at all is accepted exactly when they are the record of some accepted room list."
use Rattle.std.specs.Prelude.{◌≡◌, refl, ◌≢◌, ◌↔◌, List, ℕ, ◌≤◌, ◌<◌, length, get_or}
use Rattle.std.proofs.Common.{sym, ap, subst, ◌∙◌, inl, inr, arith, ext_get_or}
use Rattle.std.proofs.Math.Decide.{ℕ_discrete}
use Rattle.finite.specs.Decide.{dec-×, dec_iff}
use Rattle.finite.specs.First.{dec_each}
use Rattle.bits.specs.Bit.{Bytes}
use Rattle.record.specs.Barred.{Baxter}
use Rattle.record.specs.Record.{record_of}
use Rattle.record.specs.Read.{kind_of, labels_of}
use Rattle.record.specs.Checked.{Readable}
use Rattle.record.proofs.Demand2.{demand2_same_record}
use Rattle.record.proofs.Demand2Read.{record_of→labels_of, demand2_read_only_list, demand2_written_read, readable_only_list}
use Rattle.drawing.specs.declared.Room.{Room}
use Rattle.drawing.specs.Drawing.{drawing_of}
use Rattle.rooms.specs.Outline.{SixteenBits}
use Rattle.rooms.specs.Causes.{AcceptedRooms}
use Rattle.rooms.specs.LabelList.{label_list, record_of_rooms}
use Rattle.rooms.specs.Equivalent.{Equivalent}
use Rattle.rooms.specs.PlanOf.{accepted→floorplan}
use Rattle.rooms.proofs.LabelsBaxter.{label_list_baxter}
use Rattle.rooms.proofs.Ranks.{length_label_list}
use Rattle.rooms.proofs.PartnerSegments.{same_labels→equivalent}
use Rattle.rooms.proofs.SameLabels.{equivalent→same_labels}
use Rattle.rooms.proofs.GridLabels.{baxter_gives_drawing}

-- the label list of an accepted room list: Baxter, 1 to 255 labels, one for each room
pub record BaxterOf (rooms : List Room) : Type 0 where
  pub baxter : Baxter (label_list rooms)
  pub size : length (label_list rooms) ≡ length rooms
  pub some : 1 ≤ length rooms
  pub few : length rooms ≤ 255

pub rooms_give_baxter : (rooms : List Room) → AcceptedRooms rooms → BaxterOf rooms
rooms_give_baxter rooms accepted =
    let k = accepted→floorplan rooms accepted in
    let not_none : length rooms ≢ 0 = λ e. accepted.count (inl e) in
    let not_many : ¬ (255 < length rooms) = λ e. accepted.count (inr e) in
    record { baxter = label_list_baxter rooms k; size = length_label_list rooms k; some = omega arith; few = omega arith }

-- "the same record, byte for byte, exactly when the two floorplans are equivalent"
pub demand3_same_record_iff_equivalent : (rooms others : List Room) → AcceptedRooms rooms → AcceptedRooms others
    → (record_of_rooms rooms ≡ record_of_rooms others) ↔ Equivalent rooms others
unfolding record_of_rooms
demand3_same_record_iff_equivalent rooms others accepted accepted-others =
    let k = accepted→floorplan rooms accepted in
    let ko = accepted→floorplan others accepted-others in (
      λ e. same_labels→equivalent rooms others k ko (demand2_same_record (label_list rooms) (label_list others) (label_list_baxter rooms k) (label_list_baxter others ko) e),
      λ e. ap record_of (equivalent→same_labels rooms others k ko e),
    )

unfoldable dec_same_bytes : (bytes others : List ℕ) → Dec (bytes ≡ others)
unfolding dec_iff dec-× dec_each ℕ_discrete
dec_same_bytes bytes others = dec_iff (λ (size, same). ext_get_or 0 bytes others size (λ i h. same i (omega arith) h)) (λ e. (ap length e, λ i l h. ap (λ (bs : List ℕ). get_or bs i 0) e))
    (dec-× (ℕ_discrete (length bytes) (length others)) (dec_each _ (λ i. ℕ_discrete (get_or bytes i 0) (get_or others i 0)) 0 (length bytes)))

-- so whether two accepted room lists are equivalent is decided, by their records
unfoldable pub dec_equivalent : (rooms others : List Room) → AcceptedRooms rooms → AcceptedRooms others → Dec (Equivalent rooms others)
unfolding dec_iff dec-× dec_each ℕ_discrete dec_same_bytes
dec_equivalent rooms others accepted accepted-others =
    let (to, from) = demand3_same_record_iff_equivalent rooms others accepted accepted-others in
    dec_iff to from (dec_same_bytes (record_of_rooms rooms) (record_of_rooms others))

-- the record of an accepted room list passes the record checks
pub record_of_rooms_readable : (rooms : List Room) → AcceptedRooms rooms → Readable (record_of_rooms rooms)
unfolding record_of_rooms
record_of_rooms_readable rooms accepted = let b = rooms_give_baxter rooms accepted in demand2_written_read (label_list rooms) (omega (arith, b.some, b.size)) b.baxter

-- and gives its label list back
pub label_list_back : (rooms : List Room) → AcceptedRooms rooms → label_list rooms ≡ labels_of (record_of_rooms rooms)
unfolding record_of_rooms
label_list_back rooms accepted = record_of→labels_of (record_of_rooms rooms) (record_of_rooms_readable rooms accepted) (label_list rooms)
    (rooms_give_baxter rooms accepted).baxter refl

-- and is of as many rooms as the list
pub kind_of_rooms : (rooms : List Room) → AcceptedRooms rooms → kind_of (record_of_rooms rooms) ≡ length rooms
kind_of_rooms rooms accepted =
    sym (readable_only_list (record_of_rooms rooms) (record_of_rooms_readable rooms accepted)).size
    ∙ ap length (sym (label_list_back rooms accepted)) ∙ (rooms_give_baxter rooms accepted).size

-- the grid drawing of a record's labels is a room list that has this record
pub drawing_of_record : (bytes : List ℕ) → Bytes bytes → Readable bytes
    → AcceptedRooms (drawing_of (labels_of bytes)) × SixteenBits (drawing_of (labels_of bytes))
    × (record_of_rooms (drawing_of (labels_of bytes)) ≡ bytes)
unfolding record_of_rooms
drawing_of_record bytes all readable =
    let reads = demand2_read_only_list bytes all readable in
    let not_none : kind_of bytes ≢ 0 = λ e. readable.kind (inr e) in
    let drawn = baxter_gives_drawing (labels_of bytes) reads.baxter (omega (arith, reads.size)) (omega (arith, reads.size, all 0)) in
    (drawn.accepted, drawn.sixteen_bits, ap record_of drawn.has_labels ∙ reads.back)

-- "The reading of any bytes at all is accepted exactly when they are the record of some accepted room list"
pub demand3_read_iff_record_of_rooms : (bytes : List ℕ) → Bytes bytes
    → Readable bytes ↔ ((rooms : List Room) × AcceptedRooms rooms × SixteenBits rooms × (record_of_rooms rooms ≡ bytes))
demand3_read_iff_record_of_rooms bytes all = (
  λ readable. let (accepted, sixteen_bits, e) = drawing_of_record bytes all readable in
      (drawing_of (labels_of bytes), accepted, sixteen_bits, e),
  λ (rooms, accepted, sixteen_bits, e). subst Readable e (record_of_rooms_readable rooms accepted),
)
