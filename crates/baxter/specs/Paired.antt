-- Accepted records are paired with Baxter lists (demand 2) and with the classes of equivalent room lists (demand 3), and a record has the
-- rises of its labels.
use Rattle.std.specs.Prelude.{not, List, ◌≢◌, ◌≡◌, refl, ℕ, zero, suc, ◌≤◌, ◌<◌, length}
use Rattle.std.proofs.Common.{sym, ap, subst, ◌∙◌, arith}
use Rattle.std.proofs.Math.Decide.{dec_lt}
use Rattle.finite.specs.Count.{count, indicator}
use Rattle.finite.specs.Decide.{holds}
use Rattle.finite.specs.Search.{Some}
use Rattle.finite.specs.HowMany.{HowMany, HowManyClasses}
use Rattle.finite.specs.Numbered.{as_many}
use Rattle.finite.specs.Sum.{sum, sum_empty, sum_last}
use Rattle.bits.specs.Bit.{bit}
use Rattle.record.specs.Labels.{label_at}
use Rattle.record.specs.Barred.{Baxter}
use Rattle.record.specs.Triple.{triple_at}
use Rattle.record.specs.Record.{triple_in, record_of}
use Rattle.record.specs.Read.{kind_of, body_of, labels_of}
use Rattle.record.specs.Rises.{rises, third_of, rises_of}
use Rattle.record.proofs.Demand2.{record_triple}
use Rattle.record.proofs.Demand2Read.{Reads, record_of→labels_of, demand2_read_only_list}
use Rattle.drawing.specs.declared.Room.{Room}
use Rattle.drawing.specs.Drawing.{drawing_of}
use Rattle.rooms.specs.Outline.{SixteenBits}
use Rattle.rooms.specs.Causes.{AcceptedRooms}
use Rattle.rooms.specs.LabelList.{label_list, record_of_rooms}
use Rattle.rooms.specs.Equivalent.{Equivalent}
use Rattle.rooms.proofs.Demand3.{rooms_give_baxter, demand3_same_record_iff_equivalent, kind_of_rooms, drawing_of_record}
use Rattle.counting.specs.Counted.{AcceptedRecord}
use Rattle.counting.specs.Accepted.{record_accepted}
use Rattle.baxter.specs.Lists.{BaxterList, rises_of_labels, PlanOfRooms}

-- ---- the rises of a label list are those of its record
-- the same summands, one place further on
sum_moved : (f g : ℕ → ℕ) (n : ℕ) → ((i : ℕ) → 1 ≤ i → i < n → f i ≡ g (suc i)) → sum f 1 n ≡ sum g 2 (suc n)
sum_moved f g zero same = sum_empty f 1 0 (omega arith) ∙ sym (sum_empty g 2 1 (omega arith))
sum_moved f g (suc zero) same = sum_empty f 1 1 (omega arith) ∙ sym (sum_empty g 2 2 (omega arith))
sum_moved f g (suc (suc n)) same = omega (
  arith,
  sum_last f 1 (suc n) (omega arith),
  sum_last g 2 (suc (suc n)) (omega arith),
  same (suc n) (omega arith) (omega arith),
  sum_moved f g (suc n) (λ i a h. same i a (omega arith)),
)

-- of two different labels one is the smaller
rise_or_fall : (a b : ℕ) → a ≢ b → indicator (dec_lt a b) ≡ bit (not (holds (dec_lt b a)))
unfolding indicator holds
rise_or_fall a b apart = go (dec_lt a b) (dec_lt b a)
  where
    go : (d : Dec (a < b)) (e : Dec (b < a)) → indicator d ≡ bit (not (holds e))
    go (yes h) (yes l) = absurd (omega arith)
    go (yes h) (no l) = refl
    go (no h) (yes l) = refl
    go (no h) (no l) = absurd (omega arith)

pub rises_of_record : (labels : List ℕ) → Baxter labels → rises_of_labels labels ≡ rises_of (record_of labels)
unfolding rises_of_labels count rises record_of triple_at
rises_of_record labels b = sum_moved _ (λ i. bit (not (third_of (triple_in (body_of (record_of labels)) i)))) (length labels) λ i a h.
    rise_or_fall (label_at labels i) (label_at labels (suc i))
    (λ e. omega (arith, b.each_once.once i (suc i) a (omega arith) (omega arith) h e))
    ∙ ap (λ t. bit (not (third_of t))) (record_triple labels (suc i) (omega arith) h)

-- ---- accepted records that have P
module _ (n c : ℕ) (P : List ℕ → Type 0) (many : HowMany (λ bytes. AcceptedRecord n bytes × P bytes) c) where
  reads : (bytes : List ℕ) → AcceptedRecord n bytes → Reads bytes (labels_of bytes)
  reads bytes a = demand2_read_only_list bytes a.all_bytes a.read

  -- are as many as the Baxter lists whose record has it
  pub lists_paired : 1 ≤ n → n ≤ 255 → HowMany (λ labels. BaxterList n labels × P (record_of labels)) c
  lists_paired some few = as_many labels_of to injective onto many
    where
      to : (bytes : List ℕ) → AcceptedRecord n bytes × P bytes → BaxterList n (labels_of bytes) × P (record_of (labels_of bytes))
      to bytes (a, p) = (((reads bytes a).baxter, (reads bytes a).size ∙ a.rooms), subst P (sym (reads bytes a).back) p)

      injective : (bytes others : List ℕ) → AcceptedRecord n bytes × P bytes → AcceptedRecord n others × P others
          → labels_of bytes ≡ labels_of others → bytes ≡ others
      injective bytes others (a, p) (b, q) e = sym (reads bytes a).back ∙ ap record_of e ∙ (reads others b).back

      onto : (labels : List ℕ) → BaxterList n labels × P (record_of labels)
          → (bytes : List ℕ) × (AcceptedRecord n bytes × P bytes) × (labels_of bytes ≡ labels)
      onto labels (b, p) =
          let a = record_accepted n some few labels b.0 b.1 in
          (record_of labels, (a, p), sym (record_of→labels_of (record_of labels) a.read labels b.0 refl))

  -- are as many as the classes of equivalent room lists whose record has it
  pub classes_paired : HowManyClasses (λ rooms. PlanOfRooms n rooms × P (record_of_rooms rooms)) Equivalent c
  classes_paired = record { thing = λ i. drawn (many.thing i); has = has; each = each; once = once }
    where
      drawn : List ℕ → List Room
      drawn bytes = drawing_of (labels_of bytes)

      draws : (bytes : List ℕ) → AcceptedRecord n bytes
          → AcceptedRooms (drawn bytes) × SixteenBits (drawn bytes) × (record_of_rooms (drawn bytes) ≡ bytes)
      draws bytes a = drawing_of_record bytes a.all_bytes a.read

      has : (i : ℕ) → i < c → PlanOfRooms n (drawn (many.thing i)) × P (record_of_rooms (drawn (many.thing i)))
      has i h =
          let (a, p) = many.has i h in
          let (accepted, sixteen_bits, e) = draws (many.thing i) a in
          ((accepted, sixteen_bits, sym (kind_of_rooms (drawn (many.thing i)) accepted) ∙ ap kind_of e ∙ a.rooms), subst P (sym e) p)

      accepted_record : (rooms : List Room) → PlanOfRooms n rooms → AcceptedRecord n (record_of_rooms rooms)
      accepted_record rooms (accepted, sixteen_bits, size) =
          let b = rooms_give_baxter rooms accepted in
          unfold record_of_rooms in
          record_accepted n (omega (arith, b.some)) (omega (arith, b.few)) (label_list rooms) b.baxter (b.size ∙ size)

      each : (rooms : List Room) → PlanOfRooms n rooms × P (record_of_rooms rooms) → Some (λ i. Equivalent (drawn (many.thing i)) rooms) 0 c
      each rooms (plan, p) =
          let (i, from, to, e) = many.each (record_of_rooms rooms) (accepted_record rooms plan, p) in
          let (accepted, sixteen_bits, d) = draws (many.thing i) (many.has i to).0 in
          (i, from, to, (demand3_same_record_iff_equivalent (drawn (many.thing i)) rooms accepted plan.0).0 (d ∙ e))

      once : (i j : ℕ) → i < c → j < c → Equivalent (drawn (many.thing i)) (drawn (many.thing j)) → i ≡ j
      once i j h l same =
          let (accepted, sixteen_bits, d) = draws (many.thing i) (many.has i h).0 in
          let (accepted', sixteen-bits', e) = draws (many.thing j) (many.has j l).0 in
          let same-record = (demand3_same_record_iff_equivalent (drawn (many.thing i)) (drawn (many.thing j)) accepted accepted').1 same in
          many.once i j h l (sym d ∙ same-record ∙ e)
