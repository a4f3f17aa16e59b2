-- Demand 2 for label lists and triples: "a record gives the only Baxter permutation that has it"; "Every Baxter permutation of 1 to
-- 255 labels is accepted, given long enough output slices, and no other list is."
use Rattle.std.specs.Prelude.{◌≡◌, refl, ◌≢◌, ◌↔◌, ℕ, zero, suc, ◌+◌, ◌-◌, ◌*◌, ◌/◌, ◌%◌, ◌≤◌, ◌<◌, length, drop, Result, Ok, Err}
use Rattle.std.proofs.Common.{sym, subst, ◌∙◌, inl, inr, arith, lt-ltb, ext_get_or}
use Rattle.std.proofs.Math.Path.{ap}
use mathlib.Core.List.{List}
use Rattle.std.proofs.Math.ListN.{get_or}
use Rattle.finite.specs.Decide.{eq_or_ne, le_or_lt}
use Rattle.bits.specs.Bit.{bit_at, pack}
use Rattle.bits.proofs.Pack.{length_pack, bit_at_pack}
use Rattle.record.specs.Labels.{label_at, EachOnce, LabelOutside, LabelTwice}
use Rattle.record.specs.Barred.{Barred, Baxter}
use Rattle.record.specs.Triple.{Triple, triple, triple_at}
use Rattle.record.specs.Walk.{Accepted}
use Rattle.record.specs.Record.{body_length, triple_bit, body_bit, triple_in, record_of}
use Rattle.record.specs.Answer.{labels_answer}
use Rattle.record.specs.Demand1 as says
use Rattle.record.specs.Demand1.{LabelsSays, demand1_labels_cause, demand1_labels_answer}
use Rattle.record.specs.Judged.{Permutation, Sound}
use Rattle.record.specs.Decode.{decode}
use Rattle.record.proofs.NextTo.{not_barred_next}
use Rattle.record.proofs.Forward.{accepted}
use Rattle.record.proofs.Backward.{length_decode, decode_at, decoded_each, decoded_triple, decoded_not_barred, own_label}
use Rattle.record.specs.declared.Refusal.{Refusal}

-- the triples of positions 2 to n of a label list are these
abbrev pub HasTriples : (labels : List ℕ) → (ℕ → Triple) → Type 0
HasTriples labels triples = (i : ℕ) → 2 ≤ i → i ≤ length labels → triple_at (label_at labels) i ≡ triples i

-- a Baxter list of n labels that has these triples, and the only one
pub record OnlyList (triples : ℕ → Triple) (n : ℕ) (labels : List ℕ) : Type 0 where
  pub size : length labels ≡ n
  pub baxter : Baxter labels
  pub has : HasTriples labels triples
  pub only : (other : List ℕ) → length other ≡ n → Baxter other → HasTriples other triples → other ≡ labels

-- the triples of a Baxter list are accepted by the walk
pub demand2_record_accepted : (labels : List ℕ) → 1 ≤ length labels → Baxter labels → Accepted (triple_at (label_at labels)) (length labels)
demand2_record_accepted labels some b =
    accepted (label_at labels) (length labels) b.each_once (not_barred_next (label_at labels) (length labels) b.each_once b.not_barred) (length labels - 1) (omega arith)

-- every accepted sequence of triples is that of exactly one Baxter list, which decoding along the table gives
pub demand2_one_list : (triples : ℕ → Triple) (n : ℕ) → 1 ≤ n → Accepted triples n → OnlyList triples n (decode triples n)
demand2_one_list triples zero some a = absurd (omega arith)
demand2_one_list triples (suc m) some a = record {
  size = size;
  baxter = record { each_once = subst (EachOnce f) (sym size) (decoded_each triples m a); not_barred = subst (λ (n : ℕ). ¬ Barred f n) (sym size) (decoded_not_barred triples m a) };
  has = has;
  only = only;
}
  where
    f : ℕ → ℕ
    f = label_at (decode triples (suc m))

    size : length (decode triples (suc m)) ≡ suc m
    size = length_decode triples (suc m)

    has : HasTriples (decode triples (suc m)) triples
    has zero l h = absurd (omega arith)
    has (suc zero) l h = absurd (omega arith)
    has (suc (suc k)) l h = decoded_triple triples m a k (omega (arith, size))

    only : (other : List ℕ) → length other ≡ suc m → Baxter other → HasTriples other triples → other ≡ decode triples (suc m)
    only other e b h = ext_get_or 0 other (decode triples (suc m)) (e ∙ sym size) same
      where
        same : (i : ℕ) → i < length other → get_or other i 0 ≡ get_or (decode triples (suc m)) i 0
        same i l = sym (decode_at triples (suc m) i (omega arith)
            ∙ own_label (label_at other) triples m (subst (EachOnce (label_at other)) e b.each_once) (subst (λ (n : ℕ). ¬ Barred (label_at other) n) e b.not_barred)
            (λ k g. h (suc (suc k)) (omega arith) (omega arith)) i (omega arith))

-- ---- the record has the triples
bit_in_lem : (f : ℕ → Triple) (n k : ℕ) (r : ℕ) → r < 3 → 3 * k + r < 3 * n - 3 → body_bit f n (3 * k + r) ≡ triple_bit (f (suc (suc k))) r
unfolding body_bit
bit_in_lem f n k r h l =
    let q : (3 * k + r) / 3 ≡ k = omega arith in
    let m : (3 * k + r) % 3 ≡ r = omega arith in
    rw (lt-ltb (3 * k + r) (3 * n - 3) l, q, m)

triple_is_bits : (t : Triple) → t ≡ triple (triple_bit t 0) (triple_bit t 1) (triple_bit t 2)
triple_is_bits (triple first second third) = refl

-- the triple of a position is read back from the record
pub record_triple : (labels : List ℕ) → HasTriples labels (triple_in (drop 1 (record_of labels)))
unfolding record_of
record_triple labels zero l h = absurd (omega arith)
record_triple labels (suc zero) l h = absurd (omega arith)
record_triple labels (suc (suc k)) l h = triple_is_bits t ∙ (λ i. triple (bit 0 (3 * k) (omega arith) (omega arith) i) (bit 1 (3 * k + 1) (omega arith) (omega arith) i) (bit 2 (3 * k + 2) (omega arith) (omega arith) i))
  where
    n : ℕ
    n = length labels

    t : Triple
    t = triple_at (label_at labels) (suc (suc k))

    bit : (r i : ℕ) → 3 * k + r ≡ i → r < 3 → triple_bit t r ≡ bit_at (pack (body_bit (triple_at (label_at labels)) n) (body_length n)) i
    bit r i e l = sym (ap (bit_at (pack (body_bit (triple_at (label_at labels)) n) (body_length n))) (sym e)
        ∙ bit_at_pack (body_bit (triple_at (label_at labels)) n) (body_length n) (3 * k + r) (omega arith)
        ∙ bit_in_lem (triple_at (label_at labels)) n k r l (omega arith))

-- "The record, at most 97 bytes"
pub record_length : (labels : List ℕ) → length (record_of labels) ≡ 1 + body_length (length labels)
unfolding record_of
record_length labels = omega (arith, length_pack (body_bit (triple_at (label_at labels)) (length labels)) (body_length (length labels)))

pub record_at_most_97 : (labels : List ℕ) → length labels ≤ 255 → length (record_of labels) ≤ 97
record_at_most_97 labels few = omega (arith, record_length labels)

-- so two Baxter lists with the same record are the same list
pub demand2_same_record : (labels others : List ℕ) → Baxter labels → Baxter others → record_of labels ≡ record_of others → labels ≡ others
demand2_same_record labels others b c e = go (length labels) refl
  where
    same_size : length labels ≡ length others
    same_size = unfold record_of in ap (λ (bytes : List ℕ). get_or bytes 0 0) e

    has : HasTriples others (triple_at (label_at labels))
    has i l h =
        record_triple others i l h ∙ ap (λ (bytes : List ℕ). triple_in (drop 1 bytes) i) (sym e)
        ∙ sym (record_triple labels i l (omega (arith, same_size)))

    go : (n : ℕ) → length labels ≡ n → labels ≡ others
    go zero h = ext_get_or 0 labels others same_size (λ i l. absurd (omega arith))
    go (suc m) h =
        let one = demand2_one_list (triple_at (label_at labels)) (suc m) (omega arith) (subst (Accepted (triple_at (label_at labels))) h (demand2_record_accepted labels (omega arith) b)) in
        one.only labels h b (λ i l u. refl) ∙ sym (one.only others (sym same_size ∙ h) c has)

-- ---- which lists are accepted
-- labels in 1 to n, none of them twice, are each of them once
pub each_once : (labels : List ℕ) → ¬ LabelOutside labels → ¬ LabelTwice labels → EachOnce (label_at labels) (length labels)
each_once labels inside single = record { range = range; once = once }
  where
    range : (i : ℕ) → 1 ≤ i → i ≤ length labels → (1 ≤ label_at labels i) × (label_at labels i ≤ length labels)
    range i a b =
        let lo : ¬ (label_at labels i < 1) = λ h. inside (i, a, omega arith, inl h) in
        let hi : ¬ (length labels < label_at labels i) = λ h. inside (i, a, omega arith, inr h) in
        (omega arith, omega arith)

    apart : (i j : ℕ) → 1 ≤ i → i < j → j ≤ length labels → label_at labels i ≢ label_at labels j
    apart i j a b c e = single (j, omega arith, omega arith, (i, a, b, e))

    once : (i j : ℕ) → 1 ≤ i → i ≤ length labels → 1 ≤ j → j ≤ length labels → label_at labels i ≡ label_at labels j → i ≡ j
    once i j a b c d e = elim (eq_or_ne i j) [
      | inl q ↦ q
      | inr q ↦ elim (le_or_lt i j) [ inl h ↦ absurd (apart i j a (omega arith) d e) | inr h ↦ absurd (apart j i c h b (sym e)) ]
    ]

-- and the other way round
pub once_inside : (labels : List ℕ) → EachOnce (label_at labels) (length labels) → ¬ LabelOutside labels
once_inside labels each (i, a, b, h) = elim h [ inl l ↦ omega (arith, each.range i a (omega arith)) | inr l ↦ omega (arith, each.range i a (omega arith)) ]

pub once_single : (labels : List ℕ) → EachOnce (label_at labels) (length labels) → ¬ LabelTwice labels
once_single labels each (j, a, b, (i, c, d, e)) = omega (arith, each.once i j c (omega arith) a (omega arith) e)

-- so a list with none of the causes 1, 6 and 7 has each of 1 to 255 labels once
pub permutation_once : (labels : List ℕ) → Permutation labels
    → EachOnce (label_at labels) (length labels) × (1 ≤ length labels) × (length labels ≤ 255)
permutation_once labels p =
    let some : length labels ≢ 0 = λ z. p.count (inl z) in
    let few : ¬ (255 < length labels) = λ z. p.count (inr z) in
    (each_once labels p.inside p.single, omega arith, omega arith)

-- and a list is sound exactly if it is Baxter and has 1 to 255 labels
pub sound→baxter : (labels : List ℕ) → Sound labels → Baxter labels × (1 ≤ length labels) × (length labels ≤ 255)
sound→baxter labels s =
    let (each, some, few) = permutation_once labels s.permutation in
    (record { each_once = each; not_barred = s.free }, some, few)

pub baxter→sound : (labels : List ℕ) → Baxter labels → 1 ≤ length labels → length labels ≤ 255 → Sound labels
baxter→sound labels b some few = record {
  permutation = record {
    count = λ h. elim h [ inl z ↦ omega arith | inr z ↦ omega arith ];
    inside = once_inside labels b.each_once;
    single = once_single labels b.each_once;
  };
  free = b.not_barred;
}

-- a record that is written is that of a sound list, and its length is the answer
wrote_sound : (labels : List ℕ) (capacity : ℕ) {size : ℕ} → labels_answer labels capacity ≡ Ok size
    → Sound labels × (size ≡ length (record_of labels))
wrote_sound labels capacity {size} e = go (demand1_labels_cause labels capacity) e
  where
    never : {refusal : Refusal} → Err refusal ≡ Ok size → Sound labels × (size ≡ length (record_of labels))
    never e = absurd (let z : ◌≡◌ {A = ℕ} 0 1 = cc in omega arith)

    go : {a : Result ℕ Refusal} → LabelsSays labels capacity a → a ≡ Ok size → Sound labels × (size ≡ length (record_of labels))
    go (says.refused cause) e = never e
    go (says.short all s) e = never e
    go (says.wrote all s) e = (all, cc)

-- the length answered is at most 97
pub wrote_at_most_97 : (labels : List ℕ) (capacity size : ℕ) → labels_answer labels capacity ≡ Ok size → size ≤ 97
wrote_at_most_97 labels capacity size e =
    let w = wrote_sound labels capacity e in
    omega (arith, w.1, record_at_most_97 labels (sound→baxter labels w.0).2)

-- "Every Baxter permutation of 1 to 255 labels is accepted, given long enough output slices, and no other list is."
pub demand2_accepts_baxter : (labels : List ℕ) (capacity : ℕ) → length (record_of labels) ≤ capacity
    → (labels_answer labels capacity ≡ Ok (length (record_of labels))) ↔ (Baxter labels × (1 ≤ length labels) × (length labels ≤ 255))
demand2_accepts_baxter labels capacity room = (
  λ e. sound→baxter labels (wrote_sound labels capacity e).0,
  λ (b, some, few). sym (demand1_labels_answer labels capacity (says.wrote (baxter→sound labels b some few) (λ h. omega arith))),
)
