-- A text that was read: its labels, and the list of bytes that the store has of them. A number that no byte holds is 0 there, so both
-- lists have a label outside 1 to n; where neither has one, they are the same.
use mathlib.Core.List.{List}
use mathlib.Core.Logic.{inl, inr, if_pos, if_neg}
use mathlib.Core.Path.{◌≡◌, refl, sym, ap, subst, ◌∙◌}
use Prim.Native.Nat.{ℕ, zero, suc, ◌≤◌, ◌<◌}
use native.Mathlib.Decide.{dec_lt}
use native.Mathlib.Omega.{arith}
use lib.ListN.{length, get_or, take}
use lib.Seq.{ext_get_or, get_or-take, length-take-le}
use Rattle.std.specs.Prelude.{Result, Err}
use Rattle.record.specs.Labels.{LabelOutside}
use Rattle.record.specs.Causes.{BadCount, dec_outside}
use Rattle.record.specs.Judged as judged
use Rattle.record.specs.Judged.{RefusesLabels, count, outside, twice, not_permutation, barred, Judgement, judgement, refused_judged}
use Rattle.record.specs.declared.Refusal.{Refusal}
use Rattle.labeltext.specs.Form.{KeepsForm}
use Rattle.labeltext.specs.Reader.{start, run, Done, numbers_of}
use Rattle.labeltext.specs.LineOf.{line_of}
use Rattle.labeltext.specs.Decide.{read_lists, lists_done}
use Rattle.labeltext.specs.Answer.{BreaksForm, labels_in, labels_tidied, tidy_answer, tidy_after, Tidied}
use Rattle.labeltext.specs.Demand1 as says
use Rattle.labeltext.specs.Demand1.{demand1_tidy_answer, kept_answer}
use Rattle.labeltext.specs.M100.{labels_are_listed}
use Rattle.numbers.specs.Number.{as_byte}
use Rattle.numbers.specs.Store.{Stores, ListedAs, Refuses, broken, many}
use Rattle.tidy.specs.Labels.{TidiedLabels}

-- a text that is too long, or whose line is not read to its end
pub long_breaks : (text : List ℕ) → 4096 < length text → BreaksForm text
long_breaks text h k = omega (arith, k.short)

pub unread_breaks : (text : List ℕ) → ¬ Done (run start (line_of text)) → BreaksForm text
unread_breaks text h k = h (lists_done k.lists)

-- a text that is
pub record Listed (text : List ℕ) (size : ℕ) (store : List ℕ) : Type 0 where
  pub form : KeepsForm text
  pub size_is : size ≡ length (labels_in text)
  pub few : size ≤ 255
  pub stores : Stores (labels_in text) store

-- its labels are the numbers that are read
module _ (text : List ℕ) (short : length text ≤ 4096) (done : Done (run start (line_of text))) where
  kept_form : KeepsForm text
  kept_form = record { short = short; numbers = numbers_of (run start (line_of text)); lists = read_lists text done }

  read_labels : labels_in text ≡ numbers_of (run start (line_of text))
  read_labels = labels_are_listed text (numbers_of (run start (line_of text))) short (read_lists text done)

-- a text whose line is refused
pub refused_tidied_text : (text before : List ℕ) {refusal : Refusal} → length text ≤ 4096 → Refuses (line_of text) refusal
    → Tidied text before (Err refusal) before
refused_tidied_text text before short (broken unread) =
    record { answered = demand1_tidy_answer text (length before) (says.breaks (unread_breaks text unread)); left = refl }
refused_tidied_text text before short (many done above) =
    let bad : BadCount (length (labels_in text)) = inr (omega (arith, ap length (read_labels text short done))) in
    let cause = not_permutation (count bad) in
    record { answered = demand1_tidy_answer text (length before) (says.refused (kept_form text short done) cause); left = refl }

pub listed : (text : List ℕ) (size : ℕ) (store : List ℕ) → length text ≤ 4096 → ListedAs size (line_of text) store → Listed text size store
listed text size store short l =
    let same = read_labels text short l.done in
    record {
      form = kept_form text short l.done;
      size_is = l.count_is ∙ ap length (sym same);
      few = l.few;
      stores = subst (λ (m : List ℕ). Stores m store) (sym same) l.stores;
    }

byte_small : (v : ℕ) → v ≤ 255 → as_byte v ≡ v
unfolding as_byte
byte_small v h = if_neg (dec_lt 255 v) (λ l. omega arith) _ _

byte_large : (v : ℕ) → 255 < v → as_byte v ≡ 0
unfolding as_byte
byte_large v h = if_pos (dec_lt 255 v) h _ _

-- two lists of one length that have a label outside 1 to n are refused alike
refused_outside : {bytes labels : List ℕ} {refusal : Refusal} → length bytes ≡ length labels → LabelOutside bytes → LabelOutside labels → RefusesLabels bytes refusal → RefusesLabels labels refusal
refused_outside e out there (not_permutation (count c)) = not_permutation (count (subst BadCount e c))
refused_outside e out there (not_permutation (outside c o)) = not_permutation (outside (λ z. c (subst BadCount (sym e) z)) there)
refused_outside e out there (not_permutation (twice c o t)) = absurd (o out)
refused_outside e out there (barred p b) = absurd (p.inside out)

module _ {text : List ℕ} {size : ℕ} {store : List ℕ} (l : Listed text size store) where
  pub stored : size ≤ length store
  stored = omega (arith, l.stores.long, l.few)

  pub stored_size : length (take size store) ≡ size
  stored_size = length-take-le size store stored

  byte_at : (k : ℕ) → k < length (labels_in text) → get_or (take size store) k 0 ≡ as_byte (get_or (labels_in text) k 0)
  byte_at k h = get_or-take size store k 0 (omega (arith, l.size_is)) ∙ l.stores.kept k h

  outside_stored : LabelOutside (labels_in text) → LabelOutside (take size store)
  outside_stored (zero, from, to, h) = absurd (omega arith)
  outside_stored (suc i, from, to, h) = (
    suc i,
    from,
    omega (arith, stored_size, l.size_is),
    elim h [
      | inl low ↦ inl (omega (arith, byte_at i (omega arith), byte_small (get_or (labels_in text) i 0) (omega arith)))
      | inr high ↦ elim (dec_lt 255 (get_or (labels_in text) i 0)) [
        | yes large ↦ inl (omega (arith, byte_at i (omega arith), byte_large (get_or (labels_in text) i 0) large))
        | no small ↦ inr (omega (arith, stored_size, l.size_is, byte_at i (omega arith), byte_small (get_or (labels_in text) i 0) (omega arith)))
      ]
    ],
  )

  inside_stored : ¬ LabelOutside (labels_in text) → take size store ≡ labels_in text
  inside_stored inside = ext_get_or 0 (take size store) (labels_in text) (stored_size ∙ l.size_is) (λ k h.
      let k_in : k < length (labels_in text) = omega (arith, stored_size, l.size_is) in
      let small : ¬ (length (labels_in text) < get_or (labels_in text) k 0) = λ high. inside (suc k, omega arith, omega arith, inr high) in
      byte_at k k_in ∙ byte_small (get_or (labels_in text) k 0) (omega (arith, l.size_is, l.few)))

  -- what is answered for the stored list is the answer for the text
  pub stored_tidied : {before after : List ℕ} {answer : Result ℕ Refusal} → TidiedLabels (take size store) before answer after → Tidied text before answer after
  stored_tidied {before} {after} {answer} t = elim (dec_outside (labels_in text)) [
    | no inside ↦
        let same = inside_stored inside in
        record {
          answered = t.answered ∙ ap (λ (a : List ℕ). labels_tidied a (length before)) same ∙ kept;
          left = t.left ∙ ap (λ (a : List ℕ). tidy_after answer a before) same;
        }
    | yes there ↦ go (judgement (take size store)) there
  ]
    where
      kept : labels_tidied (labels_in text) (length before) ≡ tidy_answer text (length before)
      kept = sym (kept_answer text (length before) l.form)

      go : Judgement (take size store) → LabelOutside (labels_in text) → Tidied text before answer after
      go (judged.sound s) there = absurd (s.permutation.inside (outside_stored there))
      go (judged.refused {refusal} cause) there =
          let is : answer ≡ Err refusal = t.answered ∙ sym (refused_judged Err (take size store) _ cause) in
          record {
            answered = is ∙ refused_judged Err (labels_in text) _ (refused_outside (stored_size ∙ l.size_is) (outside_stored there) there cause) ∙ kept;
            left = t.left ∙ ap (λ (a : Result ℕ Refusal). tidy_after a (take size store) before) is ∙ sym (ap (λ (a : Result ℕ Refusal). tidy_after a (labels_in text) before) is);
          }
