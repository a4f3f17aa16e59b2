-- M-100's promises. "Two accepted texts have the same tidy form exactly if they list the same labels in the same order, and tidying a
-- tidy text changes nothing." "The tidy forms of two accepted texts are the same exactly when the grid drawings of their labels are
-- equivalent." Each is stated of texts, and then of what calls answer and leave.
use Rattle.std.specs.Prelude.{Result, Ok, Err, List, [], ◌++◌, ◌↔◌, ◌≡◌, refl, ℕ, suc, ◌≤◌, length, take, drop}
use Rattle.std.proofs.Common.{sym, ap, subst, ◌∙◌, arith}
use Rattle.std.proofs.Math.Seq.{take-append_seam}
use Rattle.record.specs.declared.Refusal.{Refusal}
use Rattle.record.specs.Judged.{Sound}
use Rattle.record.proofs.Demand2.{sound→baxter}
use Rattle.drawing.specs.Drawing.{drawing_of}
use Rattle.rooms.specs.Equivalent.{Equivalent}
use Rattle.rooms.proofs.GridLabels.{DrawnAs, baxter_gives_drawing}
use Rattle.rooms.specs.PlanOf.{accepted→floorplan}
use Rattle.rooms.proofs.PartnerSegments.{same_labels→equivalent}
use Rattle.rooms.proofs.SameLabels.{equivalent→same_labels}
use Rattle.labeltext.specs.Form.{Lists, KeepsForm}
use Rattle.labeltext.specs.Decide.{lists_one, dec_keeps_form}
use Rattle.labeltext.specs.Tidy.{tidy_text}
use Rattle.labeltext.specs.TidyLists.{Small, small, tidy_lists}
use Rattle.labeltext.specs.TidySize.{sound_tidy_size}
use Rattle.labeltext.specs.Answer.{labels_in, tidy_form, Tidied}
use Rattle.labeltext.specs.Demand1.{AcceptedText, TidySays, breaks, refused, short, wrote, demand1_tidy_cause, demand1_tidy_answer}

-- the labels of a text are those that it lists
pub labels_are_listed : (text numbers : List ℕ) → length text ≤ 4096 → Lists text numbers → labels_in text ≡ numbers
unfolding labels_in
labels_are_listed text numbers few l = go (dec_keeps_form text)
  where
    go : (d : Dec (KeepsForm text)) → (elim d [ yes k ↦ k.numbers | no h ↦ [] ]) ≡ numbers
    go (yes k) = lists_one k.lists l
    go (no h) = absurd (h (record { short = few; numbers = numbers; lists = l }))

-- ---- an accepted text
module _ {text : List ℕ} (k : AcceptedText text) where
  abbrev labels : List ℕ
  labels = labels_in text

  labels_small : Small labels
  labels_small =
      let (b, some, few) = sound→baxter labels k.sound in
      small labels (λ i h. omega (arith, b.each_once.range (suc i) (omega arith) h))

  -- its tidy form has the text's labels
  tidy_form_lists : Lists (tidy_form text) (labels_in text)
  tidy_form_lists = tidy_lists labels labels_small

  tidy_form_short : length (tidy_form text) ≤ 912
  tidy_form_short = let (b, some, few) = sound→baxter labels k.sound in omega (arith, sound_tidy_size labels k.sound)

  tidy_form_labels : labels_in (tidy_form text) ≡ labels_in text
  tidy_form_labels = labels_are_listed (tidy_form text) labels (omega (arith, tidy_form_short)) tidy_form_lists

  -- "tidying a tidy text changes nothing": it is accepted, and it is its own tidy form
  pub m100_tidy_form_accepted : AcceptedText (tidy_form text)
  m100_tidy_form_accepted = record {
    form = record { short = omega (arith, tidy_form_short); numbers = labels; lists = tidy_form_lists };
    sound = subst Sound (sym tidy_form_labels) k.sound;
  }

  pub m100_tidy_form_same : tidy_form (tidy_form text) ≡ tidy_form text
  m100_tidy_form_same = ap tidy_text tidy_form_labels

  drawn : DrawnAs labels (drawing_of labels)
  drawn = let (b, some, few) = sound→baxter labels k.sound in baxter_gives_drawing labels b some few

-- ---- two accepted texts
module _ (text other : List ℕ) (k : AcceptedText text) (l : AcceptedText other) where
  -- "have the same tidy form exactly if they list the same labels in the same order"
  pub m100_same_tidy_iff_same_labels : (tidy_form text ≡ tidy_form other) ↔ (labels_in text ≡ labels_in other)
  m100_same_tidy_iff_same_labels = (
    λ e. lists_one (tidy_form_lists k) (subst (λ (t : List ℕ). Lists t (labels_in other)) (sym e) (tidy_form_lists l)),
    λ e. ap tidy_text e,
  )

  -- "are the same exactly when the grid drawings of their labels are equivalent"
  pub m100_same_tidy_iff_equivalent : (tidy_form text ≡ tidy_form other)
      ↔ Equivalent (drawing_of (labels_in text)) (drawing_of (labels_in other))
  m100_same_tidy_iff_equivalent =
      let one = drawing_of (labels_in text) in
      let two = drawing_of (labels_in other) in
      let d = drawn k in
      let e = drawn l in
      let plan = accepted→floorplan one d.accepted in
      let plan-other = accepted→floorplan two e.accepted in (
        λ same.
            same_labels→equivalent one two plan plan-other
            (d.has_labels ∙ m100_same_tidy_iff_same_labels.0 same ∙ sym e.has_labels),
        λ q. ap tidy_text (sym d.has_labels ∙ equivalent→same_labels one two plan plan-other q ∙ e.has_labels),
      )

-- ---- what an answer that is no refusal says
abbrev Accepts : (text : List ℕ) → Result ℕ Refusal → Type 0
Accepts text (Ok n) = AcceptedText text × (n ≡ length (tidy_form text))
Accepts text (Err refusal) = Unit

says_accepts : {text : List ℕ} {capacity : ℕ} {answer : Result ℕ Refusal} → TidySays text capacity answer → Accepts text answer
says_accepts (breaks b) = tt
says_accepts (refused f c) = tt
says_accepts (short k s) = tt
says_accepts (wrote k s) = (k, refl)

-- ---- what a call leaves
-- the bytes at the front of the output slice, as many as the length returned
abbrev pub bytes_left : (n : ℕ) (after : List ℕ) → List ℕ
bytes_left n after = take n after

module _ {text before after : List ℕ} {n : ℕ} (did : Tidied text before (Ok n) after) where
  accepts : AcceptedText text × (n ≡ length (tidy_form text))
  accepts = subst (Accepts text) (sym did.answered) (says_accepts (demand1_tidy_cause text (length before)))

  bytes_are_tidy : bytes_left n after ≡ tidy_form text
  bytes_are_tidy =
      ap (take n) did.left ∙ ap (λ (m : ℕ). take m (tidy_form text ++ drop n before)) accepts.1
      ∙ take-append_seam (tidy_form text) _

  -- a slice of 912 bytes is long enough for every text: two for each of 255 labels, one more for each of the 246 above 9, and one
  -- more for each of the 156 above 99
  pub wrote_at_most_912 : n ≤ 912
  wrote_at_most_912 = omega (arith, accepts.1, tidy_form_short accepts.0)

-- the unique-code rule, of the bytes that two calls leave
pub m100_same_bytes_iff_equivalent : (text other before after other-before other_After : List ℕ) (n m : ℕ)
    → Tidied text before (Ok n) after → Tidied other other-before (Ok m) other_After
    → (bytes_left n after ≡ bytes_left m other_After) ↔ Equivalent (drawing_of (labels_in text)) (drawing_of (labels_in other))
m100_same_bytes_iff_equivalent text other before after other-before other_After n m did second =
    let one = bytes_are_tidy did in
    let two = bytes_are_tidy second in
    let (to, from) = m100_same_tidy_iff_equivalent text other (accepts did).0 (accepts second).0 in
    (λ same. to (sym one ∙ same ∙ two), λ q. one ∙ from q ∙ sym two)

-- "tidying a tidy text changes nothing", of the bytes that a call left: handed in with a slice that holds as many, they are answered
-- by the same length and left as the same bytes
pub m100_tidied_again : (text before after : List ℕ) (n : ℕ) → Tidied text before (Ok n) after
    → (again left : List ℕ) (answer : Result ℕ Refusal) → n ≤ length again → Tidied (bytes_left n after) again answer left
    → (answer ≡ Ok n) × (bytes_left n left ≡ bytes_left n after)
m100_tidied_again text before after n did again left answer room second =
    let (k, size) = accepts did in
    let is = bytes_are_tidy did in
    let same = ap tidy_form is ∙ m100_tidy_form_same k in
    let long : n ≡ length (tidy_form (bytes_left n after)) = size ∙ sym (ap length same) in
    let accepted = subst AcceptedText (sym is) (m100_tidy_form_accepted k) in
    let wrote_again : Ok n ≡ answer =
    ap Ok long ∙ demand1_tidy_answer (bytes_left n after) (length again) (wrote accepted (λ s. omega arith))
    ∙ sym second.answered in
    let bytes = bytes_are_tidy (subst (λ (a : Result ℕ Refusal). Tidied (bytes_left n after) again a left) (sym wrote_again) second) in
    (sym wrote_again, bytes ∙ same ∙ sym is)
