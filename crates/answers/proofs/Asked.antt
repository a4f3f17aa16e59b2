-- What the places and the record tell Record in: whether both slices have enough places, and the answer.
use mathlib.Core.List.{append_assoc}
use Rattle.std.proofs.Common.{◌≡◌, refl, sym, ap, subst, ◌∙◌, inl, inr, ℕ, zero, suc, ◌≤◌, List, [], ◌∷◌, ◌++◌, take, drop, Ok, arith}
use Rattle.std.proofs.lemmas.List.{take-append-drop}
use Rattle.record.specs.Read.{kind_of}
use Rattle.record.specs.Checked.{Readable}
use Rattle.answers.specs.Demand1.{written, demand1_record_answer}
use Rattle.answers.specs.Answer.{Short, record_answer}

-- no more rooms than there are places for both
pub enough : {n labels rooms : ℕ} → n ≤ labels → n ≤ rooms → ¬ Short n labels rooms
enough a b (inl l) = omega arith
enough a b (inr l) = omega arith

pub read_answer : {bytes : List ℕ} {n : ℕ} → n ≡ kind_of bytes → Readable bytes → (labels rooms : ℕ) → ¬ Short n labels rooms
    → Ok n ≡ record_answer bytes labels rooms
read_answer {bytes} kind readable labels rooms h =
    ap Ok kind
    ∙ demand1_record_answer bytes labels rooms (written readable (λ s. h (subst (λ (m : ℕ). Short m labels rooms) (sym kind) s)))

-- ---- what stands in the first places of a slice, and the rest of it
pub front_left : (fit : ℕ) (labels : List ℕ) {front : List ℕ} → front ≡ take fit labels → front ++ drop fit labels ≡ labels
front_left fit labels e = ap (λ (l : List ℕ). l ++ drop fit labels) e ∙ take-append-drop fit labels

rest : (n fit : ℕ) (labels : List ℕ) → n ≤ fit → drop n (take fit labels) ++ drop fit labels ≡ drop n labels
rest zero fit labels h = take-append-drop fit labels
rest (suc n) zero labels h = absurd (omega arith)
rest (suc n) (suc fit) [] h = refl
rest (suc n) (suc fit) (x ∷ labels) h = rest n fit labels (omega arith)

pub front_written : (n fit : ℕ) (part labels : List ℕ) {front : List ℕ} → n ≤ fit → front ≡ part ++ drop n (take fit labels)
    → front ++ drop fit labels ≡ part ++ drop n labels
front_written n fit part labels h e =
    ap (λ (l : List ℕ). l ++ drop fit labels) e ∙ append_assoc part (drop n (take fit labels)) (drop fit labels)
    ∙ ap (λ (l : List ℕ). part ++ l) (rest n fit labels h)
