-- The line of a text: the text without the newline that ends it. A text lists what its line lists.
use Rattle.std.specs.Prelude.{List, [], ◌∷◌, ◌++◌, ◌≢◌, ◌≡◌, refl, ℕ, suc, ◌-◌, ◌≤◌, length, get_or, take}
use Rattle.std.proofs.Common.{inl, inr, ap, subst, sym, ◌∙◌, arith, length-append, take-suc, take_at}
use Rattle.std.proofs.Math.Logic.{ite, if_pos, if_neg}
use Rattle.std.proofs.Math.Decide.{ℕ_discrete}
use Rattle.std.proofs.Math.ListN.{get_or-eq_default}
use Rattle.std.proofs.Math.Seq.{take-length}
use Rattle.std.proofs.lemmas.List.{get_or_at}
use Rattle.finite.specs.Decide.{eq_or_ne}
use Rattle.digits.specs.Decimal.{newline}
use Rattle.labeltext.specs.Form.{Line, Lists, bare, ended}
use Rattle.labeltext.specs.Symbol.{other, symbol_of}
use Rattle.labeltext.specs.Reader.{State, start, one, two, three, spaced, listed, broken, next, run, Done, run_append}
use Rattle.labeltext.specs.LineRead.{line_read}

-- the last byte of a text
abbrev pub last_of : List ℕ → ℕ
last_of text = get_or text (length text - 1) 0

unfoldable pub line_length : List ℕ → ℕ
unfolding ℕ_discrete
line_length text = ite (ℕ_discrete (last_of text) newline) (length text - 1) (length text)

abbrev pub line_of : List ℕ → List ℕ
line_of text = take (line_length text) text

pub line_length_ended : (text : List ℕ) → last_of text ≡ newline → line_length text ≡ length text - 1
unfolding line_length
line_length_ended text e = if_pos (ℕ_discrete (last_of text) newline) e _ _

pub line_length_bare : (text : List ℕ) → last_of text ≢ newline → line_length text ≡ length text
unfolding line_length
line_length_bare text h = if_neg (ℕ_discrete (last_of text) newline) h _ _

-- ---- a text that a newline ends
last_some : (text : List ℕ) → last_of text ≡ newline → 1 ≤ length text
last_some text e = elim (eq_or_ne (length text) 0) [
  | inl none ↦ absurd (omega (arith, get_or-eq_default text 0 {n = length text - 1} (omega arith)))
  | inr some ↦ omega arith
]

pub line_length_none : (text : List ℕ) → length text ≡ 0 → line_length text ≡ 0
line_length_none text none = line_length_bare text (λ e. omega (arith, last_some text e)) ∙ none

cut : (text : List ℕ) → last_of text ≡ newline → text ≡ take (length text - 1) text ++ (newline ∷ [])
cut text e =
    let some = last_some text e in
    let size : length text ≡ suc (length text - 1) = omega arith in
    sym (take-length text) ∙ ap (λ (n : ℕ). take n text) size ∙ take-suc text (length text - 1) 0 (omega arith)
    ∙ ap (λ (b : ℕ). take (length text - 1) text ++ (b ∷ [])) e

line_of_ended : (line : List ℕ) → line_of (line ++ (newline ∷ [])) ≡ line
line_of_ended line =
    let size : length line ≡ length (line ++ (newline ∷ [])) - 1 = omega (arith, length-append line (newline ∷ [])) in
    let last : last_of (line ++ (newline ∷ [])) ≡ newline = get_or_at line newline [] 0 _ size in
    ap (λ (n : ℕ). take n (line ++ (newline ∷ []))) (line_length_ended (line ++ (newline ∷ [])) last) ∙ take_at line (newline ∷ []) _ size

-- ---- a line has no newline at its end
other_breaks : (s : State) → next s other ≡ broken
other_breaks start = refl
other_breaks (one front a) = refl
other_breaks (two front a b) = refl
other_breaks (three front a b c) = refl
other_breaks (spaced front) = refl
other_breaks (listed front) = refl
other_breaks broken = refl

newline_breaks : (line : List ℕ) → run start (line ++ (newline ∷ [])) ≡ broken
unfolding run symbol_of
newline_breaks line = run_append start line (newline ∷ []) ∙ other_breaks (run start line)

line_last : {line numbers : List ℕ} → Line line numbers → last_of line ≢ newline
line_last {line} l e =
    subst Done (ap (run start) (cut line e) ∙ newline_breaks (take (length line - 1) line)) (line_read l).done

line_of_bare : (text : List ℕ) → last_of text ≢ newline → line_of text ≡ text
line_of_bare text h = ap (λ (n : ℕ). take n text) (line_length_bare text h) ∙ take-length text

-- ---- a text and its line
pub lists_line : {text numbers : List ℕ} → Lists text numbers → Line (line_of text) numbers
lists_line (bare {line} {numbers} l) = subst (λ (t : List ℕ). Line t numbers) (sym (line_of_bare line (line_last l))) l
lists_line (ended {line} {numbers} l) = subst (λ (t : List ℕ). Line t numbers) (sym (line_of_ended line)) l

pub line_lists : (text numbers : List ℕ) → Line (line_of text) numbers → Lists text numbers
line_lists text numbers l = elim (ℕ_discrete (last_of text) newline) [
  | yes e ↦
      subst (λ (t : List ℕ). Lists t numbers) (sym (cut text e))
      (ended (subst (λ (n : ℕ). Line (take n text) numbers) (line_length_ended text e) l))
  | no h ↦ bare (subst (λ (t : List ℕ). Line t numbers) (line_of_bare text h) l)
]
