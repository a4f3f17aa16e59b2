-- A form is filled from the front: a byte, or a number in the place of a mark, and then the rest.
use Rattle.std.specs.Prelude.{List, [], ◌∷◌, ◌++◌, ◌≢◌, ◌≡◌, refl, ℕ, suc, ◌+◌, ◌*◌, ◌-◌, ◌≤◌, ◌<◌, length, get_or, drop, take}
use Rattle.std.proofs.Common.{append-nil, append_assoc, sym, ap, subst, ◌∙◌, arith, add-one, drop-cons, length-append, length-drop}
use Rattle.std.proofs.Math.Logic.{if_pos, if_neg}
use Rattle.std.proofs.Math.Decide.{ℕ_discrete}
use Rattle.std.proofs.Math.Seq.{drop-length, take-length}
use Rattle.digits.specs.Decimal.{decimal}
use Rattle.digits.specs.Digits.{decimal_short}
use Rattle.text.specs.Form.{mark, filled}

-- ---- the first byte of a form
pub at_mark : (byte number : ℕ) (form numbers : List ℕ) → byte ≡ mark
    → filled (byte ∷ form) (number ∷ numbers) ≡ decimal number ++ filled form numbers
unfolding filled
at_mark byte number form numbers h = if_pos (ℕ_discrete byte mark) h _ _

pub at_byte : (byte : ℕ) (form numbers : List ℕ) → byte ≢ mark → filled (byte ∷ form) numbers ≡ byte ∷ filled form numbers
unfolding filled
at_byte byte form [] h = refl
at_byte byte form (number ∷ numbers) h = if_neg (ℕ_discrete byte mark) h _ _

pub no_number : (form : List ℕ) → filled form [] ≡ form
unfolding filled
no_number [] = refl
no_number (byte ∷ form) = refl

pub no_form : (numbers : List ℕ) → filled [] numbers ≡ []
unfolding filled
no_form [] = refl
no_form (number ∷ numbers) = refl

-- ---- where a turn begins: the form up to i is put, and of the numbers these are left
pub record Filling (before form numbers text left : List ℕ) (i : ℕ) : Type 0 where
  pub put : text ++ filled (drop i form) left ≡ before ++ filled form numbers
  pub short : length text + (length form - i) + 4 * length left ≤ length before + length form + 4 * length numbers

module _ {before form numbers text left : List ℕ} {i : ℕ} (f : Filling before form numbers text left i) (inside : i < length form) where
  -- what is put grows by a part, and what is left loses it
  grown : {after : List ℕ} (rest part : List ℕ)
      → filled (get_or form i 0 ∷ drop (suc i) form) left ≡ part ++ filled (drop (suc i) form) rest
      → length part + 4 * length rest ≤ 1 + 4 * length left → after ≡ text ++ part
      → Filling before form numbers after rest (i + 1)
  grown rest part e h is = record {
    put =
        rw (is, add-one i) (append_assoc text part (filled (drop (suc i) form) rest) ∙ ap (λ (l : List ℕ). text ++ l) (sym e)
        ∙ rw (drop-cons form i 0) at f.put);
    short = omega (arith, ap length is, length-append text part, f.short);
  }

  -- a turn at a mark, while there are numbers
  pub number_put : {after rest : List ℕ} {number : ℕ} → 0 < length left → get_or form i 0 ≡ mark → number ≡ get_or left 0 0 → number < 65536
      → rest ≡ take (length left - 1) (drop 1 left) → after ≡ text ++ decimal number → Filling before form numbers after rest (i + 1)
  number_put {rest = rest} {number = number} some marks first small others is =
      let whole : take (length left - 1) (drop 1 left) ≡ drop 1 left =
      ap (λ (k : ℕ). take k (drop 1 left)) (sym (length-drop 1 left)) ∙ take-length (drop 1 left) in
      let tail : rest ≡ drop 1 left = others ∙ whole in
      let short = decimal_short number small in
      grown rest (decimal number) (one left some first tail) (omega (arith, ap length tail, length-drop 1 left)) is
    where
      one : (l : List ℕ) → 0 < length l → number ≡ get_or l 0 0 → rest ≡ drop 1 l
          → filled (get_or form i 0 ∷ drop (suc i) form) l ≡ decimal number ++ filled (drop (suc i) form) rest
      one [] h e r = absurd (omega arith)
      one (other ∷ l) h e r = at_mark _ _ _ _ marks ∙ λ t. decimal (sym e t) ++ filled (drop (suc i) form) (sym r t)

  -- a turn at any other byte
  pub byte_put : {after rest : List ℕ} → get_or form i 0 ≢ mark → rest ≡ left → after ≡ text ++ get_or form i 0 ∷ []
      → Filling before form numbers after rest (i + 1)
  byte_put {after} {rest} other same is =
      subst (λ (l : List ℕ). Filling before form numbers after l (i + 1)) (sym same)
      (grown left (get_or form i 0 ∷ []) (at_byte _ _ _ other) (omega arith) is)

  -- a turn after the last number
  pub rest_put : {after rest : List ℕ} → length left < 1 → rest ≡ left → after ≡ text ++ get_or form i 0 ∷ []
      → Filling before form numbers after rest (i + 1)
  rest_put {after} {rest} none same is =
      subst (λ (l : List ℕ). Filling before form numbers after l (i + 1)) (sym same)
      (grown left (get_or form i 0 ∷ []) (one left none) (omega arith) is)
    where
      one : (l : List ℕ) → length l < 1 → filled (get_or form i 0 ∷ drop (suc i) form) l ≡ get_or form i 0 ∷ filled (drop (suc i) form) l
      one [] h = no_number _ ∙ ap (λ (l : List ℕ). get_or form i 0 ∷ l) (sym (no_number _))
      one (number ∷ l) h = absurd (omega arith)

-- after the last turn
pub all_put : {before form numbers text left : List ℕ} {i : ℕ} → Filling before form numbers text left i → i ≡ length form
    → text ≡ before ++ filled form numbers
all_put {form = form} {text = text} {left = left} {i = i} f last =
    let none : drop i form ≡ [] = ap (λ (j : ℕ). drop j form) last ∙ drop-length form in
    sym (append-nil text) ∙ ap (λ (l : List ℕ). text ++ l) (sym (no_form left)) ∙ rw none at f.put
