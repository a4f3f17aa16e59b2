-- A form is filled into a store from the front: what is put so far, and then the rest of the form with the numbers that are left.
use Rattle.std.specs.Prelude.{List, [], ◌∷◌, ◌++◌, ◌≢◌, ◌≡◌, refl, ℕ, ◌+◌, ◌*◌, ◌-◌, ◌≤◌, ◌<◌, length, get_or, drop}
use Rattle.std.proofs.Common.{append-nil, append_assoc, sym, ap, ◌∙◌, arith, add-one, drop-cons}
use Rattle.std.proofs.Math.Seq.{drop-length}
use Rattle.digits.specs.Decimal.{decimal}
use Rattle.digits.specs.Digits.{decimal_short}
use Rattle.text.specs.Form.{mark, filled}
use Rattle.text.specs.Filled.{at_mark, at_byte, no_number, no_form}
use Rattle.finite.specs.Put.{Put, put_none, put_more, put_as}

-- ---- where the loop's test is reached: the form up to i is put, and the first k numbers are
pub record FillingStore (before : List ℕ) (start : ℕ) (form numbers text : List ℕ) (at i k : ℕ) : Type 0 where
  pub done : List ℕ
  pub put : Put before start done text at
  pub rest : done ++ filled (drop i form) (drop k numbers) ≡ filled form numbers
  pub form_left : i ≤ length form
  pub numbers_left : k ≤ length numbers
  pub short : at + (length form - i) + 4 * (length numbers - k) ≤ start + length form + 4 * length numbers

-- before the first turn
pub none_filled : (before : List ℕ) (start : ℕ) (form numbers : List ℕ) → FillingStore before start form numbers before start 0 0
none_filled before start form numbers = record {
  done = [];
  put = put_none before start;
  rest = refl;
  form_left = omega arith;
  numbers_left = omega arith;
  short = omega arith;
}

module _ {before : List ℕ} {start : ℕ} {form numbers text : List ℕ} {at i k : ℕ}
    (f : FillingStore before start form numbers text at i k) where
  -- what is put grows by a part, and what is left loses it
  grown : {after : List ℕ} {end i' k' : ℕ} (part : List ℕ) → Put text at part after end
      → filled (drop i form) (drop k numbers) ≡ part ++ filled (drop i' form) (drop k' numbers)
      → i' ≤ length form → k' ≤ length numbers
      → end + (length form - i') + 4 * (length numbers - k') ≤ at + (length form - i) + 4 * (length numbers - k)
      → FillingStore before start form numbers after end i' k'
  grown {i' = i'} {k' = k'} part p e hi hk short = record {
    done = f.done ++ part;
    put = put_more f.put p;
    rest =
        append_assoc f.done part (filled (drop i' form) (drop k' numbers)) ∙ ap (λ (l : List ℕ). f.done ++ l) (sym e) ∙ f.rest;
    form_left = hi;
    numbers_left = hk;
    short = omega arith;
  }

  -- a turn at a mark, while there are numbers
  pub number_filled : {after : List ℕ} {end : ℕ} → i < length form → k < length numbers → get_or numbers k 0 < 65536
      → get_or form i 0 ≡ mark → Put text at (decimal (get_or numbers k 0)) after end
      → FillingStore before start form numbers after end (i + 1) (k + 1)
  number_filled hi hk small is p =
      grown (decimal (get_or numbers k 0)) p
      (rw (drop-cons form i 0, drop-cons numbers k 0, add-one i, add-one k) (at_mark _ _ _ _ is))
      (omega arith) (omega arith) (omega (arith, p.next, decimal_short (get_or numbers k 0) small))

  -- a turn at any other byte
  pub byte_filled : {after : List ℕ} {end : ℕ} → i < length form → get_or form i 0 ≢ mark
      → Put text at (get_or form i 0 ∷ []) after end → FillingStore before start form numbers after end (i + 1) k
  byte_filled hi other p =
      grown (get_or form i 0 ∷ []) p
      (rw (drop-cons form i 0, add-one i) (at_byte _ _ _ other))
      (omega arith) f.numbers_left (omega (arith, p.next))

  -- a turn at a mark for which there is no number
  pub mark_kept : {after : List ℕ} {end : ℕ} → i < length form → k ≡ length numbers
      → Put text at (get_or form i 0 ∷ []) after end → FillingStore before start form numbers after end (i + 1) k
  mark_kept hi last p =
      let none : drop k numbers ≡ [] = ap (λ (j : ℕ). drop j numbers) last ∙ drop-length numbers in
      grown (get_or form i 0 ∷ []) p
      (rw (none, no_number (drop i form), no_number (drop (i + 1) form), drop-cons form i 0, add-one i))
      (omega arith) f.numbers_left (omega (arith, p.next))

  -- after the last turn
  pub all_filled : i ≡ length form → Put before start (filled form numbers) text at
  all_filled last =
      let none : drop i form ≡ [] = ap (λ (j : ℕ). drop j form) last ∙ drop-length form in
      put_as (sym (append-nil f.done) ∙ rw (none, no_form) at f.rest) f.put
