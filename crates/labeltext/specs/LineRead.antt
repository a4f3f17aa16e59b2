-- A line of the form is read to its end, and the numbers read are those that it lists.
use Rattle.std.specs.Prelude.{List, [], ◌∷◌, ◌++◌, ◌≡◌, refl}
use Rattle.std.proofs.Common.{append_assoc, sym, ◌∙◌}
use Rattle.std.proofs.Math.Path.{ap, subst}
use Prim.Native.Nat.{ℕ, zero, suc, ◌+◌, ◌*◌, ◌<◌}
use Rattle.digits.specs.Decimal as byte
use Rattle.labeltext.specs.Form as form
use Rattle.labeltext.specs.Form.{spaces, Number, Between, some_spaces, one_comma, After, Line}
use Rattle.labeltext.specs.Symbol.{Symbol, digit, space, comma, symbol_of, digit_symbol}
use Rattle.labeltext.specs.Reader.{State, start, one, two, three, spaced, listed, next, run, Done, numbers_of, run_append}

-- a reader where a number may begin
data Ready : (front : List ℕ) → State → Type 0 where
  at_start : Ready [] start
  at_space : {front : List ℕ} → Ready front (spaced front)
  at_comma : {front : List ℕ} → Ready front (listed front)

-- a reader that has come to the end of a number's digits
data Within (front : List ℕ) : (number : ℕ) → State → Type 0 where
  at_one : (a : ℕ) → Within front a (one front a)
  at_two : (a b : ℕ) → Within front (10 * a + b) (two front a b)
  at_three : (a b c : ℕ) → Within front (100 * a + 10 * b + c) (three front a b c)

-- ---- a number is read
run_digit : (s : State) (d : ℕ) → d < 10 → (line : List ℕ) → run s (byte.digit d ∷ line) ≡ run (next s (digit d)) line
unfolding run
run_digit s d small line = ap (λ (y : Symbol). run (next s y) line) (digit_symbol d small)

ready_digit : {front : List ℕ} {s : State} → Ready front s → (d : ℕ) → next s (digit d) ≡ one front d
ready_digit at_start d = refl
ready_digit at_space d = refl
ready_digit at_comma d = refl

module _ {front : List ℕ} {s : State} (r : Ready front s) where
  first_digit : (a : ℕ) → a < 10 → (line : List ℕ) → run s (byte.digit a ∷ line) ≡ run (one front a) line
  first_digit a h line = run_digit s a h line ∙ ap (λ (t : State). run t line) (ready_digit r a)

  run_number : {word : List ℕ} {number : ℕ} → Number word number → Within front number (run s word)
  unfolding run
  run_number (form.one a h) = subst (Within front a) (sym (first_digit a h [])) (at_one a)
  run_number (form.two a b h k) =
      subst (Within front (10 * a + b)) (sym (first_digit a h (byte.digit b ∷ []) ∙ run_digit (one front a) b k [])) (at_two a b)
  run_number (form.three a b c h k l) =
      subst (Within front (100 * a + 10 * b + c))
      (sym (first_digit a h (byte.digit b ∷ byte.digit c ∷ []) ∙ run_digit (one front a) b k (byte.digit c ∷ [])
      ∙ run_digit (two front a b) c l []))
      (at_three a b c)

-- ---- spaces are read
run_spaces : {front : List ℕ} {s : State} → Ready front s → (k : ℕ) → run s (spaces k) ≡ s
unfolding run symbol_of
run_spaces r zero = refl
run_spaces at_start (suc k) = run_spaces at_start k
run_spaces at_space (suc k) = run_spaces at_space k
run_spaces at_comma (suc k) = run_spaces at_comma k

-- ---- what stands after a number is read
after_number : {front : List ℕ} {number : ℕ} {s : State} → Within front number s
    → (next s space ≡ spaced (front ++ (number ∷ []))) × (next s comma ≡ listed (front ++ (number ∷ [])))
after_number (at_one a) = (refl, refl)
after_number (at_two a b) = (refl, refl)
after_number (at_three a b c) = (refl, refl)

module _ {front : List ℕ} {number : ℕ} {s : State} (w : Within front number s) where
  abbrev all : List ℕ
  all = front ++ (number ∷ [])

  some_spaces_run : (k : ℕ) → run s (spaces (suc k)) ≡ spaced all
  unfolding run symbol_of
  some_spaces_run k = ap (λ (t : State). run t (spaces k)) (after_number w).0 ∙ run_spaces at_space k

  -- a comma after any spaces, and spaces after it
  comma_run : (k l : ℕ) → run s (spaces k ++ (form.comma ∷ spaces l)) ≡ listed all
  unfolding run symbol_of
  comma_run zero l = ap (λ (t : State). run t (spaces l)) (after_number w).1 ∙ run_spaces at_comma l
  comma_run (suc k) l =
      run_append s (spaces (suc k)) (form.comma ∷ spaces l)
      ∙ ap (λ (t : State). run t (form.comma ∷ spaces l)) (some_spaces_run k) ∙ run_spaces at_comma l

  run_between : {between : List ℕ} → Between between → Ready all (run s between)
  run_between (some_spaces k) = subst (Ready all) (sym (some_spaces_run k)) at_space
  run_between (one_comma k l) = subst (Ready all) (sym (comma_run k l)) at_comma

-- a reader where the line may end, with these numbers
pub record Read (numbers : List ℕ) (s : State) : Type 0 where
  pub done : Done s
  pub numbers_are : numbers_of s ≡ numbers

within_read : {front : List ℕ} {number : ℕ} {s : State} → Within front number s → Read (front ++ (number ∷ [])) s
within_read (at_one a) = record { done = tt; numbers_are = refl }
within_read (at_two a b) = record { done = tt; numbers_are = refl }
within_read (at_three a b c) = record { done = tt; numbers_are = refl }

run_last : {front : List ℕ} {number : ℕ} {s : State} → Within front number s → (k : ℕ) → Read (front ++ (number ∷ [])) (run s (spaces k))
unfolding run
run_last w zero = within_read w
run_last w (suc k) = subst (Read _) (sym (some_spaces_run w k)) (record { done = tt; numbers_are = refl })

run_after : {front line numbers : List ℕ} {number : ℕ} {s : State} → Within front number s → After line numbers
    → Read (front ++ (number ∷ numbers)) (run s line)
run_after w (form.last k) = run_last w k
run_after {front} {number = number} {s} w (form.next {between} {word} {line} {numbers} {number = other} b n a) =
    subst (λ (l : List ℕ). Read l (run s (between ++ (word ++ line)))) (append_assoc front (number ∷ []) (other ∷ numbers))
    (subst (Read _) (sym (run_append s between _ ∙ run_append (run s between) word line))
    (run_after {front = front ++ (number ∷ [])} (run_number (run_between w b) n) a))

pub line_read : {line numbers : List ℕ} → Line line numbers → Read numbers (run start line)
line_read (form.none k) = subst (Read []) (sym (run_spaces at_start k)) (record { done = tt; numbers_are = refl })
line_read (form.some {word} {line} k n a) =
    subst (Read _) (sym (run_append start (spaces k) _ ∙ ap (λ (t : State). run t (word ++ line)) (run_spaces at_start k)
    ∙ run_append start word line))
    (run_after (run_number at_start n) a)
