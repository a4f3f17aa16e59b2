-- A line that is read to its end keeps the form, and lists the numbers read. What is left of a line is taken apart by where the
-- reader stands (`Shape`).
use Rattle.std.specs.Prelude.{List, [], ◌∷◌, ◌++◌, ◌≡◌, refl, ℕ, zero, suc, ◌<◌}
use Rattle.std.proofs.Common.{append-nil, append_assoc, ap, subst, sym, ◌∙◌}
use Rattle.digits.specs.Decimal as byte
use Rattle.labeltext.specs.Form as form
use Rattle.labeltext.specs.Form.{spaces, Number, Between, some_spaces, one_comma, After, Line}
use Rattle.labeltext.specs.Symbol.{Symbol, digit, space, comma, other, Is, symbol_of, symbol_is}
use Rattle.labeltext.specs.Reader.{State, start, one, two, three, spaced, listed, broken, next, run, Done, numbers_of}

-- what is left stands after a number, and lists what follows `front` in the numbers
record Gap (front line numbers : List ℕ) : Type 0 where
  others : List ℕ
  after : After line others
  all : numbers ≡ front ++ others

-- what is left goes on with the digits of a number that began with `word`
record Word (front word line numbers : List ℕ) : Type 0 where
  more : List ℕ
  rest : List ℕ
  number : ℕ
  others : List ℕ
  split : line ≡ more ++ rest
  says : Number (word ++ more) number
  after : After rest others
  all : numbers ≡ front ++ (number ∷ others)

-- what is left where a reader stands; the spaces and the comma that stand before it go with it
abbrev Shape : State → (line numbers : List ℕ) → Type 0
Shape start line numbers = (k : ℕ) → Line (spaces k ++ line) numbers
Shape (one front a) line numbers = a < 10 → Word front (byte.digit a ∷ []) line numbers
Shape (two front a b) line numbers = a < 10 → b < 10 → Word front (byte.digit a ∷ byte.digit b ∷ []) line numbers
Shape (three front a b c) line numbers =
    a < 10 → b < 10 → c < 10 → Word front (byte.digit a ∷ byte.digit b ∷ byte.digit c ∷ []) line numbers
Shape (spaced front) line numbers = (k : ℕ) → Gap front (spaces (suc k) ++ line) numbers
Shape (listed front) line numbers = (k l : ℕ) → Gap front (spaces k ++ (form.comma ∷ (spaces l ++ line))) numbers
Shape broken line numbers = ⊥

-- one space more
spaces_more : (k : ℕ) (line : List ℕ) → spaces k ++ (byte.space ∷ line) ≡ spaces (suc k) ++ line
spaces_more zero line = refl
spaces_more (suc k) line = ap (λ (l : List ℕ). byte.space ∷ l) (spaces_more k line)

-- a number has ended
closed : {front word line numbers : List ℕ} {number : ℕ} → Number word number → Gap (front ++ (number ∷ [])) line numbers
    → Word front word line numbers
closed {front} {word} {line} {numbers} {number} says g = record {
  more = [];
  rest = line;
  number = number;
  others = g.others;
  split = refl;
  says = subst (λ (w : List ℕ). Number w number) (sym (append-nil word)) says;
  after = g.after;
  all = g.all ∙ append_assoc front (number ∷ []) g.others;
}

-- the next digit of a number
longer : {front word line numbers : List ℕ} (d : ℕ) → Word front (word ++ (byte.digit d ∷ [])) line numbers
    → Word front word (byte.digit d ∷ line) numbers
longer {front} {word} {line} {numbers} d w = record {
  more = byte.digit d ∷ w.more;
  rest = w.rest;
  number = w.number;
  others = w.others;
  split = ap (λ (l : List ℕ). byte.digit d ∷ l) w.split;
  says = subst (λ (l : List ℕ). Number l w.number) (append_assoc word (byte.digit d ∷ []) w.more) w.says;
  after = w.after;
  all = w.all;
}

-- a number that begins after `between`
begins : {front line numbers between : List ℕ} (d : ℕ) → Between between → Word front (byte.digit d ∷ []) line numbers
    → Gap front (between ++ (byte.digit d ∷ line)) numbers
begins {front} {line} {numbers} {between} d b w = record {
  others = w.number ∷ w.others;
  after =
      subst (λ (l : List ℕ). After (between ++ (byte.digit d ∷ l)) (w.number ∷ w.others)) (sym w.split)
      (form.next b w.says w.after);
  all = w.all;
}

-- ---- at the end of the line
gap_end : (front : List ℕ) (k : ℕ) → Gap front (spaces k) front
gap_end front k = record { others = []; after = form.last k; all = sym (append-nil front) }

at_end : (s : State) → Done s → Shape s [] (numbers_of s)
at_end start d = λ k. subst (λ (l : List ℕ). Line l []) (sym (append-nil (spaces k))) (form.none k)
at_end (one front a) d = λ ha. closed (form.one a ha) (gap_end _ 0)
at_end (two front a b) d = λ ha hb. closed (form.two a b ha hb) (gap_end _ 0)
at_end (three front a b c) d = λ ha hb hc. closed (form.three a b c ha hb hc) (gap_end _ 0)
at_end (spaced front) d = λ k. subst (λ (l : List ℕ). Gap front l front) (sym (append-nil (spaces (suc k)))) (gap_end front (suc k))
at_end (listed front) d = absurd d
at_end broken d = d

-- ---- one byte
module _ (b : ℕ) {line numbers : List ℕ} (front : List ℕ) where
  gap_space : b ≡ byte.space → Shape (spaced front) line numbers → Gap front (b ∷ line) numbers
  gap_space e h = subst (λ (x : ℕ). Gap front (x ∷ line) numbers) (sym e) (h 0)

  gap_comma : b ≡ form.comma → Shape (listed front) line numbers → Gap front (b ∷ line) numbers
  gap_comma e h = subst (λ (x : ℕ). Gap front (x ∷ line) numbers) (sym e) (h 0 0)

step : (b : ℕ) (s : State) (y : Symbol) → Is b y → (line numbers : List ℕ) → Shape (next s y) line numbers → Shape s (b ∷ line) numbers
step b start (digit d) (small, e) line numbers h = λ k.
    let w = h small in
    subst (λ (l : List ℕ). Line (spaces k ++ l) numbers) (λ i. sym e i ∷ sym w.split i)
    (subst (Line _) (sym w.all) (form.some k w.says w.after))
step b start space e line numbers h = λ k.
    subst (λ (l : List ℕ). Line l numbers) (sym (ap (λ (x : ℕ). spaces k ++ (x ∷ line)) e ∙ spaces_more k line)) (h (suc k))
step b start comma e line numbers h = λ k. absurd h
step b start other e line numbers h = λ k. absurd h
step b (one front a) (digit d) (small, e) line numbers h = λ ha.
    subst (λ (x : ℕ). Word front (byte.digit a ∷ []) (x ∷ line) numbers) (sym e) (longer d (h ha small))
step b (one front a) space e line numbers h = λ ha. closed (form.one a ha) (gap_space b _ e h)
step b (one front a) comma e line numbers h = λ ha. closed (form.one a ha) (gap_comma b _ e h)
step b (one front a) other e line numbers h = λ ha. absurd h
step b (two front a c) (digit d) (small, e) line numbers h = λ ha hc.
    subst (λ (x : ℕ). Word front (byte.digit a ∷ byte.digit c ∷ []) (x ∷ line) numbers) (sym e) (longer d (h ha hc small))
step b (two front a c) space e line numbers h = λ ha hc. closed (form.two a c ha hc) (gap_space b _ e h)
step b (two front a c) comma e line numbers h = λ ha hc. closed (form.two a c ha hc) (gap_comma b _ e h)
step b (two front a c) other e line numbers h = λ ha hc. absurd h
step b (three front a c d) (digit x) e line numbers h = λ ha hc hd. absurd h
step b (three front a c d) space e line numbers h = λ ha hc hd. closed (form.three a c d ha hc hd) (gap_space b _ e h)
step b (three front a c d) comma e line numbers h = λ ha hc hd. closed (form.three a c d ha hc hd) (gap_comma b _ e h)
step b (three front a c d) other e line numbers h = λ ha hc hd. absurd h
step b (spaced front) (digit d) (small, e) line numbers h = λ k.
    subst (λ (x : ℕ). Gap front (spaces (suc k) ++ (x ∷ line)) numbers) (sym e) (begins d (some_spaces k) (h small))
step b (spaced front) space e line numbers h = λ k.
    subst (λ (l : List ℕ). Gap front l numbers)
    (sym (ap (λ (x : ℕ). spaces (suc k) ++ (x ∷ line)) e ∙ spaces_more (suc k) line)) (h (suc k))
step b (spaced front) comma e line numbers h = λ k.
    subst (λ (x : ℕ). Gap front (spaces (suc k) ++ (x ∷ line)) numbers) (sym e) (h (suc k) 0)
step b (spaced front) other e line numbers h = λ k. absurd h
step b (listed front) (digit d) (small, e) line numbers h = λ k l.
    subst (λ (x : ℕ). Gap front (spaces k ++ (form.comma ∷ (spaces l ++ (x ∷ line)))) numbers) (sym e)
    (subst (λ (t : List ℕ). Gap front t numbers) (append_assoc (spaces k) (form.comma ∷ spaces l) (byte.digit d ∷ line))
    (begins d (one_comma k l) (h small)))
step b (listed front) space e line numbers h = λ k l.
    subst (λ (t : List ℕ). Gap front (spaces k ++ (form.comma ∷ t)) numbers)
    (sym (ap (λ (x : ℕ). spaces l ++ (x ∷ line)) e ∙ spaces_more l line)) (h k (suc l))
step b (listed front) comma e line numbers h = λ k l. absurd h
step b (listed front) other e line numbers h = λ k l. absurd h
step b broken y e line numbers h = h

shape : (line : List ℕ) (s : State) → Done (run s line) → Shape s line (numbers_of (run s line))
unfolding run
shape [] s d = at_end s d
shape (b ∷ line) s d =
    step b s (symbol_of b) (symbol_is b) line (numbers_of (run (next s (symbol_of b)) line)) (shape line (next s (symbol_of b)) d)

pub read_line : (line : List ℕ) → Done (run start line) → Line line (numbers_of (run start line))
read_line line d = shape line start d 0
