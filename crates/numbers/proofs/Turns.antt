-- One byte of a line: what it leaves of the numbers, by where the reader stood.
use mathlib.Core.List.{List, [], ◌∷◌, ◌++◌}
use mathlib.Core.Path.{◌≡◌, refl, sym, ap, ◌∙◌}
use Prim.Native.Nat.{ℕ, ◌+◌, ◌*◌, ◌-◌, ◌≤◌, ◌<◌}
use native.Mathlib.Omega.{arith}
use lib.ListN.{length, length-append}
use Rattle.labeltext.specs.Symbol.{Symbol, digit, space, comma, other, Is}
use Rattle.labeltext.specs.Reader.{State, start, one, two, three, spaced, listed, broken, next, numbers_of}
use Rattle.numbers.specs.Places.{place_of, place_after, begins_at}

-- ---- a reader's numbers: those that have ended, and the digits of the one that it is in
abbrev pub front_of : State → List ℕ
front_of start = []
front_of (one front a) = front
front_of (two front a b) = front
front_of (three front a b c) = front
front_of (spaced front) = front
front_of (listed front) = front
front_of broken = []

abbrev pub word_of : State → List ℕ
word_of start = []
word_of (one front a) = a ∷ []
word_of (two front a b) = a ∷ b ∷ []
word_of (three front a b c) = a ∷ b ∷ c ∷ []
word_of (spaced front) = []
word_of (listed front) = []
word_of broken = []

-- a reader that the form has not broken for, with digits below 10
abbrev pub Fine : State → Type 0
Fine start = Unit
Fine (one front a) = a < 10
Fine (two front a b) = (a < 10) × (b < 10)
Fine (three front a b c) = (a < 10) × (b < 10) × (c < 10)
Fine (spaced front) = Unit
Fine (listed front) = Unit
Fine broken = ⊥

-- ---- places
pub row_next : (s : State) (y : Symbol) → place_after (place_of s) y ≡ place_of (next s y)
row_next start (digit d) = refl
row_next start space = refl
row_next start comma = refl
row_next start other = refl
row_next (one front a) (digit d) = refl
row_next (one front a) space = refl
row_next (one front a) comma = refl
row_next (one front a) other = refl
row_next (two front a b) (digit d) = refl
row_next (two front a b) space = refl
row_next (two front a b) comma = refl
row_next (two front a b) other = refl
row_next (three front a b c) (digit d) = refl
row_next (three front a b c) space = refl
row_next (three front a b c) comma = refl
row_next (three front a b c) other = refl
row_next (spaced front) (digit d) = refl
row_next (spaced front) space = refl
row_next (spaced front) comma = refl
row_next (spaced front) other = refl
row_next (listed front) (digit d) = refl
row_next (listed front) space = refl
row_next (listed front) comma = refl
row_next (listed front) other = refl
row_next broken (digit d) = refl
row_next broken space = refl
row_next broken comma = refl
row_next broken other = refl

pub place_small : (s : State) → place_of s ≤ 48
place_small start = omega arith
place_small (one front a) = omega arith
place_small (two front a b) = omega arith
place_small (three front a b c) = omega arith
place_small (spaced front) = omega arith
place_small (listed front) = omega arith
place_small broken = omega arith

-- ---- a byte
-- the first digit of a number
pub record First (s : State) (b : ℕ) (t : State) : Type 0 where
  pub digit : b ≡ 48 + (b - 48)
  pub word : word_of t ≡ (b - 48) ∷ []
  pub front : front_of t ≡ front_of s
  pub all : length (numbers_of s) ≡ length (front_of s)
  pub one_more : length (numbers_of t) ≡ length (numbers_of s) + 1
  pub begins : begins_at (place_of t) ≡ 1
  pub fine : Fine t

-- one digit more
pub record More (s : State) (b : ℕ) (t : State) : Type 0 where
  pub digit : b ≡ 48 + (b - 48)
  pub some : 1 ≤ length (word_of s)
  pub word : word_of t ≡ word_of s ++ ((b - 48) ∷ [])
  pub front : front_of t ≡ front_of s
  pub all : length (numbers_of s) ≡ length (front_of s) + 1
  pub same : length (numbers_of t) ≡ length (numbers_of s)
  pub none : begins_at (place_of t) ≡ 0
  pub fine : Fine t

-- no digit: the number has ended, if there was one
pub record Past (s : State) (b : ℕ) (t : State) : Type 0 where
  pub low : b ≤ 47
  pub word : word_of t ≡ []
  pub front : front_of t ≡ numbers_of s
  pub numbers : numbers_of t ≡ numbers_of s
  pub none : begins_at (place_of t) ≡ 0
  pub fine : Fine t

pub data Turn (s : State) (b : ℕ) (t : State) : Type 0 where
  begins : First s b t → Turn s b t
  grows : More s b t → Turn s b t
  passes : Past s b t → Turn s b t
  breaks : t ≡ broken → Turn s b t

begin : (b : ℕ) {d : ℕ} → d < 10 → b ≡ 48 + d → {s : State} (front : List ℕ) → front_of s ≡ front → numbers_of s ≡ front
    → Turn s b (one front d)
begin b {d} small e {s} front f n =
    let value : d ≡ b - 48 = omega arith in
    begins (record {
      digit = omega arith;
      word = λ i. value i ∷ [];
      front = sym f;
      all = ap length n ∙ sym (ap length f);
      one_more = length-append front (d ∷ []) ∙ ap (λ (l : List ℕ). length l + 1) (sym n);
      begins = refl;
      fine = small;
    })

pass : (b : ℕ) {s t : State} → b ≤ 47 → word_of t ≡ [] → front_of t ≡ numbers_of s → numbers_of t ≡ numbers_of s → begins_at (place_of t) ≡ 0 → Fine t
    → Turn s b t
pass b low w f n z g = passes (record { low = low; word = w; front = f; numbers = n; none = z; fine = g })

pub turn : (b : ℕ) (s : State) (y : Symbol) → Is b y → Fine s → Turn s b (next s y)
turn b start (digit d) (small, e) f = begin b small e [] refl refl
turn b start space e f = pass b (omega arith) refl refl refl refl tt
turn b start comma e f = breaks refl
turn b start other e f = breaks refl
turn b (one front a) (digit d) (small, e) f =
    let value : d ≡ b - 48 = omega arith in
    grows (record {
      digit = omega arith;
      some = omega arith;
      word = λ i. a ∷ value i ∷ [];
      front = refl;
      all = length-append front (a ∷ []);
      same = length-append front ((10 * a + d) ∷ []) ∙ sym (length-append front (a ∷ []));
      none = refl;
      fine = (f, small);
    })
turn b (one front a) space e f = pass b (omega arith) refl refl refl refl tt
turn b (one front a) comma e f = pass b (omega arith) refl refl refl refl tt
turn b (one front a) other e f = breaks refl
turn b (two front a c) (digit d) (small, e) f =
    let value : d ≡ b - 48 = omega arith in
    grows (record {
      digit = omega arith;
      some = omega arith;
      word = λ i. a ∷ c ∷ value i ∷ [];
      front = refl;
      all = length-append front ((10 * a + c) ∷ []);
      same = length-append front ((100 * a + 10 * c + d) ∷ []) ∙ sym (length-append front ((10 * a + c) ∷ []));
      none = refl;
      fine = (f.0, f.1, small);
    })
turn b (two front a c) space e f = pass b (omega arith) refl refl refl refl tt
turn b (two front a c) comma e f = pass b (omega arith) refl refl refl refl tt
turn b (two front a c) other e f = breaks refl
turn b (three front a c d) (digit x) e f = breaks refl
turn b (three front a c d) space e f = pass b (omega arith) refl refl refl refl tt
turn b (three front a c d) comma e f = pass b (omega arith) refl refl refl refl tt
turn b (three front a c d) other e f = breaks refl
turn b (spaced front) (digit d) (small, e) f = begin b small e front refl refl
turn b (spaced front) space e f = pass b (omega arith) refl refl refl refl tt
turn b (spaced front) comma e f = pass b (omega arith) refl refl refl refl tt
turn b (spaced front) other e f = breaks refl
turn b (listed front) (digit d) (small, e) f = begin b small e front refl refl
turn b (listed front) space e f = pass b (omega arith) refl refl refl refl tt
turn b (listed front) comma e f = breaks refl
turn b (listed front) other e f = breaks refl
turn b broken y e f = absurd f
