-- Reading a line byte by byte, from the front: where in the form a reader stands, with the numbers that are read so far.
use Rattle.std.specs.Prelude.{List, [], ◌∷◌, ◌++◌, ◌≡◌, refl, ℕ, ◌+◌, ◌*◌}
use Rattle.labeltext.specs.Symbol.{Symbol, digit, space, comma, other, symbol_of}

pub data State : Type 0 where
  -- no number yet
  start : State
  -- behind the numbers `front`, after one, two or three digits of the next one
  one : (front : List ℕ) (a : ℕ) → State
  two : (front : List ℕ) (a b : ℕ) → State
  three : (front : List ℕ) (a b c : ℕ) → State
  -- after a number and one or more spaces
  spaced : (front : List ℕ) → State
  -- after a number and a comma, with any spaces round it
  listed : (front : List ℕ) → State
  -- the form is broken
  broken : State

-- the numbers that are read
abbrev pub numbers_of : State → List ℕ
numbers_of start = []
numbers_of (one front a) = front ++ (a ∷ [])
numbers_of (two front a b) = front ++ ((10 * a + b) ∷ [])
numbers_of (three front a b c) = front ++ ((100 * a + 10 * b + c) ∷ [])
numbers_of (spaced front) = front
numbers_of (listed front) = front
numbers_of broken = []

-- after a number, with no digit of its own to come
abbrev pub past : (front : List ℕ) → Symbol → State
past front (digit d) = broken
past front space = spaced front
past front comma = listed front
past front other = broken

abbrev pub next : State → Symbol → State
next start (digit d) = one [] d
next start space = start
next start comma = broken
next start other = broken
next (one front a) (digit d) = two front a d
next (one front a) space = past (front ++ (a ∷ [])) space
next (one front a) comma = past (front ++ (a ∷ [])) comma
next (one front a) other = broken
next (two front a b) (digit d) = three front a b d
next (two front a b) space = past (front ++ ((10 * a + b) ∷ [])) space
next (two front a b) comma = past (front ++ ((10 * a + b) ∷ [])) comma
next (two front a b) other = broken
next (three front a b c) y = past (front ++ ((100 * a + 10 * b + c) ∷ [])) y
next (spaced front) (digit d) = one front d
next (spaced front) space = spaced front
next (spaced front) comma = listed front
next (spaced front) other = broken
next (listed front) (digit d) = one front d
next (listed front) space = listed front
next (listed front) comma = broken
next (listed front) other = broken
next broken y = broken

unfoldable pub run : State → List ℕ → State
unfolding symbol_of
run s [] = s
run s (b ∷ line) = run (next s (symbol_of b)) line

-- the line may end here
abbrev pub Done : State → Type 0
Done start = Unit
Done (one front a) = Unit
Done (two front a b) = Unit
Done (three front a b c) = Unit
Done (spaced front) = Unit
Done (listed front) = ⊥
Done broken = ⊥

unfoldable pub dec_done : (s : State) → Dec (Done s)
dec_done start = yes tt
dec_done (one front a) = yes tt
dec_done (two front a b) = yes tt
dec_done (three front a b c) = yes tt
dec_done (spaced front) = yes tt
dec_done (listed front) = no (λ h. h)
dec_done broken = no (λ h. h)

-- ---- laws of reading on
pub run_append : (s : State) (line more : List ℕ) → run s (line ++ more) ≡ run (run s line) more
unfolding run
run_append s [] more = refl
run_append s (b ∷ line) more = run_append (next s (symbol_of b)) line more

-- what is broken stays so
pub broken_run : (line : List ℕ) → ¬ Done (run broken line)
unfolding run
broken_run [] = λ d. d
broken_run (b ∷ line) = broken_run line
