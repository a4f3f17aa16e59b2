-- Where the numbers of a line begin, and the list of bytes that is read of them.
use Rattle.std.specs.Prelude.{Result, Ok, Err, List, ◌≡◌, ℕ, ◌+◌, ◌≤◌, ◌<◌, length, get_or}
use Rattle.record.specs.declared.Refusal.{Refusal}
use Rattle.record.specs.declared.Refusal.TheVariants.{Count, TextForm}
use Rattle.labeltext.specs.Reader.{start, run, Done, numbers_of}
use Rattle.numbers.specs.Number.{number_at, as_byte}

-- the starts are places of the line
pub record Starts (line starts : List ℕ) : Type 0 where
  pub short : length line ≤ 4096
  pub few : length starts ≤ 255
  pub within : (k : ℕ) → k < length starts → get_or starts k 0 < length line

-- three lists have the three bytes from each start on, 0 behind the line's end
pub record Gathered (line starts first second third : List ℕ) : Type 0 where
  pub firsts : (k : ℕ) → k < length starts → get_or first k 0 ≡ get_or line (get_or starts k 0) 0
  pub seconds : (k : ℕ) → k < length starts → get_or second k 0 ≡ get_or line (get_or starts k 0 + 1) 0
  pub thirds : (k : ℕ) → k < length starts → get_or third k 0 ≡ get_or line (get_or starts k 0 + 2) 0

-- a list has the number at each start
pub record Labelled (line starts list : List ℕ) : Type 0 where
  pub long : length list ≡ 256
  pub labels : (k : ℕ) → k < length starts → get_or list k 0 ≡ as_byte (number_at line (get_or starts k 0))

-- a list has these numbers, each as a byte
pub record Stores (numbers list : List ℕ) : Type 0 where
  pub long : length list ≡ 256
  pub kept : (k : ℕ) → k < length numbers → get_or list k 0 ≡ as_byte (get_or numbers k 0)

-- a line that was read to its end, with so many numbers, which are at most 255 and in the list
pub record ListedAs (count : ℕ) (line list : List ℕ) : Type 0 where
  pub done : Done (run start line)
  pub count_is : count ≡ length (numbers_of (run start line))
  pub few : count ≤ 255
  pub stores : Stores (numbers_of (run start line)) list

-- why a line is refused: it breaks the form, or else it lists more than 255 numbers
pub data Refuses (line : List ℕ) : Refusal → Type 0 where
  broken : ¬ Done (run start line) → Refuses line TextForm
  many : Done (run start line) → 255 < length (numbers_of (run start line)) → Refuses line Count

-- what was answered for a line
abbrev pub ReadAs : Result ℕ Refusal → (line list : List ℕ) → Type 0
ReadAs (Ok count) line list = ListedAs count line list
ReadAs (Err refusal) line list = Refuses line refusal
