-- The places of a reader as numbers, and the rows of the places that follow them.
use Rattle.std.specs.Prelude.{Result, Ok, Err, List, ◌≡◌, ◌≢◌, ◌⊎◌, ℕ, ◌/◌, ◌%◌, ◌^◌, ◌<◌, ltb, length, get_or}
use Rattle.bits.specs.Bit.{bit}
use Rattle.record.specs.declared.Refusal.{Refusal}
use Rattle.record.specs.declared.Refusal.TheVariants.{TextForm}
use Rattle.labeltext.specs.Symbol.{Symbol, digit, space, comma, other, symbol_of}
use Rattle.labeltext.specs.Reader.{State, start, one, two, three, spaced, listed, broken, run}

abbrev pub place_of : State → ℕ
place_of broken = 0
place_of (one front a) = 8
place_of (two front a b) = 16
place_of (three front a b c) = 24
place_of start = 32
place_of (spaced front) = 40
place_of (listed front) = 48

-- the row of a symbol, eight bits for each place
abbrev pub row_of : Symbol → ℕ
row_of (digit d) = 0x0008080800181000
row_of space = 0x0030282028282800
row_of comma = 0x0000300030303000
row_of other = 0

abbrev pub place_after : (place : ℕ) → Symbol → ℕ
place_after place y = (row_of y / 2 ^ place) % 64

-- the rows of all bytes
pub record Rows (rows : List ℕ) : Type 0 where
  pub long : length rows ≡ 256
  pub row : (b : ℕ) → b < 256 → get_or rows b 0 ≡ row_of (symbol_of b)

-- 1 where a number begins with the byte that leads to this place, or the form is broken; else 0
abbrev pub begins_at : (place : ℕ) → ℕ
begins_at place = bit (ltb place 16)

-- a reader stands at this place
pub record Standing (place : ℕ) : Type 0 where
  pub state : State
  pub is : place ≡ place_of state

-- each reader that stands at the place `before` comes through the bytes to the place `after`
abbrev pub Reached : (before : ℕ) (bytes : List ℕ) (after : ℕ) → Type 0
Reached before bytes after = (s : State) → before ≡ place_of s → after ≡ place_of (run s bytes)

-- a line may end at this place; or there it breaks the form
abbrev pub MayEnd : Result (Unit {0}) Refusal → (place : ℕ) → Type 0
MayEnd (Ok done) place = (place ≢ 0) × (place ≢ 48)
MayEnd (Err refusal) place = (refusal ≡ TextForm) × ((place ≡ 0) ⊎ (place ≡ 48))
