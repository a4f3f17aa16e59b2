-- What reading a record answers and leaves: the first refusal of "9, 10, 11, 14, 12, 13" whose cause the record has, else how many
-- labels it gives, and what is noted of each.
use Rattle.std.specs.Prelude.{List, ◌≡◌, ℕ, ◌≤◌, ◌<◌, Result, Ok, Err}
use Rattle.record.specs.Triple.{Triple}
use Rattle.record.specs.Way.{up, down}
use Rattle.record.specs.Record.{triple_in}
use Rattle.record.specs.Read.{kind_of, body_of}
use Rattle.record.specs.Checked.{checked, Readable}
use Rattle.record.specs.declared.Refusal.{Refusal}
use Rattle.steps.specs.Passes.{Unpacked, Lowers, Starts}
use Rattle.steps.specs.declared.Notes.{Notes}
use Rattle.backward.specs.Written.{Written}

abbrev pub reading_of : List ℕ → Result ℕ Refusal
reading_of bytes = checked Err bytes (Ok (kind_of bytes))

-- the triples of a record
abbrev pub triples_of : List ℕ → ℕ → Triple
triples_of bytes = triple_in (body_of bytes)

-- a record of n labels that is not refused, with what the pass back needs of each label
pub record Ready (bytes : List ℕ) (n : ℕ) (notes : Notes) : Type 0 where
  pub kind : n ≡ kind_of bytes
  pub some : 1 ≤ n
  pub few : n ≤ 255
  pub readable : Readable bytes
  pub unpacked : Unpacked (triples_of bytes) n notes.triples
  pub lowers : Lowers (triples_of bytes) n notes.lower

abbrev pub Reads : Result ℕ Refusal → (bytes : List ℕ) → Notes → (left bottom : List ℕ) → Type 0
Reads (Ok n) bytes notes left bottom =
    Ready bytes n notes × Starts down (triples_of bytes) n left × Starts up (triples_of bytes) n bottom
Reads (Err refusal) bytes notes left bottom = Unit

-- three slices are left as they were
abbrev pub Left : (labels₀ right₀ top₀ labels right top : List ℕ) → Type 0
Left labels₀ right₀ top₀ labels right top = (labels ≡ labels₀) × (right ≡ right₀) × (top ≡ top₀)

-- what is left of the record by a call that has so many places for its labels, rights and tops, and asks for them from an earliest
-- index on
pub record Given (bytes : List ℕ) (n earliest places : ℕ) (left bottom labels₀ right₀ top₀ labels right top : List ℕ) : Type 0 where
  pub kind : n ≡ kind_of bytes
  pub some : 1 ≤ n
  pub few : n ≤ 255
  pub readable : Readable bytes
  pub lefts : Starts down (triples_of bytes) n left
  pub bottoms : Starts up (triples_of bytes) n bottom
  pub long : n ≤ places → earliest < n → Written (triples_of bytes) n earliest labels₀ right₀ top₀ labels right top
  pub short : places < n → Left labels₀ right₀ top₀ labels right top

abbrev pub Leaves : Result ℕ Refusal → (bytes : List ℕ) (earliest places : ℕ)
    → (left bottom labels₀ right₀ top₀ labels right top : List ℕ) → Type 0
Leaves (Ok n) bytes earliest places left bottom labels₀ right₀ top₀ labels right top =
    Given bytes n earliest places left bottom labels₀ right₀ top₀ labels right top
Leaves (Err refusal) bytes earliest places left bottom labels₀ right₀ top₀ labels right top =
    Left labels₀ right₀ top₀ labels right top
