-- What is refused of a record, with lists of sizes and with so many corners each way, and what is told where nothing is.
use Rattle.std.specs.Prelude.{List, ◌⊎◌, ◌≡◌, ℕ, ◌≤◌, Result, Ok, Err}
use Rattle.record.specs.Read.{kind_of}
use Rattle.record.specs.declared.Refusal.{Refusal}
use Rattle.sizes.specs.Lists.{EachWay}
use Rattle.sizes.specs.Sized.{OtherLength, lengths_of, Sized, Unsized}

abbrev pub OtherLengths : (n : ℕ) (sizes corners : EachWay ℕ) → Type 0
OtherLengths n sizes corners = OtherLength n sizes ⊎ OtherLength n corners

pub record Admitted (bytes : List ℕ) (n : ℕ) (sizes : EachWay (List ℕ)) (corners : EachWay ℕ) : Type 0 where
  pub kind : n ≡ kind_of bytes
  pub few : n ≤ 255
  pub sized : Sized bytes (OtherLengths (kind_of bytes) (lengths_of sizes) corners) sizes

abbrev pub Admits : Result ℕ Refusal → (bytes : List ℕ) (sizes : EachWay (List ℕ)) (corners : EachWay ℕ) → Type 0
Admits (Ok n) bytes sizes corners = Admitted bytes n sizes corners
Admits (Err refusal) bytes sizes corners = Unsized bytes (OtherLengths (kind_of bytes) (lengths_of sizes) corners) sizes refusal
