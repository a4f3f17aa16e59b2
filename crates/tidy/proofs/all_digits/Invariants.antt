-- `tidy::all_digits` meets its contract: before each turn the digits of the first k labels stand in the three arrays.
use mathlib.Core.List.{List}
use Prim.Native.Nat.{ℕ}
use lib.ListN.{get_or}
use Rattle.finite.specs.Fill.{Filling}
use Rattle.tidy.specs.Digits.{hundred_of, ten_of, one_of}
use Rattle.tidy.proofs.all_digits.Given as goal

-- the first k places of an array hold a digit of their labels
abbrev pub Held : (digit : ℕ → ℕ) (labels : List ℕ) (k : ℕ) (before now : List ℕ) → Type 0
Held digit labels k before now = Filling (λ q. digit (get_or labels q 0)) 0 k before now

abbrev pub invariant-loop-k : goal.invariant-loop-k
invariant-loop-k l =
    Held hundred_of l.labels l.k l.initial.digits.hundreds l.digits.hundreds
    × Held ten_of l.labels l.k l.initial.digits.tens l.digits.tens
    × Held one_of l.labels l.k l.initial.digits.ones l.digits.ones
