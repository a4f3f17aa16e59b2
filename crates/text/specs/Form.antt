-- Forms: bytes in which each `%` stands for a number.
use Rattle.std.specs.Prelude.{List, [], ◌∷◌, ◌++◌, ℕ}
use Rattle.std.proofs.Math.Logic.{ite}
use Rattle.std.proofs.Math.Decide.{ℕ_discrete}
use Rattle.digits.specs.Decimal.{decimal}

-- `%`
abbrev pub mark : ℕ
mark = 37

-- a form with the next number in the place of each mark, as long as there are numbers
unfoldable pub filled : (form numbers : List ℕ) → List ℕ
unfolding ℕ_discrete
filled form [] = form
filled [] (number ∷ numbers) = []
filled (byte ∷ form) (number ∷ numbers) =
    ite (ℕ_discrete byte mark) (decimal number ++ filled form numbers) (byte ∷ filled form (number ∷ numbers))
