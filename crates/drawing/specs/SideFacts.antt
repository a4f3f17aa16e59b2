-- Sides: the converse of the converse, and whether two sides are the same, which is decided by their numbers.
use Rattle.std.specs.Prelude.{◌≡◌, refl, ℕ, zero, suc}
use Rattle.std.proofs.Common.{sym, ap, ◌∙◌}
use Rattle.std.proofs.Math.Decide.{ℕ_discrete}
use Rattle.finite.specs.Decide.{dec_iff}
use Rattle.drawing.specs.declared.Side.{Side}
use Rattle.drawing.specs.declared.Side.TheVariants.{Left, Right, Above, Below}
use Rattle.drawing.specs.Side.{converse}

pub converse_back : (side : Side) → converse (converse side) ≡ side
converse_back Left = refl
converse_back Right = refl
converse_back Above = refl
converse_back Below = refl

-- ---- deciding whether two sides are the same
abbrev pub number : Side → ℕ
number Left = 0
number Right = 1
number Above = 2
number Below = 3

abbrev pub numbered : ℕ → Side
numbered zero = Left
numbered (suc zero) = Right
numbered (suc (suc zero)) = Above
numbered (suc (suc (suc n))) = Below

pub numbered_back : (side : Side) → numbered (number side) ≡ side
numbered_back Left = refl
numbered_back Right = refl
numbered_back Above = refl
numbered_back Below = refl

unfoldable pub dec_side : (one other : Side) → Dec (one ≡ other)
unfolding dec_iff ℕ_discrete
dec_side one other =
    dec_iff (λ e. sym (numbered_back one) ∙ ap numbered e ∙ numbered_back other) (ap number) (ℕ_discrete (number one) (number other))
