-- How two groups stand to each other: "if every room of the first has that relation to every room of the second, direct or not". A room
-- goes by its position.
use Rattle.std.specs.Prelude.{List, ◌≡◌, ℕ}
use Rattle.finite.specs.Decide.{dec-→}
use Rattle.finite.specs.First.{dec_each}
use Rattle.drawing.specs.Side.{side_of}
use Rattle.drawing.specs.SideFacts.{dec_side}
use Rattle.drawing.specs.declared.Side.{Side}
use Rattle.groups.specs.Group.{dec_member, EachIn}

-- every room of the first stands on that side of every room of the second; f is the label at a position
abbrev pub AllStand : (f : ℕ → ℕ) (first second : List ℕ) → Side → Type 0
AllStand f first second side = EachIn first (λ i. EachIn second (λ j. side_of f i j ≡ side))

-- that is decided
unfoldable pub dec_each_in : (group : List ℕ) {P : ℕ → Type 0} → ((k : ℕ) → Dec (P k)) → Dec (EachIn group P)
unfolding dec_each dec-→ dec_member
dec_each_in group d = dec_each _ (λ k. dec-→ (dec_member group k) (d k)) 1 257

unfoldable pub dec_all_stand : (f : ℕ → ℕ) (first second : List ℕ) (side : Side) → Dec (AllStand f first second side)
unfolding dec_each_in dec_side side_of
dec_all_stand f first second side = dec_each_in first (λ i. dec_each_in second (λ j. dec_side (side_of f i j) side))
