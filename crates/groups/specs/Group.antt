-- A group of rooms. "Take two groups, each an array of 32 bytes. Position k is bit (k − 1) mod 8, counted from the low end, of byte
-- (k − 1) divided by 8, rounded down."
use Rattle.std.specs.Prelude.{List, ◌⊎◌, ◌≡◌, ℕ, ◌-◌, ◌/◌, ◌%◌, ◌<◌, get_or}
use Rattle.std.proofs.Math.Decide.{dec_lt, ℕ_discrete}
use Rattle.finite.specs.BitTable.{digit}
use Rattle.finite.specs.Decide.{dec-×, dec-⊎, dec-¬}
use Rattle.finite.specs.Search.{Some, Each, dec_some}

-- position k is in the group; the digit that is worth 2 ^ i is bit i, counted from the low end
abbrev pub Member : (group : List ℕ) (k : ℕ) → Type 0
Member group k = digit (get_or group ((k - 1) / 8) 0) ((k - 1) % 8) ≡ 1

unfoldable pub dec_member : (group : List ℕ) (k : ℕ) → Dec (Member group k)
unfolding ℕ_discrete
dec_member group k = ℕ_discrete (digit (get_or group ((k - 1) / 8) 0) ((k - 1) % 8)) 1

-- each position of a group, and some position of it: 32 bytes have bits for the positions 1 to 256
abbrev pub EachIn : (group : List ℕ) (P : ℕ → Type 0) → Type 0
EachIn group P = Each (λ k. Member group k → P k) 1 257

abbrev pub SomeIn : (group : List ℕ) (P : ℕ → Type 0) → Type 0
SomeIn group P = Some (λ k. Member group k × P k) 1 257

unfoldable pub dec_some_in : (group : List ℕ) {P : ℕ → Type 0} → ((k : ℕ) → Dec (P k)) → Dec (SomeIn group P)
unfolding dec_some dec-× dec_member
dec_some_in group d = dec_some _ (λ k. dec-× (dec_member group k) (d k)) 1 257

-- ---- what is refused of two groups
-- "asked position outside 1 to n"
abbrev pub Outside : (n : ℕ) (first second : List ℕ) → Type 0
Outside n first second = SomeIn first (λ k. n < k) ⊎ SomeIn second (λ k. n < k)

unfoldable pub dec_outside : (n : ℕ) (first second : List ℕ) → Dec (Outside n first second)
unfolding dec-⊎ dec_some_in dec_lt
dec_outside n first second = dec-⊎ (dec_some_in first (dec_lt n)) (dec_some_in second (dec_lt n))

-- "an empty group"
abbrev pub Empty : (group : List ℕ) → Type 0
Empty group = ¬ Some (Member group) 1 257

abbrev pub SomeEmpty : (first second : List ℕ) → Type 0
SomeEmpty first second = Empty first ⊎ Empty second

unfoldable pub dec_some_empty : (first second : List ℕ) → Dec (SomeEmpty first second)
unfolding dec-⊎ dec-¬ dec_some dec_member
dec_some_empty first second =
    dec-⊎ (dec-¬ (dec_some _ (dec_member first) 1 257)) (dec-¬ (dec_some _ (dec_member second) 1 257))

-- "a position in both groups"
abbrev pub Common : (first second : List ℕ) → Type 0
Common first second = SomeIn first (Member second)

unfoldable pub dec_common : (first second : List ℕ) → Dec (Common first second)
unfolding dec_some_in dec_member
dec_common first second = dec_some_in first (dec_member second)

-- nothing of this is the case, for a plan of n rooms
pub record Fits (n : ℕ) (first second : List ℕ) : Type 0 where
  pub inside : ¬ Outside n first second
  pub filled : ¬ SomeEmpty first second
  pub apart : ¬ Common first second
