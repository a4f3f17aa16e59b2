-- Of two groups that are not empty, at most one side is that on which all rooms of the first stand of all rooms of the second; so an answer
-- that says what holds is the answer. With the groups exchanged it is the opposite side.
use Rattle.std.specs.Prelude.{List, ◌≢◌, ◌≡◌, refl, ℕ, ◌≤◌, ◌<◌, Some, None, Ok, Err}
use Rattle.std.proofs.Common.{inl, inr, sym, ap, subst, ◌∙◌}
use Rattle.std.proofs.Math.Logic.{⊎_swap, ite}
use Rattle.finite.specs.Decide.{le_or_lt, stable}
use Rattle.finite.specs.Search.{Some as SomeBetween, dec_some}
use Rattle.drawing.specs.Side.{converse}
use Rattle.drawing.proofs.SideFacts.{exchange_side}
use Rattle.drawing.specs.declared.Side.{Side}
use Rattle.drawing.specs.declared.Side.TheVariants.{Left, Right, Above, Below}
use Rattle.groups.specs.Group.{Member, dec_member, SomeIn, Empty, SomeEmpty, Common, Fits}
use Rattle.groups.specs.Standing.{AllStand, dec_all_stand}
use Rattle.groups.specs.Answer.{GroupsAnswer, standing}

-- a group that is not empty has a room
pub some_member : (group : List ℕ) → ¬ Empty group → SomeBetween (Member group) 1 257
some_member group filled = stable (dec_some _ (dec_member group) 1 257) filled

-- a room of a group with no position past n is one of n
pub member_inside : {n : ℕ} (group : List ℕ) → ¬ SomeIn group (λ k. n < k) → (k : ℕ) → 1 ≤ k → k < 257 → Member group k → k ≤ n
member_inside {n} group inside k a b m = elim (le_or_lt k n) [ inl h ↦ h | inr h ↦ absurd (inside (k, a, b, (m, h))) ]

-- two rooms of groups without a common position are at two positions
pub apart : (first second : List ℕ) → ¬ Common first second → {i j : ℕ} → 1 ≤ i → i < 257 → Member first i → Member second j
    → i ≢ j
apart first second none a b m n e = none (_, a, b, (m, subst (Member second) (sym e) n))

module _ (f : ℕ → ℕ) (first second : List ℕ) where
  -- an answer with what it says
  abbrev pub Says : GroupsAnswer → Type 0
  Says (Ok (Some side)) = AllStand f first second side
  Says (Ok None) = (side : Side) → ¬ AllStand f first second side
  Says (Err refusal) = ⊥

  abbrev All : Side → Type 0
  All = AllStand f first second

  pub standing_says : Says (standing f first second)
  standing_says = go (decided Left) (decided Right) (decided Above) (decided Below)
    where
      decided : (side : Side) → Dec (All side)
      decided = dec_all_stand f first second

      none : ¬ All Left → ¬ All Right → ¬ All Above → ¬ All Below → (side : Side) → ¬ All side
      none a b c d Left = a
      none a b c d Right = b
      none a b c d Above = c
      none a b c d Below = d

      go : (a : Dec (All Left)) (b : Dec (All Right)) (c : Dec (All Above)) (d : Dec (All Below))
          → Says (ite a (Ok (Some Left)) (ite b (Ok (Some Right)) (ite c (Ok (Some Above)) (ite d (Ok (Some Below)) (Ok None)))))
      go (yes a) b c d = a
      go (no a) (yes b) c d = b
      go (no a) (no b) (yes c) d = c
      go (no a) (no b) (no c) (yes d) = d
      go (no a) (no b) (no c) (no d) = none a b c d

  module _ (filled : ¬ SomeEmpty first second) where
    pub at_most_one_side : {one other : Side} → AllStand f first second one → AllStand f first second other → one ≡ other
    at_most_one_side h k =
        let (i, a, b, m) = some_member first (λ e. filled (inl e)) in
        let (j, c, d, l) = some_member second (λ e. filled (inr e)) in
        sym (h i a b m j c d l) ∙ k i a b m j c d l

    pub says→standing : (answer : GroupsAnswer) → Says answer → answer ≡ standing f first second
    says→standing answer h = go answer (standing f first second) h standing_says
      where
        go : (x y : GroupsAnswer) → Says x → Says y → x ≡ y
        go (Ok (Some one)) (Ok (Some other)) h k = ap (λ (side : Side). Ok (Some side)) (at_most_one_side h k)
        go (Ok (Some one)) (Ok None) h k = absurd (k one h)
        go (Ok None) (Ok (Some other)) h k = absurd (h other k)
        go (Ok None) (Ok None) h k = refl
        go (Ok (Some one)) (Err _) h k = elim k [ ]
        go (Ok None) (Err _) h k = elim k [ ]
        go (Err _) y h k = elim h [ ]

-- ---- the groups exchanged
pub common_exchanged : (first second : List ℕ) → Common first second → Common second first
common_exchanged first second (k, a, b, (m, l)) = (k, a, b, (l, m))

pub fits_exchanged : {n : ℕ} (first second : List ℕ) → Fits n first second → Fits n second first
fits_exchanged first second fits = record {
  inside = λ z. fits.inside (⊎_swap z);
  filled = λ z. fits.filled (⊎_swap z);
  apart = λ z. fits.apart (common_exchanged second first z);
}

pub stand_exchanged : (f : ℕ → ℕ) (first second : List ℕ) → ¬ Common first second → {side : Side}
    → AllStand f first second side → AllStand f second first (converse side)
stand_exchanged f first second none h j c d l i a b m = exchange_side f i j (apart first second none a b m l) (h i a b m j c d l)

-- the answer with the groups exchanged
abbrev pub exchanged : GroupsAnswer → GroupsAnswer
exchanged (Ok (Some side)) = Ok (Some (converse side))
exchanged (Ok None) = Ok None
exchanged (Err refusal) = Err refusal

pub says_exchanged : (f : ℕ → ℕ) (first second : List ℕ) → ¬ Common first second → (answer : GroupsAnswer)
    → Says f first second answer → Says f second first (exchanged answer)
says_exchanged f first second none (Ok (Some side)) h = stand_exchanged f first second none h
says_exchanged f first second none (Ok None) h =
    λ side all. h (converse side) (stand_exchanged f second first (λ c. none (common_exchanged second first c)) all)
says_exchanged f first second none (Err _) h = elim h [ ]
