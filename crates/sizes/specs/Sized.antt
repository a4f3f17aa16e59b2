-- The causes for which a record with sizes is refused, in their order. "24 for a list whose length is not n, 25 for a size of 0 ...; they
-- follow 13 in this order".
use Rattle.std.specs.Prelude.{List, ◌≢◌, ◌≡◌, ℕ, suc, length}
use Rattle.std.proofs.Math.Logic.{ite, if_pos, if_neg}
use Rattle.std.proofs.Common.{sym, ◌∙◌}
use Rattle.std.proofs.Math.Decide.{ℕ_discrete}
use Rattle.finite.specs.Decide.{dec-¬}
use Rattle.finite.specs.Search.{dec_some}
use Rattle.record.specs.Labels.{SomePosition}
use Rattle.record.specs.Checked.{checked, Readable, Refuses, checked_has, refused_checked, readable_checked}
use Rattle.record.specs.declared.Refusal.{Refusal}
use Rattle.record.specs.declared.Refusal.TheVariants as refusal
use Rattle.sizes.specs.Direction.{across, upward}
use Rattle.sizes.specs.Lists.{EachWay, each_way, SomeWay, dec_some_way, number_at}

-- "a list whose length is not n": one of two lists, of so many numbers
abbrev pub OtherLength : (n : ℕ) (lengths : EachWay ℕ) → Type 0
OtherLength n lengths = SomeWay (λ way. lengths way ≢ n)

unfoldable pub dec_other_length : (n : ℕ) (lengths : EachWay ℕ) → Dec (OtherLength n lengths)
unfolding dec_some_way dec-¬ ℕ_discrete
dec_other_length n lengths = dec_some_way (dec-¬ (ℕ_discrete (lengths across) n)) (dec-¬ (ℕ_discrete (lengths upward) n))

abbrev pub lengths_of : EachWay (List ℕ) → EachWay ℕ
lengths_of lists = each_way (length (lists across)) (length (lists upward))

-- "a size of 0"
abbrev pub HasZero : List ℕ → Type 0
HasZero sizes = SomePosition (λ i. number_at sizes i ≡ 0) (length sizes)

unfoldable pub dec_has_zero : (sizes : List ℕ) → Dec (HasZero sizes)
unfolding dec_some ℕ_discrete
dec_has_zero sizes = dec_some _ (λ i. ℕ_discrete (number_at sizes i) 0) 1 (suc (length sizes))

abbrev pub ZeroSize : EachWay (List ℕ) → Type 0
ZeroSize sizes = SomeWay (λ way. HasZero (sizes way))

unfoldable pub dec_zero_size : (sizes : EachWay (List ℕ)) → Dec (ZeroSize sizes)
unfolding dec_some_way dec_has_zero
dec_zero_size sizes = dec_some_way (dec_has_zero (sizes across)) (dec_has_zero (sizes upward))

-- the first refusal of the order, or what follows where there is none; the decision says whether a list has another length
abbrev pub sized : {A : Type 0} → (Refusal → A) → (bytes : List ℕ) → {Other : Type 0} → Dec Other → (sizes : EachWay (List ℕ)) → A → A
sized refuse bytes other sizes good =
    checked refuse bytes
    (ite other (refuse refusal.OtherLength)
    (ite (dec_zero_size sizes) (refuse refusal.ZeroSize)
    good))

-- ---- what has none of these causes, and a refusal with its cause and without the causes that the order names before it
pub record Sized (bytes : List ℕ) (Other : Type 0) (sizes : EachWay (List ℕ)) : Type 0 where
  pub readable : Readable bytes
  pub same_length : ¬ Other
  pub no_zero : ¬ ZeroSize sizes

pub data Unsized (bytes : List ℕ) (Other : Type 0) (sizes : EachWay (List ℕ)) : Refusal → Type 0 where
  refused_record : {refusal : Refusal} → Refuses bytes refusal → Unsized bytes Other sizes refusal
  other_length : Readable bytes → Other → Unsized bytes Other sizes refusal.OtherLength
  zero_size : Readable bytes → ¬ Other → ZeroSize sizes → Unsized bytes Other sizes refusal.ZeroSize

module _ {A : Type 0} (refuse : Refusal → A) (bytes : List ℕ) {Other : Type 0} (other : Dec Other) (sizes : EachWay (List ℕ)) (good : A) where
  pub unsized_refused : {refusal : Refusal} → Unsized bytes Other sizes refusal → refuse refusal ≡ sized refuse bytes other sizes good
  unsized_refused (refused_record cause) = refused_checked refuse bytes _ cause
  unsized_refused (other_length all o) = sym (if_pos other o _ _) ∙ readable_checked refuse bytes _ all
  unsized_refused (zero_size all o z) =
      sym (if_neg other o _ _ ∙ if_pos (dec_zero_size sizes) z _ _) ∙ readable_checked refuse bytes _ all

  pub sized_good : Sized bytes Other sizes → good ≡ sized refuse bytes other sizes good
  sized_good s =
      sym (if_neg other s.same_length _ _ ∙ if_neg (dec_zero_size sizes) s.no_zero _ _)
      ∙ readable_checked refuse bytes _ s.readable

  -- what the chain gives, where it is known for each refusal and for what follows
  pub sized_has : (P : A → Type 0) → ((refusal : Refusal) → Unsized bytes Other sizes refusal → P (refuse refusal))
      → (Sized bytes Other sizes → P good) → P (sized refuse bytes other sizes good)
  sized_has P if-refused if-good = checked_has P refuse bytes _ (λ refusal cause. if-refused refusal (refused_record cause))
      (go other (dec_zero_size sizes))
    where
      go : (o : Dec Other) (z : Dec (ZeroSize sizes)) → Readable bytes
          → P (ite o (refuse refusal.OtherLength) (ite z (refuse refusal.ZeroSize) good))
      go (yes o) z all = if-refused refusal.OtherLength (other_length all o)
      go (no o) (yes z) all = if-refused refusal.ZeroSize (zero_size all o z)
      go (no o) (no z) all = if-good record { readable = all; same_length = o; no_zero = z }

-- the same, where another statement says that a list has another length
module _ {bytes : List ℕ} {One Other : Type 0} {sizes : EachWay (List ℕ)} (to : One → Other) (from : Other → One) where
  pub unsized_as : {refusal : Refusal} → Unsized bytes One sizes refusal → Unsized bytes Other sizes refusal
  unsized_as (refused_record cause) = refused_record cause
  unsized_as (other_length all o) = other_length all (to o)
  unsized_as (zero_size all o z) = zero_size all (λ p. o (from p)) z

  pub sized_as : Sized bytes One sizes → Sized bytes Other sizes
  sized_as s = record { readable = s.readable; same_length = λ p. s.same_length (from p); no_zero = s.no_zero }
