-- What is refused of a record and lists, and what is not, once the record is accepted: its number of rooms is its kind.
use mathlib.Core.List.{List}
use mathlib.Core.Logic.{inl, inr}
use mathlib.Core.Path.{◌≡◌, sym, subst}
use Prim.Native.Nat.{ℕ}
use native.Mathlib.Decide.{ℕ_discrete}
use Rattle.finite.specs.Decide.{stable}
use Rattle.record.specs.declared.Refusal.TheVariants as refusal
use Rattle.record.specs.Read.{kind_of}
use Rattle.judging.specs.Judge.{Accepts}
use Rattle.sizes.specs.Direction.{Direction}
use Rattle.sizes.specs.Lists.{EachWay}
use Rattle.sizes.specs.Sized.{OtherLength, lengths_of, ZeroSize, Unsized, other_length, zero_size}
use Rattle.packing.specs.Admitted.{OtherLengths, Admitted}

module _ {bytes : List ℕ} {n fallen : ℕ} (a : Accepts bytes n fallen) (sizes : EachWay (List ℕ)) (corners : EachWay ℕ) where
  abbrev Others : (n : ℕ) → Type 0
  Others n = OtherLengths n (lengths_of sizes) corners

  of_kind : ¬ OtherLength n (lengths_of sizes) → ¬ OtherLength n corners → ¬ Others (kind_of bytes)
  of_kind s c h = elim (subst Others (sym a.rooms_are) h) [ inl p ↦ s p | inr p ↦ c p ]

  pub other_sizes : OtherLength n (lengths_of sizes) → Unsized bytes (Others (kind_of bytes)) sizes refusal.OtherLength
  other_sizes h = other_length a.readable (subst Others a.rooms_are (inl h))

  pub other_corners : OtherLength n corners → Unsized bytes (Others (kind_of bytes)) sizes refusal.OtherLength
  other_corners h = other_length a.readable (subst Others a.rooms_are (inr h))

  module _ (s : ¬ OtherLength n (lengths_of sizes)) (c : ¬ OtherLength n corners) where
    pub zero_sizes : ZeroSize sizes → Unsized bytes (Others (kind_of bytes)) sizes refusal.ZeroSize
    zero_sizes h = zero_size a.readable (of_kind s c) h

    pub admitted : ¬ ZeroSize sizes → Admitted bytes n sizes corners
    admitted h = record { kind = a.rooms_are; few = a.few; sized = record { readable = a.readable; same_length = of_kind s c; no_zero = h } }

-- lists of length n
pub same_lengths : {n : ℕ} {lengths : EachWay ℕ} → ¬ OtherLength n lengths → (way : Direction) → lengths way ≡ n
same_lengths {n} {lengths} h way = stable (ℕ_discrete (lengths way) n) (λ d. h (way, d))
