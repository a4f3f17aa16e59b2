-- A pattern by the sides on which its labels lie. In the first condition the last label is next above the first one, in the second next
-- below it. The label at j lies on that side of the first label, too, and the label at k on the other side.
use Rattle.std.specs.Prelude.{Bool, true, false, not, ◌≡◌, ℕ, ◌+◌, ltb}
use Rattle.patterns.specs.Pattern.{Four, Ordered}
use Rattle.patterns.specs.declared.Condition.{Condition}
use Rattle.patterns.specs.declared.Condition.TheVariants as condition

-- the condition in which the last label lies above the first one, or where `above` is false below it
abbrev pub condition_of : (above : Bool) → Condition
condition_of true = condition.First
condition_of false = condition.Second

-- next above a label, or next below it
abbrev pub NextTo : (above : Bool) (label next : ℕ) → Type 0
NextTo true label next = label + 1 ≡ next
NextTo false label next = next + 1 ≡ label

-- the label of a position lies above a label, or does not
abbrev pub Beyond : (f : ℕ → ℕ) (above : Bool) (label at : ℕ) → Type 0
Beyond f above label at = ltb label (f at) ≡ above

-- four positions whose labels lie so
pub record BySides (f : ℕ → ℕ) (n : ℕ) (above : Bool) (p : Four) : Type 0 where
  pub order : Ordered n p
  pub j_side : Beyond f above (f p.i) p.j
  pub k_side : Beyond f (not above) (f p.i) p.k
  pub last : NextTo above (f p.i) (f p.l)
