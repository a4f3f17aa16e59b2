-- From the extremes of positions and the relations that occur to the answer.
use mathlib.Core.Bool.{Bool, true, false}
use mathlib.Core.List.{List}
use mathlib.Core.Logic.{◌≢◌, inl, inr}
use mathlib.Core.Path.{◌≡◌, refl, ◌∙◌}
use Prim.Native.Nat.{ℕ, ◌≤◌, ◌<◌}
use native.Mathlib.Omega.{arith}
use Rattle.finite.specs.Decide.{Tells, stable, le_or_lt}
use Rattle.record.specs.Labels.{EachOnce}
use Rattle.drawing.specs.declared.Side.TheVariants.{Left, Right, Above, Below}
use Rattle.sizes.specs.Direction.{across, upward}
use Rattle.groups.specs.Group.{Member, EachIn, SomeIn, dec_some_in, Fits}
use Rattle.groups.specs.Answer.{standing}
use Rattle.groups.proofs.StandingFacts.{member_inside, apart, Says, says→standing, fits_exchanged, exchanged, says_exchanged}
use Rattle.groups.specs.Pairs.{Ahead, SomePair, SomeBefore}
use Rattle.groups.proofs.Pairs.{interleaved_mixed, all_one_way, both_mixed}
use Rattle.std.specs.Prelude.{None, Ok}
use native.Mathlib.Decide.{dec_le}
use Rattle.grouping.specs.Ends.{IsLast, verdict_of}

-- ---- two groups of which nothing is refused; f is the label at a position
-- the last position is one of a plan of n rooms, where none is outside
pub last_fits : (n : ℕ) (group : List ℕ) {last : ℕ} → ¬ SomeIn group (λ k. n < k) → IsLast group last → last ≤ n
last_fits n group {last} inside end = member_inside group inside last end.from (omega (arith, end.few)) end.has

pub ahead : (first second : List ℕ) {last : ℕ} → IsLast first last → EachIn second (λ j. last < j) → Ahead first second
ahead first second end after i a b m j c d l = omega (arith, end.none_past i a b m, after j c d l)

-- not all positions come after one
not_after : (group : List ℕ) (last : ℕ) → ¬ EachIn group (λ j. last < j) → SomeIn group (λ j. j ≤ last)
not_after group last not = stable (dec_some_in group (λ j. dec_le j last)) (λ none.
    not (λ j a b m. elim (le_or_lt j last) [ inl h ↦ absurd (none (j, a, b, (m, h))) | inr h ↦ h ]))

module _ (f : ℕ → ℕ) (n : ℕ) (once : EachOnce f n) (first second : List ℕ) (fits : Fits n first second) where
  says_ahead : Ahead first second → (some_left some_below : Bool) → Tells some_left (SomeBefore f across first second)
      → Tells some_below (SomeBefore f upward first second) → Says f first second (Ok (verdict_of some_left some_below Left Below))
  says_ahead before some_left false l b = all_one_way f n once first second fits across before b
  says_ahead before false true l b = all_one_way f n once first second fits upward before l
  says_ahead before true true l b = both_mixed f n once first second fits l b

  pub standing_ahead : Ahead first second → (some_left some_below : Bool) → Tells some_left (SomeBefore f across first second)
      → Tells some_below (SomeBefore f upward first second) → Ok (verdict_of some_left some_below Left Below) ≡ standing f first second
  standing_ahead before some_left some_below l b =
      says→standing f first second fits.filled _ (says_ahead before some_left some_below l b)

  -- neither comes wholly before the other
  pub standing_interleaved : {one other : ℕ} → IsLast first one → IsLast second other → ¬ EachIn second (λ j. one < j)
      → ¬ EachIn first (λ i. other < i) → Ok None ≡ standing f first second
  standing_interleaved {one} {other} one_end other_end not_ahead not_behind =
      says→standing f first second fits.filled (Ok None) (interleaved_mixed f first second before after)
    where
      apart_at : {i j : ℕ} → 1 ≤ i → i ≤ 256 → Member first i → Member second j → i ≢ j
      apart_at a b m l = apart first second fits.apart a (omega arith) m l

      before : SomePair first second (λ i j. i < j)
      before =
          let (i, a, b, (m, h)) = not_after first other not_behind in
          (i, a, b, (m, (other, other_end.from, omega (arith, other_end.few), (other_end.has, omega (arith, apart_at a (omega arith) m other_end.has)))))

      after : SomePair first second (λ i j. j < i)
      after =
          let (j, a, b, (l, h)) = not_after second one not_ahead in
          (one, one_end.from, omega (arith, one_end.few), (one_end.has, (j, a, b, (l, omega (arith, apart_at one_end.from one_end.few one_end.has l)))))

-- ---- the second group comes first
exchanged_verdict : (some_left some_below : Bool)
    → Ok (verdict_of some_left some_below Right Above) ≡ exchanged (Ok (verdict_of some_left some_below Left Below))
exchanged_verdict some_left false = refl
exchanged_verdict false true = refl
exchanged_verdict true true = refl

pub standing_behind : (f : ℕ → ℕ) (n : ℕ) → EachOnce f n → (first second : List ℕ) → Fits n first second → Ahead second first
    → (some_left some_below : Bool) → Tells some_left (SomeBefore f across second first) → Tells some_below (SomeBefore f upward second first)
    → Ok (verdict_of some_left some_below Right Above) ≡ standing f first second
standing_behind f n once first second fits before some_left some_below l b =
    let back = fits_exchanged first second fits in
    exchanged_verdict some_left some_below
    ∙ says→standing f first second fits.filled _ (says_exchanged f second first back.apart (Ok (verdict_of some_left some_below Left Below))
    (says_ahead f n once second first back before some_left some_below l b))
