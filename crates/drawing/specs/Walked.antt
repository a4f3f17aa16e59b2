-- The four sides of a room, read off the walk along the triples with positions alone: forward it holds left and bottom of each
-- position, backward right and top.
use Rattle.std.specs.Prelude.{◌≡◌, ℕ, zero, suc, ◌-◌, ◌≤◌, ◌<◌}
use Rattle.std.proofs.Common.{sym, arith}
use Rattle.std.proofs.Math.Decide.{dec_lt}
use Rattle.record.specs.Labels.{label_at}
use Rattle.record.specs.Triple.{Triple}
use Rattle.record.specs.Walk.{Accepted}
use Rattle.record.specs.Way.{Way, up, down, Less}
use Rattle.record.specs.Decode.{decode}
use Rattle.record.specs.Positions.{newest_met, entered_but}
use Rattle.record.proofs.Newest.{met_newest}
use Rattle.record.proofs.Entered.{label_entered}
use Rattle.drawing.specs.Drawing.{left_at, bottom_at, right_at, top_at}
use Rattle.drawing.specs.Nearest.{Nearest, nearest→last, nearest→first}

module _ (t : ℕ → Triple) (m : ℕ) (accepted : Accepted t (suc m)) where
  abbrev n : ℕ
  n = suc m

  abbrev f : ℕ → ℕ
  f = label_at (decode t n)

  -- forward: looking down from position i, the nearest one whose label is past i's
  pub newest_nearest : (way : Way) (i : ℕ) → 1 ≤ i → i ≤ n → Nearest down (λ j. Less way (f i) (f j)) n i (newest_met t i way)
  newest_nearest way zero a b = absurd (omega arith)
  newest_nearest way (suc k) a b =
      let e = met_newest t m accepted k (omega arith) way in
      record { past = omega (arith, e.within); within = omega (arith, e.within); has = λ c d. (e.past c).less; clear = λ j c d p. e.later j d (omega arith) record { less = p } }

  -- backward: looking up
  entered_nearest : (way : Way) (i : ℕ) → 1 ≤ i → i ≤ n
      → Nearest up (λ j. Less way (f i) (f j)) n i (suc ((entered_but t n (n - i)).current way))
  entered_nearest way zero a b = absurd (omega arith)
  entered_nearest way (suc k) a b =
      let e = label_entered t m accepted k (omega arith) way in
      record { past = omega (arith, e.from); within = omega (arith, e.within); has = λ c d. (e.past d).less; clear = λ j c d p. e.earlier j c (omega arith) record { less = p } }

  pub walked_left : (i : ℕ) → 1 ≤ i → i ≤ n → newest_met t i down ≡ left_at f i
  walked_left i a b = sym (nearest→last (λ j. f j < f i) (λ j. dec_lt (f j) (f i)) n i a b (newest_nearest down i a b))

  pub walked_bottom : (i : ℕ) → 1 ≤ i → i ≤ n → newest_met t i up ≡ bottom_at f i
  walked_bottom i a b = sym (nearest→last (λ j. f i < f j) (λ j. dec_lt (f i) (f j)) n i a b (newest_nearest up i a b))

  pub walked_right : (i : ℕ) → 1 ≤ i → i ≤ n → (entered_but t n (n - i)).current up ≡ right_at f n i
  walked_right i a b = omega (arith, nearest→first (λ j. f i < f j) (λ j. dec_lt (f i) (f j)) n i a b (entered_nearest up i a b))

  pub walked_top : (i : ℕ) → 1 ≤ i → i ≤ n → (entered_but t n (n - i)).current down ≡ top_at f n i
  walked_top i a b = omega (arith, nearest→first (λ j. f j < f i) (λ j. dec_lt (f j) (f i)) n i a b (entered_nearest down i a b))
