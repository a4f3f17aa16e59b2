-- The walk in both directions: what is known after k turns, and what one more turn leaves. Room i starts at `x way i` and is `size way i`
-- long in each direction.
use Rattle.std.specs.Prelude.{List, ◌≡◌, refl, ℕ, zero, suc, ◌+◌, ◌-◌, ◌*◌, ◌≤◌, ◌<◌, max, get_or, set, replicate}
use Rattle.std.proofs.Common.{sym, ap, subst, ◌∙◌, arith}
use Rattle.bits.specs.Bit.{bit}
use Rattle.record.specs.Triple.{Triple}
use Rattle.record.specs.Walk.{counts, walk, Accepted}
use Rattle.record.specs.Way.{up, down, both}
use Rattle.record.specs.Decode.{bits_of}
use Rattle.steps.specs.declared.Turn.{Turn}
use Rattle.steps.specs.Turn.{Says, rises_by, falls_by}
use Rattle.steps.specs.Stack.{either}
use Rattle.steps.specs.Table.{once_risen}
use Rattle.steps.specs.Told.{bit_le}
use Rattle.sizes.specs.Direction.{Direction, across, upward}
use Rattle.sizes.specs.Lowest.{furthest_before}
use Rattle.sizes.proofs.Lines.{line_of_first}
use Rattle.sizes.specs.Stacked.{stacked_first}
use Rattle.sizes.proofs.OneWay.{Walks, OneWay, start_is, one_way_next, enough, counts_next}

-- a number or 0, as a bit says
either_zero : (b x : ℕ) → either b x 0 ≡ b * x
either_zero b x = omega arith

-- what a turn counts fits the stacks
pub record TurnFits (p q : ℕ) (turn : Turn) : Type 0 where
  pub stored_below : p + 1 < 256
  pub stored_above : q + 1 < 256
  pub below_few : p + turn.rises ≤ 254
  pub above_few : q + turn.falls ≤ 254
  pub joins_below : turn.below ≤ p + turn.rises
  pub joins_above : turn.above ≤ q + turn.falls
  pub below_bit : turn.below ≤ 1
  pub above_bit : turn.above ≤ 1

-- a place of a stack, or 0
pub chosen_few : (b i : ℕ) {at : ℕ} → b ≤ 1 → i ≤ 254 → at ≡ either b i 0 → at < 256
chosen_few zero i h l e = omega arith
chosen_few (suc zero) i h l e = omega arith
chosen_few (suc (suc b)) i h l e = absurd (omega arith)

pub record Turned (t : ℕ → Triple) (n : ℕ) (f : ℕ → ℕ) (size x : Direction → ℕ → ℕ) (k : ℕ) (across-below across-above up-below up_above : List ℕ) (p q right top : ℕ) : Type 0 where
  pub more : k < n
  pub walked : walk t k ≡ counts p q
  pub few : p + q ≤ k
  pub rights : OneWay t f across (λ i. x across i + size across i) k across-below across-above p q right
  pub tops : OneWay t f upward (λ i. x upward i + size upward i) k up-below up_above p q top

pub turned_first : (t : ℕ → Triple) (n : ℕ) (f : ℕ → ℕ) (size x : Direction → ℕ → ℕ) → 1 ≤ n
    → {right top : ℕ} → x across 1 + size across 1 ≡ right → x upward 1 + size upward 1 ≡ top
    → Turned t n f size x 0 (replicate 256 0) (replicate 256 0) (replicate 256 0) (replicate 256 0) 0 0 right top
unfolding walk
turned_first t n f size x some e d = record {
  more = some;
  walked = refl;
  few = omega arith;
  rights = rw e at (first across);
  tops = rw d at (first upward);
}
  where
    first : (way : Direction) → OneWay t f way (λ i. x way i + size way i) 0 (replicate 256 0) (replicate 256 0) 0 0 (x way 1 + size way 1)
    first way = record {
      stacked = both _ (stacked_first t up _) (stacked_first t down _);
      line_is = line_of_first f way (λ i. x way i + size way i);
    }

module _ {t : ℕ → Triple} {n : ℕ} {f : ℕ → ℕ} (size x : Direction → ℕ → ℕ) (w : Walks t n f) (accepted : Accepted t n) (small : n ≤ 255) {k : ℕ}
    {xb xa yb ya : List ℕ} {p q right top : ℕ} (now : Turned t n f size x k xb xa yb ya p q right top) (next : suc k < n)
    (turn : Turn) (says : Says (t (suc (suc k))) turn) where
  abbrev u : Triple
  u = t (suc (suc k))

  low : p + q < 255
  low = omega (arith, now.few)

  pub turn_fits : TurnFits p q turn
  turn_fits = record {
    stored_below = omega arith;
    stored_above = omega arith;
    below_few = omega (arith, now.few, says.rises_is, once_risen u);
    above_few = omega (arith, now.few, says.falls_is, once_risen u);
    joins_below = omega (arith, (enough t n k p q accepted next now.walked).0, says.rises_is, says.below_is);
    joins_above = omega (arith, (enough t n k p q accepted next now.walked).1, says.falls_is, says.above_is);
    below_bit = omega (arith, says.below_is, bit_le (bits_of u down));
    above_bit = omega (arith, says.above_is, bit_le (bits_of u up));
  }

  -- where the furthest rooms before the new one end
  pub left_is : furthest_before f across (size across) n (x across) (suc (suc k)) ≡ get_or (set xb (p + 1) right) (p + turn.rises) 0
  left_is = start_is w across (size across) (x across) next now.rights low ∙ ap (λ (r : ℕ). get_or (set xb (p + 1) right) (p + r) 0) (sym says.rises_is)

  pub bottom_is : furthest_before f upward (size upward) n (x upward) (suc (suc k)) ≡ get_or (set ya (q + 1) top) (q + turn.falls) 0
  bottom_is = start_is w upward (size upward) (x upward) next now.tops low ∙ ap (λ (r : ℕ). get_or (set ya (q + 1) top) (q + r) 0) (sym says.falls_is)

  -- one room more
  pub turned_next : (at_x at_y right-next top-next : ℕ) → get_or (set xb (p + 1) right) (p + turn.rises) 0 ≤ x across (suc (suc k))
      → get_or (set ya (q + 1) top) (q + turn.falls) 0 ≤ x upward (suc (suc k))
      → at_x ≡ either turn.above (q + turn.falls) 0 → at_y ≡ either turn.below (p + turn.rises) 0
      → right-next ≡ max (x across (suc (suc k)) + size across (suc (suc k))) (get_or (set xa (q + 1) right) at_x 0)
      → top-next ≡ max (x upward (suc (suc k)) + size upward (suc (suc k))) (get_or (set yb (p + 1) top) at_y 0)
      → Turned t n f size x (k + 1) (set xb (p + 1) right) (set xa (q + 1) right) (set yb (p + 1) top) (set ya (q + 1) top)
      (p + turn.rises - turn.below) (q + turn.falls - turn.above) right-next top-next
  turned_next at_x at_y right-next top-next late-x late-y is_x is_y moved-x moved-y = record {
    more = omega arith;
    walked = counts_next t n k p q accepted next now.walked _ _ left_below left_above;
    few = omega (arith, now.few, says.rises_is, says.falls_is, once_risen u);
    rights = one_way_next w across (size across) (x across) next now.rights low _ _ left_below left_above
        (subst (λ (r : ℕ). get_or (set xb (p + 1) right) (p + r) 0 ≤ x across (suc (suc k))) says.rises_is late-x) at_x right-next
        (is_x ∙ either_zero turn.above (q + turn.falls) ∙ (λ i. says.above_is i * (q + says.falls_is i))) moved-x;
    tops = one_way_next w upward (size upward) (x upward) next now.tops low _ _ left_below left_above
        (subst (λ (r : ℕ). get_or (set ya (q + 1) top) (q + r) 0 ≤ x upward (suc (suc k))) says.falls_is late-y) at_y top-next
        (is_y ∙ either_zero turn.below (p + turn.rises) ∙ (λ i. says.below_is i * (p + says.rises_is i))) moved-y;
  }
    where
      left_below : (p + turn.rises - turn.below) + bit (bits_of u down) ≡ p + rises_by u
      left_below = omega (arith, turn_fits, says.rises_is, says.below_is)

      left_above : (q + turn.falls - turn.above) + bit (bits_of u up) ≡ q + falls_by u
      left_above = omega (arith, turn_fits, says.falls_is, says.above_is)
