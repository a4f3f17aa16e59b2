-- The walk with its counts in one word: what a step leaves of the word, and what that says of the counts.
use mathlib.Core.Logic.{inl, inr}
use mathlib.Core.Path.{◌≡◌, refl, sym, ap, ◌∙◌}
use Prim.Native.Nat.{ℕ, suc, ◌+◌, ◌-◌, ◌*◌, ◌/◌, ◌%◌, ◌≤◌, ◌<◌}
use native.Mathlib.Omega.{arith}
use Rattle.finite.specs.Decide.{le_or_lt}
use Rattle.bits.specs.Bit.{bit}
use Rattle.record.specs.Triple.{Triple, triple}
use Rattle.record.specs.Way.{up, down}
use Rattle.record.specs.Walk.{Counts, missing, step, and_then, walk}
use Rattle.record.specs.Decode.{bits_of}
use Rattle.record.specs.Rises.{third_of, falls, falls_one, falls_next}
use Rattle.steps.specs.Turn.{rises_by, falls_by}
use Rattle.steps.specs.Table.{once_risen, less_is, less_below, less_above, rows}
use Rattle.steps.specs.Told.{bit_le}
use Rattle.steps.specs.Counts.{less}
use Rattle.judging.specs.Packed.{Packed, Row, Lacks, Packs}

pub packs_first : (t : ℕ → Triple) → Packs t 0 2147450879
unfolding walk
packs_first t = record {
  below = 0;
  above = 0;
  walked = refl;
  few = omega arith;
  falls_few = omega (arith, falls_one t);
  packed = omega (arith, falls_one t);
}

falls_third : (u : Triple) → falls_by u ≡ bit (third_of u)
falls_third (triple first second third) = refl

-- the parts of the word
module _ (below above steps tally : ℕ) (is : Packed below above steps tally) (small : below + above < 32768) where
  pub low_is : tally % 65536 + below ≡ 32767
  low_is = omega arith

  pub high_is : tally / 65536 % 65536 + above ≡ 32767
  high_is = omega arith

  pub top_is : tally / 4294967296 ≡ steps
  top_is = omega arith

module _ {t : ℕ → Triple} {k tally : ℕ} (now : Packs t k tally) (more : k < 256) (added : ℕ) (row : Row (t (suc (suc k))) added) where
  abbrev u : Triple
  u = t (suc (suc k))

  abbrev p : ℕ
  p = now.below

  abbrev q : ℕ
  q = now.above

  abbrev next : ℕ
  next = tally + added

  small_up : bit (bits_of u up) ≤ 1
  small_up = bit_le (bits_of u up)

  small_down : bit (bits_of u down) ≤ 1
  small_down = bit_le (bits_of u down)

  -- both counts after the step, with 2 added
  abbrev x : ℕ
  x = 2 + p + rises_by u - bit (bits_of u down)

  abbrev y : ℕ
  y = 2 + q + falls_by u - bit (bits_of u up)

  fallen : falls t (suc (suc k)) ≡ falls t (suc k) + falls_by u
  fallen = omega (arith, falls_next t k, falls_third u)

  -- the word with 2 taken from both its counts
  next_is : next + x + 65536 * y ≡ 2147450879 + 131074 + 4294967296 * (suc k + falls t (suc (suc k)))
  next_is = omega (arith, now.packed, row, fallen, small_up, small_down)

  stepped : walk t (suc k) ≡ step u p q
  unfolding walk
  stepped = ap (λ (c : Counts). and_then c (step u)) now.walked

  few_x : x + y ≤ k + 5
  few_x = omega (arith, now.few, once_risen u)

  low_next : next % 65536 + x ≡ 32769
  low_next = omega (arith, next_is, few_x, small_up, small_down)

  high_next : next / 65536 % 65536 + y ≡ 32769
  high_next = omega (arith, next_is, few_x, small_up, small_down)

  row_is : less x y ≡ step u p q
  row_is = rows u p q x y (omega (arith, small_down)) (omega (arith, small_up))

  -- a run is missing
  pub packs_lacks : Lacks next → walk t (suc k) ≡ missing
  packs_lacks (inl h) = stepped ∙ sym row_is ∙ less_below x y (omega (arith, low_next))
  packs_lacks (inr h) = stepped ∙ sym row_is ∙ less_above x y (omega (arith, high_next))

  -- none is missing
  pub packs_next : ¬ Lacks next → Packs t (suc k) next
  packs_next has = record {
    below = x - 2;
    above = y - 2;
    walked = stepped ∙ sym row_is ∙ less_is (omega (arith, some_below)) (omega (arith, some_above));
    few = omega (arith, few_x, some_below, some_above);
    falls_few = omega (arith, fallen, now.falls_few, once_risen u);
    packed = omega (arith, next_is, some_below, some_above);
  }
    where
      some_below : 2 ≤ x
      some_below = elim (le_or_lt 2 x) [ inl h ↦ h | inr l ↦ absurd (has (inl (omega (arith, low_next)))) ]

      some_above : 2 ≤ y
      some_above = elim (le_or_lt 2 y) [ inl h ↦ h | inr l ↦ absurd (has (inr (omega (arith, high_next)))) ]
