-- The forward pass: what it has after k turns, and what one more turn leaves.
use mathlib.Core.Bool.{Bool, true, false}
use mathlib.Core.List.{List, ◌∷◌}
use mathlib.Core.Logic.{inl, inr}
use mathlib.Core.Path.{◌≡◌, refl, sym, ap, subst, subst₂, ◌∙◌}
use Prim.Native.Nat.{ℕ, zero, suc, ◌+◌, ◌*◌, ◌≤◌, ◌<◌}
use native.Mathlib.Omega.{arith}
use native.Mathlib.Numerals.{add-one}
use lib.ListN.{length, get_or, set, length-set}
use lib.Seq.{get_or-set_same, get_or-set_other}
use Rattle.bits.specs.Bit.{bit}
use Rattle.finite.specs.Decide.{eq_or_ne}
use Rattle.record.specs.Triple.{Triple, triple}
use Rattle.record.specs.Walk.{Counts, counts, step, and_then, walk}
use Rattle.record.specs.Way.{up, down}
use Rattle.record.specs.Sides.{rest_of}
use Rattle.record.specs.Decode.{bits_of, Sizes, sizes_ahead, joined_size, grow_sizes, sizes_after, lower_size}
use Rattle.record.proofs.Backward.{size_small}
use Rattle.steps.specs.declared.Turn.{Turn}
use Rattle.steps.specs.Turn.{Says, rises_by, falls_by}
use Rattle.steps.specs.Stack.{stack_of, stack_pushed, either, either_top, joined_top, rest_stack}
use Rattle.steps.specs.Table.{Meets, step_meets, once_risen}

pub record Counted (t : ℕ → Triple) (k : ℕ) (lower below above : List ℕ) (runs-below runs-above size : ℕ) : Type 0 where
  pub walked : walk t k ≡ counts runs-below runs-above
  pub few : runs-below + runs-above ≤ k
  pub size_is : (sizes_after t k).current ≡ size
  pub below_is : (sizes_after t k).others down ≡ stack_of below runs-below
  pub above_is : (sizes_after t k).others up ≡ stack_of above runs-above
  pub lowers : (i : ℕ) → i < suc k → get_or lower i 0 ≡ lower_size t (suc i)
  pub room_lower : length lower ≡ 255
  pub room_below : length below ≡ 255
  pub room_above : length above ≡ 255

pub counted_first : (t : ℕ → Triple) (lower below above : List ℕ) → length lower ≡ 255 → length below ≡ 255 → length above ≡ 255 → Counted t 0 (set lower 0 0) below above 0 0 1
unfolding walk sizes_after lower_size stack_of
counted_first t lower below above a b c = record {
  walked = refl;
  few = omega arith;
  size_is = refl;
  below_is = refl;
  above_is = refl;
  lowers = λ i h. first i h;
  room_lower = length-set lower 0 0 ∙ a;
  room_below = b;
  room_above = c;
}
  where
    first : (i : ℕ) → i < 1 → get_or (set lower 0 0) i 0 ≡ lower_size t (suc i)
    first zero h = get_or-set_same lower 0 0 0 (omega arith)
    first (suc i) h = absurd (omega arith)

module _ {t : ℕ → Triple} {k : ℕ} {lower below above : List ℕ} {p q size : ℕ} (now : Counted t k lower below above p q size) (more : k < 254) where
  abbrev u : Triple
  u = t (suc (suc k))

  abbrev before : Sizes
  before = sizes_after t k

  -- the sizes of the runs that the new label meets, with the current run's on both stacks
  abbrev below_next : List ℕ
  below_next = set below (p + 1) size

  abbrev above_next : List ℕ
  above_next = set above (q + 1) size

  meets_below : sizes_ahead u before down ≡ stack_of below_next (p + rises_by u)
  meets_below = go u
    where
      go : (u : Triple) → sizes_ahead u before down ≡ stack_of below_next (p + rises_by u)
      go (triple first second false) = (λ i. now.size_is i ∷ now.below_is i) ∙ sym (stack_pushed true below p size (omega (arith, now.few, now.room_below)))
      go (triple first second true) = now.below_is ∙ sym (stack_pushed false below p size (omega (arith, now.few, now.room_below)))

  meets_above : sizes_ahead u before up ≡ stack_of above_next (q + falls_by u)
  meets_above = go u
    where
      go : (u : Triple) → sizes_ahead u before up ≡ stack_of above_next (q + falls_by u)
      go (triple first second true) = (λ i. now.size_is i ∷ now.above_is i) ∙ sym (stack_pushed true above q size (omega (arith, now.few, now.room_above)))
      go (triple first second false) = now.above_is ∙ sym (stack_pushed false above q size (omega (arith, now.few, now.room_above)))

  pub size_few : size ≤ 255
  size_few = omega (arith, now.size_is, size_small t k)

  pub walk_next : walk t (k + 1) ≡ step u p q
  unfolding walk
  walk_next = ap (walk t) (add-one k) ∙ ap (λ (c : Counts). and_then c (step u)) now.walked

  -- where the table goes on
  module _ {p-next q-next : ℕ} (goes : step u p q ≡ counts p-next q-next) where
    pub meets : Meets u p q (counts p-next q-next)
    meets = subst (Meets u p q) goes (step_meets u p q)

    abbrev labels_below : ℕ
    labels_below = bit (bits_of u down) * get_or below_next (p + rises_by u) 0

    abbrev labels_above : ℕ
    labels_above = bit (bits_of u up) * get_or above_next (q + falls_by u) 0

    lower_is : joined_size (bits_of u down) (sizes_ahead u before down) ≡ labels_below
    lower_is = ap (joined_size (bits_of u down)) meets_below ∙ joined_top (bits_of u down) below_next (p + rises_by u) (omega (arith, meets.0))

    upper_is : joined_size (bits_of u up) (sizes_ahead u before up) ≡ labels_above
    upper_is = ap (joined_size (bits_of u up)) meets_above ∙ joined_top (bits_of u up) above_next (q + falls_by u) (omega (arith, meets.1))

    size_next : (sizes_after t (suc k)).current ≡ 1 + labels_below + labels_above
    unfolding sizes_after grow_sizes
    size_next = omega (arith, lower_is, upper_is)

    small_plain : 1 + labels_below + labels_above ≤ 255
    small_plain = omega (arith, size_next, size_small t (suc k))

    turned_plain : Counted t (k + 1) (set lower (k + 1) labels_below) below_next above_next p-next q-next (1 + labels_below + labels_above)
    unfolding sizes_after grow_sizes lower_size
    turned_plain = subst (λ (j : ℕ). Counted t j (set lower (k + 1) labels_below) below_next above_next p-next q-next (1 + labels_below + labels_above)) (sym (add-one k)) (record {
      walked = ap (walk t) (sym (add-one k)) ∙ walk_next ∙ goes;
      few = omega (arith, now.few, once_risen u, meets.0, meets.1);
      size_is = size_next;
      below_is = ap (rest_of (bits_of u down)) meets_below ∙ rest_stack (bits_of u down) below_next (p + rises_by u) p-next meets.0;
      above_is = ap (rest_of (bits_of u up)) meets_above ∙ rest_stack (bits_of u up) above_next (q + falls_by u) q-next meets.1;
      lowers = lowers_next;
      room_lower = length-set lower (k + 1) labels_below ∙ now.room_lower;
      room_below = length-set below (p + 1) size ∙ now.room_below;
      room_above = length-set above (q + 1) size ∙ now.room_above;
    })
      where
        lowers_next : (i : ℕ) → i < suc (suc k) → get_or (set lower (k + 1) labels_below) i 0 ≡ lower_size t (suc i)
        lowers_next i h = elim (eq_or_ne i (k + 1)) [
          | inl e ↦ let s : suc i ≡ suc (suc k) = omega arith in ap (λ (j : ℕ). get_or (set lower (k + 1) labels_below) j 0) e ∙ get_or-set_same lower (k + 1) labels_below 0 (omega (arith, now.room_lower)) ∙ sym lower_is ∙ ap (lower_size t) (sym s)
          | inr e ↦ get_or-set_other lower (k + 1) i labels_below 0 e ∙ now.lowers i (omega arith)
        ]

    -- ---- the same with what the code was told of the triple, and with what it chose
    module _ (turn : Turn) (says : Says u turn) {under over lower-now upper-now : ℕ} (under-is : under ≡ either turn.rises size (get_or below p 0))
        (over-is : over ≡ either turn.falls size (get_or above q 0)) (lower-now-is : lower-now ≡ either turn.below under 0)
        (upper-now-is : upper-now ≡ either turn.above over 0) where
      -- what is joined on one side, as it was chosen, is what the stack has at its top
      chosen_is : {b r x now : ℕ} (stack : List ℕ) (h : ℕ) (joins : Bool) (meets : ℕ) → b ≡ bit joins → r ≡ meets → meets ≤ 1 → h + 1 < length stack → x ≡ either r size (get_or stack h 0)
          → now ≡ either b x 0 → now ≡ bit joins * get_or (set stack (h + 1) size) (h + meets) 0
      chosen_is {x = x} stack h joins meets bs rs few room xs now_is = now_is ∙ ap (λ (b : ℕ). either b x 0) bs ∙ go joins
        where
          top : x ≡ get_or (set stack (h + 1) size) (h + meets) 0
          top = xs ∙ ap (λ (r : ℕ). either r size (get_or stack h 0)) rs ∙ either_top stack h size meets few room

          go : (joins : Bool) → either (bit joins) x 0 ≡ bit joins * get_or (set stack (h + 1) size) (h + meets) 0
          go true = omega (arith, top)
          go false = omega arith

      chosen_below : lower-now ≡ labels_below
      chosen_below = chosen_is below p (bits_of u down) (rises_by u) says.below_is says.rises_is (omega (arith, once_risen u)) (omega (arith, now.few, now.room_below)) under-is lower-now-is

      chosen_above : upper-now ≡ labels_above
      chosen_above = chosen_is above q (bits_of u up) (falls_by u) says.above_is says.falls_is (omega (arith, once_risen u)) (omega (arith, now.few, now.room_above)) over-is upper-now-is

      pub small : 1 + lower-now + upper-now ≤ 255
      small = omega (arith, small_plain, chosen_below, chosen_above)

      pub turned : Counted t (k + 1) (set lower (k + 1) lower-now) below_next above_next p-next q-next (1 + lower-now + upper-now)
      turned = subst₂ (λ (x y : ℕ). Counted t (k + 1) (set lower (k + 1) x) below_next above_next p-next q-next (1 + x + y)) (sym chosen_below) (sym chosen_above) turned_plain
