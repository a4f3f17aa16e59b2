-- The forward pass, of the positions: what it has on one side of the current run after k turns, and what one more turn leaves. The new label meets the current run, whose
-- newest position is k + 1, on the side from which it turned away, and the runs beside it on the other.
use mathlib.Core.Bool.{Bool, true, false}
use mathlib.Core.List.{List, ◌∷◌}
use mathlib.Core.Logic.{inl, inr}
use mathlib.Core.Path.{◌≡◌, refl, sym, ap, subst, ◌∙◌}
use Prim.Native.Nat.{ℕ, zero, suc, ◌+◌, ◌<◌}
use native.Mathlib.Omega.{arith}
use native.Mathlib.Numerals.{add-one}
use lib.ListN.{length, get_or, set, length-set}
use lib.Seq.{get_or-set_same, get_or-set_other}
use Rattle.bits.specs.Bit.{bit}
use Rattle.finite.specs.Decide.{eq_or_ne}
use Rattle.record.specs.Triple.{Triple, triple}
use Rattle.record.specs.Way.{Way, up, down}
use Rattle.record.specs.Sides.{rest_of}
use Rattle.record.specs.Decode.{bits_of}
use Rattle.record.specs.Positions.{first_of, newest_ahead, newest_after, newest_met, pushed}
use Rattle.steps.specs.Turn.{meets_by}
use Rattle.steps.specs.Stack.{stack_of, stack_pushed, rest_stack, first_top}

pub record Placed (t : ℕ → Triple) (k : ℕ) (way : Way) (starts newest : List ℕ) (height : ℕ) : Type 0 where
  pub stack_is : newest_after t k way ≡ stack_of newest height
  pub none_is : get_or newest 0 0 ≡ 0
  pub starts_are : (i : ℕ) → i < suc k → get_or starts i 0 ≡ newest_met t (suc i) way
  pub room_starts : length starts ≡ 255
  pub room_newest : length newest ≡ 255

pub placed_first : (t : ℕ → Triple) (way : Way) (starts newest : List ℕ) → length starts ≡ 255 → length newest ≡ 255 → get_or newest 0 0 ≡ 0 → Placed t 0 way (set starts 0 0) newest 0
unfolding newest_after newest_met stack_of
placed_first t way starts newest long room none = record {
  stack_is = refl;
  none_is = none;
  starts_are = first;
  room_starts = length-set starts 0 0 ∙ long;
  room_newest = room;
}
  where
    first : (i : ℕ) → i < 1 → get_or (set starts 0 0) i 0 ≡ newest_met t (suc i) way
    first zero h = get_or-set_same starts 0 0 0 (omega arith)
    first (suc i) h = absurd (omega arith)

module _ {t : ℕ → Triple} {k : ℕ} {way : Way} {starts newest : List ℕ} {h : ℕ} (now : Placed t k way starts newest h) (more : k < 254) (room : h + 1 < 255) where
  abbrev u : Triple
  u = t (suc (suc k))

  abbrev newest_next : List ℕ
  newest_next = set newest (h + 1) (k + 1)

  -- the newest positions of the runs that the new label meets
  meets : newest_ahead u k (newest_after t k) way ≡ stack_of newest_next (h + meets_by u way)
  meets = go u way now.stack_is
    where
      put : (b : Bool) → stack_of newest_next (h + bit b) ≡ pushed b (suc k) (stack_of newest h)
      put b = stack_pushed b newest h (k + 1) (omega (arith, now.room_newest)) ∙ ap (λ (x : ℕ). pushed b x (stack_of newest h)) (add-one k)

      go : (u : Triple) (way : Way) → newest_after t k way ≡ stack_of newest h → newest_ahead u k (newest_after t k) way ≡ stack_of newest_next (h + meets_by u way)
      go (triple first second false) up e = e ∙ sym (put false)
      go (triple first second false) down e = ap (λ (xs : List ℕ). suc k ∷ xs) e ∙ sym (put true)
      go (triple first second true) up e = ap (λ (xs : List ℕ). suc k ∷ xs) e ∙ sym (put true)
      go (triple first second true) down e = e ∙ sym (put false)

  pub placed_next : (h-next met : ℕ) → met ≡ meets_by u way → h-next + bit (bits_of u way) ≡ h + meets_by u way
      → Placed t (k + 1) way (set starts (k + 1) (get_or newest_next (h + met) 0)) newest_next h-next
  unfolding newest_after newest_met
  placed_next h-next met is left = subst (λ (j : ℕ). Placed t j way starts_next newest_next h-next) (sym (add-one k)) (record {
    stack_is = ap (rest_of (bits_of u way)) meets ∙ rest_stack (bits_of u way) newest_next (h + meets_by u way) h-next left;
    none_is = none;
    starts_are = starts_are;
    room_starts = length-set starts (k + 1) start ∙ now.room_starts;
    room_newest = length-set newest (h + 1) (k + 1) ∙ now.room_newest;
  })
    where
      start : ℕ
      start = get_or newest_next (h + met) 0

      starts_next : List ℕ
      starts_next = set starts (k + 1) start

      none : get_or newest_next 0 0 ≡ 0
      none = get_or-set_other newest (h + 1) 0 (k + 1) 0 (omega arith) ∙ now.none_is

      start_is : start ≡ newest_met t (suc (suc k)) way
      start_is = ap (λ (x : ℕ). get_or newest_next (h + x) 0) is ∙ sym (first_top newest_next (h + meets_by u way) none) ∙ ap first_of (sym meets)

      starts_are : (i : ℕ) → i < suc (suc k) → get_or starts_next i 0 ≡ newest_met t (suc i) way
      starts_are i l = elim (eq_or_ne i (k + 1)) [
        | inl e ↦ let s : suc i ≡ suc (suc k) = omega arith in ap (λ (j : ℕ). get_or starts_next j 0) e ∙ get_or-set_same starts (k + 1) start 0 (omega (arith, now.room_starts)) ∙ start_is ∙ ap (λ (j : ℕ). newest_met t j way) (sym s)
        | inr e ↦ get_or-set_other starts (k + 1) i start 0 e ∙ now.starts_are i (omega arith)
      ]
