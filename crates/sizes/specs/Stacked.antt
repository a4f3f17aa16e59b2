-- A stack of lines, that of each run on one side of the current one, after k turns of the walk: each line is that of the run's newest room.
-- A turn stores the current run's line above the top, whether the new room meets that run or not.
use Rattle.std.specs.Prelude.{Bool, ◌≡◌, refl, ℕ, suc, ◌+◌, ◌*◌, ◌<◌, length, get_or, set, replicate}
use Rattle.std.proofs.Math.Bool.{true, false}
use mathlib.Core.List.{List, [], ◌∷◌}
use Rattle.std.proofs.Common.{sym, ap, ◌∙◌, arith, add-one, get_or-set_other}
use Rattle.std.proofs.Math.Path.{subst}
use Rattle.std.proofs.Math.ListN.{length-set}
use Rattle.bits.specs.Bit.{bit}
use Rattle.record.specs.Triple.{Triple, triple}
use Rattle.record.specs.Way.{Way, up, down}
use Rattle.record.specs.Sides.{rest_of}
use Rattle.record.specs.Decode.{bits_of}
use Rattle.record.specs.Positions.{first_of, newest_ahead, newest_after, newest_met, pushed}
use Rattle.steps.specs.Turn.{meets_by}
use Rattle.steps.specs.Stack.{stack_of, stack_pushed, rest_stack, first_top}

-- lines and rooms, one for one
pub data Matches (R : (room line : ℕ) → Type 0) : (lines rooms : List ℕ) → Type 0 where
  none : Matches R [] []
  more : {line room : ℕ} {lines rooms : List ℕ} → R room line → Matches R lines rooms → Matches R (line ∷ lines) (room ∷ rooms)

module _ (R : (room line : ℕ) → Type 0) where
  matches_pushed : (b : Bool) (line room : ℕ) {lines rooms : List ℕ} → R room line → Matches R lines rooms
      → Matches R (pushed b line lines) (pushed b room rooms)
  matches_pushed true line room r m = more r m
  matches_pushed false line room r m = m

  matches_rest : (b : Bool) {lines rooms : List ℕ} → Matches R lines rooms → Matches R (rest_of b lines) (rest_of b rooms)
  unfolding rest_of
  matches_rest false m = m
  matches_rest true none = none
  matches_rest true (more r m) = m

  matches_first : {lines rooms : List ℕ} → R 0 0 → Matches R lines rooms → R (first_of rooms) (first_of lines)
  unfolding first_of
  matches_first z none = z
  matches_first z (more r m) = r

-- the stack on one side of the current run
pub record Stacked (t : ℕ → Triple) (k : ℕ) (side : Way) (R : (room line : ℕ) → Type 0) (stack : List ℕ) (height : ℕ) : Type 0 where
  pub stack_is : Matches R (stack_of stack height) (newest_after t k side)
  pub none_is : get_or stack 0 0 ≡ 0
  pub room : length stack ≡ 256

pub stacked_first : (t : ℕ → Triple) (side : Way) (R : (room line : ℕ) → Type 0) → Stacked t 0 side R (replicate 256 0) 0
unfolding stack_of newest_after
stacked_first t side R = record { stack_is = none; none_is = refl; room = refl }

module _ {t : ℕ → Triple} {k : ℕ} {side : Way} {R : (room line : ℕ) → Type 0} {stack : List ℕ} {h : ℕ} (now : Stacked t k side R stack h)
    (low : h + 1 < 256) {line : ℕ} (current : R (suc k) line) where
  abbrev u : Triple
  u = t (suc (suc k))

  abbrev next : List ℕ
  next = set stack (h + 1) line

  -- the lines of the runs that the new room meets
  ahead : Matches R (stack_of next (h + meets_by u side)) (newest_ahead u k (newest_after t k) side)
  ahead = go u side now.stack_is
    where
      put : (b : Bool) {rooms : List ℕ} → Matches R (stack_of stack h) rooms → Matches R (stack_of next (h + bit b)) (pushed b (suc k) rooms)
      put b {rooms} m =
          subst (λ (lines : List ℕ). Matches R lines (pushed b (suc k) rooms)) (sym (stack_pushed b stack h line (omega (arith, now.room)))) (matches_pushed R b line (suc k) current m)

      go : (u : Triple) (side : Way) → Matches R (stack_of stack h) (newest_after t k side)
          → Matches R (stack_of next (h + meets_by u side)) (newest_ahead u k (newest_after t k) side)
      go (triple first second false) up m = put false m
      go (triple first second false) down m = put true m
      go (triple first second true) up m = put true m
      go (triple first second true) down m = put false m

  none_next : get_or next 0 0 ≡ 0
  none_next = get_or-set_other stack (h + 1) 0 line 0 (omega arith) ∙ now.none_is

  -- the top is the line of the newest room that the new one meets
  pub top_is : R 0 0 → R (newest_met t (suc (suc k)) side) (get_or next (h + meets_by u side) 0)
  unfolding newest_met
  top_is z = subst (R (newest_met t (suc (suc k)) side)) (first_top next (h + meets_by u side) none_next) (matches_first R z ahead)

  -- which is chosen by a bit
  pub chosen_top : (b : Bool) {at : ℕ} → at ≡ bit b * (h + meets_by u side) → get_or next at 0 ≡ bit b * get_or next (h + meets_by u side) 0
  chosen_top true {at} e = let here : at ≡ h + meets_by u side = omega arith in omega (arith, ap (λ (i : ℕ). get_or next i 0) here)
  chosen_top false {at} e = let here : at ≡ 0 = omega arith in omega (arith, ap (λ (i : ℕ). get_or next i 0) here, none_next)

  pub stacked_next : (h-next : ℕ) → h-next + bit (bits_of u side) ≡ h + meets_by u side → Stacked t (k + 1) side R next h-next
  unfolding newest_after
  stacked_next h-next left = subst (λ (j : ℕ). Stacked t j side R next h-next) (sym (add-one k)) (record {
    stack_is = subst (λ (lines : List ℕ). Matches R lines (newest_after t (suc k) side))
        (rest_stack (bits_of u side) next (h + meets_by u side) h-next left) (matches_rest R (bits_of u side) ahead);
    none_is = none_next;
    room = length-set stack (h + 1) line ∙ now.room;
  })
