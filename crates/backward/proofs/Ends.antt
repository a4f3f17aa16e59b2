-- The ends from the end. Between two turns the stacks hold the end of each run beside the current one, nearest first; a turn puts the current run's on them as its
-- bits say, the one on top is that of the run looked back at, and on the side of the turn the label itself is the first to lie beyond it.
use mathlib.Core.Bool.{true, false}
use mathlib.Core.List.{List}
use mathlib.Core.Path.{◌≡◌, refl, sym, ap, subst, subst₂, ◌∙◌}
use Prim.Native.Nat.{ℕ, zero, suc, ◌+◌, ◌-◌, ◌≤◌, ◌<◌}
use native.Mathlib.Omega.{arith}
use lib.ListN.{length, get_or, set, length-set, replicate, length-replicate}
use Rattle.bits.specs.Bit.{bit}
use Rattle.finite.specs.Fill.{filling_none, filling_down}
use Rattle.record.specs.Triple.{Triple, triple}
use Rattle.record.specs.Way.{up, down}
use Rattle.record.specs.Decode.{bits_of, label_of}
use Rattle.record.specs.Positions.{first_of, others_of, Entered, pushed, entered_met, entered_before, entered_but}
use Rattle.steps.specs.declared.Turn.{Turn}
use Rattle.steps.specs.Turn.{Says, rises_by, falls_by}
use Rattle.backward.specs.Written.{end_at, Written}
use Rattle.steps.specs.Stack.{stack_of, stack_pushed, either}
use Rattle.steps.specs.Told.{turn_for, says_turn}
use Rattle.backward.proofs.Within.{entered_small}

-- ---- the stacks
-- y is held by the two stacks, of heights p and q, and the ends of the current run
pub record Ends (y : Entered) (tops rights : List ℕ) (p q end-up end-right : ℕ) : Type 0 where
  pub up_is : y.current down ≡ end-up
  pub right_is : y.current up ≡ end-right
  pub tops_are : y.others down ≡ stack_of tops p
  pub rights_are : y.others up ≡ stack_of rights q
  pub tops_long : length tops ≡ 255
  pub rights_long : length rights ≡ 255

first_top : (s : List ℕ) (h : ℕ) → 1 ≤ h → first_of (stack_of s h) ≡ get_or s h 0
unfolding first_of stack_of
first_top s zero some = absurd (omega arith)
first_top s (suc h) some = refl

others_stack : (s : List ℕ) (h : ℕ) → others_of (stack_of s h) ≡ stack_of s (h - 1)
unfolding stack_of
others_stack s zero = refl
others_stack s (suc h) = let e : h ≡ suc h - 1 = omega arith in ap (stack_of s) e

-- a turn, by its triple
module _ {y : Entered} {tops rights : List ℕ} {p q end-up end-right : ℕ} (s : Ends y tops rights p q end-up end-right) (room_below : p + 1 < 255) (room_above : q + 1 < 255) where
  abbrev tops_next : List ℕ
  tops_next = set tops (p + 1) end-up

  abbrev rights_next : List ℕ
  rights_next = set rights (q + 1) end-right

  met_below : (u : Triple) → entered_met u y down ≡ stack_of tops_next (p + bit (bits_of u down))
  met_below u = (λ k. pushed (bits_of u down) (s.up_is k) (s.tops_are k)) ∙ sym (stack_pushed (bits_of u down) tops p end-up (omega (arith, s.tops_long)))

  met_above : (u : Triple) → entered_met u y up ≡ stack_of rights_next (q + bit (bits_of u up))
  met_above u = (λ k. pushed (bits_of u up) (s.right_is k) (s.rights_are k)) ∙ sym (stack_pushed (bits_of u up) rights q end-right (omega (arith, s.rights_long)))

  -- the ends of the current run are as the code chooses them
  ends_out : (u : Triple) (i : ℕ) → rises_by u ≤ p + bit (bits_of u down) → falls_by u ≤ q + bit (bits_of u up)
      → Ends (entered_before u i y) tops_next rights_next (p + bit (bits_of u down) - rises_by u) (q + bit (bits_of u up) - falls_by u)
      (either (falls_by u) i (get_or tops_next (p + bit (bits_of u down)) 0)) (either (rises_by u) i (get_or rights_next (q + bit (bits_of u up)) 0))
  unfolding entered_before
  ends_out (triple first second false) i enough_below enough_above =
      let under = p + bit second in
      let over = q + bit first in
      let e : over ≡ over - 0 = omega arith in
      record {
        up_is = ap first_of (met_below (triple first second false)) ∙ first_top tops_next under enough_below ∙ omega arith;
        right_is = omega arith;
        tops_are = ap others_of (met_below (triple first second false)) ∙ others_stack tops_next under;
        rights_are = met_above (triple first second false) ∙ ap (stack_of rights_next) e;
        tops_long = length-set tops (p + 1) end-up ∙ s.tops_long;
        rights_long = length-set rights (q + 1) end-right ∙ s.rights_long;
      }
  ends_out (triple first second true) i enough_below enough_above =
      let under = p + bit second in
      let over = q + bit first in
      let e : under ≡ under - 0 = omega arith in
      record {
        up_is = omega arith;
        right_is = ap first_of (met_above (triple first second true)) ∙ first_top rights_next over enough_above ∙ omega arith;
        tops_are = met_below (triple first second true) ∙ ap (stack_of tops_next) e;
        rights_are = ap others_of (met_above (triple first second true)) ∙ others_stack rights_next over;
        tops_long = length-set tops (p + 1) end-up ∙ s.tops_long;
        rights_long = length-set rights (q + 1) end-right ∙ s.rights_long;
      }

-- ---- the loop
-- where index i comes next, the stacks hold what stands after the positions up to it
abbrev pub EndsAt : (ℕ → Triple) → (n i : ℕ) → (tops rights : List ℕ) (p q end-up end-right : ℕ) → Type 0
EndsAt t n i = Ends (entered_but t n (n - suc i))

pub ends_first : (t : ℕ → Triple) (n : ℕ) → 1 ≤ n → EndsAt t n (n - 1) (replicate 255 0) (replicate 255 0) 0 0 n n
unfolding entered_but stack_of
ends_first t n some = let start : 0 ≡ n - suc (n - 1) = omega arith in subst (λ (d : ℕ). Ends (entered_but t n d) (replicate 255 0) (replicate 255 0) 0 0 n n) start (record {
  up_is = refl;
  right_is = refl;
  tops_are = refl;
  rights_are = refl;
  tops_long = length-replicate {A = ℕ} 255 0;
  rights_long = length-replicate {A = ℕ} 255 0;
})

entered_before_lem : (t : ℕ → Triple) (n i : ℕ) → 0 < i → i < n → entered_before (t (suc (suc (i - 1)))) i (entered_but t n (n - suc i)) ≡ entered_but t n (n - suc (i - 1))
unfolding entered_but
entered_before_lem t n i more within =
    let e : suc (n - suc i) ≡ n - suc (i - 1) = omega arith in
    let k : suc (suc (i - 1)) ≡ n - (n - suc i) = omega arith in
    let l : i ≡ n - (n - suc i) - 1 = omega arith in
    (λ j. entered_before (t (k j)) (l j) (entered_but t n (n - suc i))) ∙ ap (entered_but t n) e

module _ (t : ℕ → Triple) (n i : ℕ) {tops rights : List ℕ} {p q end-up end-right : ℕ} (s : EndsAt t n i tops rights p q end-up end-right) (room_below : p + 1 < 255) (room_above : q + 1 < 255)
    (more : 0 < i) (within : i < n) where
  abbrev u : Triple
  u = t (suc (suc (i - 1)))

  -- what the turn leaves, by what the code was told of its triple
  abbrev EndsBefore : Turn → (up_next right-next : ℕ) → Type 0
  EndsBefore turn = EndsAt t n (i - 1) (set tops (p + 1) end-up) (set rights (q + 1) end-right) (p + turn.below - turn.rises) (q + turn.above - turn.falls)

  abbrev Leaves : Turn → Type 0
  Leaves turn = turn.rises ≤ p + turn.below → turn.falls ≤ q + turn.above
      → EndsBefore turn (either turn.falls i (get_or (set tops (p + 1) end-up) (p + turn.below) 0)) (either turn.rises i (get_or (set rights (q + 1) end-right) (q + turn.above) 0))

  leaves : Leaves (turn_for u)
  unfolding turn_for
  leaves b a = rw (entered_before_lem t n i more within) at (ends_out s room_below room_above u i b a)

  pub ends_turned : {turn : Turn} {up_next right-next : ℕ} → Says u turn → turn.rises ≤ p + turn.below → turn.falls ≤ q + turn.above
      → up_next ≡ either turn.falls i (get_or (set tops (p + 1) end-up) (p + turn.below) 0) → right-next ≡ either turn.rises i (get_or (set rights (q + 1) end-right) (q + turn.above) 0)
      → EndsBefore turn up_next right-next
  ends_turned {turn} says enough_below enough_above e d = subst₂ (EndsBefore turn) (sym e) (sym d) (subst Leaves (says_turn says) leaves enough_below enough_above)

-- no end is above n
pub ends_small : (t : ℕ → Triple) (n i : ℕ) {tops rights : List ℕ} {p q end-up end-right : ℕ} → EndsAt t n i tops rights p q end-up end-right → (end-up ≤ n) × (end-right ≤ n)
ends_small t n i s = let w = entered_small t n (n - suc i) in (omega (arith, s.up_is, w.current down), omega (arith, s.right_is, w.current up))

-- ---- what is written
pub written_first : (t : ℕ → Triple) (n : ℕ) (labels right top : List ℕ) → Written t n n labels right top labels right top
written_first t n labels right top = record {
  labels_are = filling_none (λ i. label_of t n (suc i)) n labels;
  rights_are = filling_none (end_at t n up) n right;
  tops_are = filling_none (end_at t n down) n top;
}

-- at index i comes one more of each
module _ {t : ℕ → Triple} {n : ℕ} {labels₀ right₀ top₀ labels right top : List ℕ} (long-labels : n ≤ length labels₀) (long-right : n ≤ length right₀)
    (long-top : n ≤ length top₀) {tops rights : List ℕ} {p q end-up end-right label : ℕ} where
  pub written_on : {i k : ℕ} → Written t n k labels₀ right₀ top₀ labels right top → k ≡ suc i → i < n → EndsAt t n i tops rights p q end-up end-right → label ≡ label_of t n (suc i)
      → Written t n i labels₀ right₀ top₀ (set labels i label) (set right i end-right) (set top i end-up)
  written_on {i} behind next within s l =
      let w = subst (λ (a : ℕ). Written t n a labels₀ right₀ top₀ labels right top) next behind in
      record {
        labels_are = filling_down label w.labels_are within (omega arith) l;
        rights_are = filling_down end-right w.rights_are within (omega arith) (sym s.right_is);
        tops_are = filling_down end-up w.tops_are within (omega arith) (sym s.up_is);
      }
