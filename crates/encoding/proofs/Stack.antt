-- A stack of labels in an array: place 0 holds a label that no label lies past, places 1 to h one label of each run, the nearest run's at h.
use mathlib.Core.Bool.{Bool}
use mathlib.Core.List.{List, [], ◌∷◌}
use mathlib.Core.Path.{◌≡◌, refl, sym, ap, subst, ◌∙◌}
use Prim.Native.Nat.{ℕ, zero, suc, ◌+◌, ◌<◌}
use native.Mathlib.Omega.{arith}
use lib.ListN.{length, get_or, set}
use lib.Seq.{get_or-set_same, get_or-set_other}
use Rattle.record.specs.declared.Label.{Label}
use Rattle.record.specs.Way.{Way, up, down, Past}
use Rattle.record.specs.Sides.{Run}
use Rattle.record.specs.Runs.{Runs, current_run, ahead}
use Rattle.record.proofs.Forward.{Takes, leave, take}
use Rattle.encoding.specs.Picks.{Within, Picks, none, one, Nearest, beyond, picked}

abbrev pub label_in : List Label → ℕ → ℕ
label_in s i = (get_or s i (record { 0 = 0 })).0

-- the labels in use, from the top
unfoldable pub stack_of : List Label → ℕ → List ℕ
stack_of s zero = []
stack_of s (suc h) = label_in s (suc h) ∷ stack_of s h

-- the label at the top is the nearest run's
pub nearest_of : {way : Way} {v : ℕ} (s : List Label) (h : ℕ) {rs : List Run} → ¬ Past way (label_in s 0) v → Picks way (stack_of s h) rs → Nearest way (label_in s h) v rs
unfolding stack_of
nearest_of s zero floor none = beyond floor
nearest_of s (suc h) floor (one w p) = picked w

label_set : (s : List Label) (i : ℕ) (x : Label) → i < length s → label_in (set s i x) i ≡ x.0
label_set s i x h = ap (λ (l : Label). l.0) (get_or-set_same s i x (record { 0 = 0 }) h)

pub label_kept : (s : List Label) (i j : ℕ) (x : Label) → j < i → label_in (set s i x) j ≡ label_in s j
label_kept s i j x h = ap (λ (l : Label). l.0) (get_or-set_other s i j x (record { 0 = 0 }) (omega arith))

stack_kept : (s : List Label) (i h : ℕ) (x : Label) → h < i → stack_of (set s i x) h ≡ stack_of s h
unfolding stack_of
stack_kept s i zero x l = refl
stack_kept s i (suc h) x l = λ j. label_kept s i (suc h) x l j ∷ stack_kept s i h x (omega arith) j

module _ {way : Way} (z : Runs) (s : List Label) (h : ℕ) (x : Label) (room : h + 1 < length s) (size : h ≡ length (z.stack way)) (picks : Picks way (stack_of s h) (z.stack way))
    (inside : Within way x.0 (current_run z way)) where
  kept : Picks way (stack_of (set s (h + 1) x) (length (z.stack way))) (z.stack way)
  kept = subst (λ (n : ℕ). Picks way (stack_of (set s (h + 1) x) n) (z.stack way)) size (subst (λ (ys : List ℕ). Picks way ys (z.stack way)) (sym (stack_kept s (h + 1) h x (omega arith))) picks)

  pushed : Picks way (stack_of (set s (h + 1) x) (suc (length (z.stack way)))) (current_run z way ∷ z.stack way)
  unfolding stack_of
  pushed = one (subst (λ (y : ℕ). Within way y (current_run z way)) (sym top) inside) kept
    where
      top : label_in (set s (h + 1) x) (suc (length (z.stack way))) ≡ x.0
      top = let e : suc (length (z.stack way)) ≡ h + 1 = omega arith in ap (label_in (set s (h + 1) x)) e ∙ label_set s (h + 1) x room

-- with the last label pushed, the stack has a label of each run that the new one meets
pub picks_ahead : (turn way : Way) (z : Runs) (s : List Label) (h : ℕ) (x : Label) → h + 1 < length s → h ≡ length (z.stack way) → Picks way (stack_of s h) (z.stack way)
    → Within way x.0 (current_run z way) → Picks way (stack_of (set s (h + 1) x) (length (ahead turn z way))) (ahead turn z way)
picks_ahead up up z s h x a b c d = kept z s h x a b c d
picks_ahead up down z s h x a b c d = pushed z s h x a b c d
picks_ahead down up z s h x a b c d = pushed z s h x a b c d
picks_ahead down down z s h x a b c d = kept z s h x a b c d

-- and of each that is left
pub picks_take : {way : Way} {bit : Bool} {rs rest : List Run} (s : List Label) → Takes bit rs rest → Picks way (stack_of s (length rs)) rs → Picks way (stack_of s (length rest)) rest
unfolding stack_of
picks_take s leave p = p
picks_take s take (one w p) = p
