-- A stack of numbers in an array: places 1 to h are in use, and the top is at h.
use Rattle.std.specs.Prelude.{Bool, true, false, List, [], ◌∷◌, ◌≡◌, refl, ℕ, zero, suc, ◌+◌, ◌-◌, ◌*◌, ◌≤◌, ◌<◌, length, get_or, set}
use Rattle.std.proofs.Common.{sym, ap, ◌∙◌, arith, add-zero, add-one, get_or-set_same, get_or-set_other}
use Rattle.bits.specs.Bit.{bit}
use Rattle.record.specs.Sides.{rest_of}
use Rattle.record.specs.Decode.{joined_size}
use Rattle.record.specs.Positions.{first_of, pushed}

-- the numbers in use, from the top
unfoldable pub stack_of : List ℕ → ℕ → List ℕ
stack_of s zero = []
stack_of s (suc h) = get_or s (suc h) 0 ∷ stack_of s h

pub length_stack : (s : List ℕ) (h : ℕ) → length (stack_of s h) ≡ h
unfolding stack_of
length_stack s zero = refl
length_stack s (suc h) = ap suc (length_stack s h)

stack_kept : (s : List ℕ) (i h x : ℕ) → h < i → stack_of (set s i x) h ≡ stack_of s h
unfolding stack_of
stack_kept s i zero x l = refl
stack_kept s i (suc h) x l = λ j. get_or-set_other s i (suc h) x 0 (omega arith) j ∷ stack_kept s i h x (omega arith) j

-- the number is stored above the top in any case; it is in use where it counts as pushed
pub stack_pushed : (b : Bool) (s : List ℕ) (h x : ℕ) → h + 1 < length s → stack_of (set s (h + 1) x) (h + bit b) ≡ pushed b x (stack_of s h)
unfolding stack_of
stack_pushed false s h x l = ap (stack_of (set s (h + 1) x)) (add-zero h) ∙ stack_kept s (h + 1) h x (omega arith)
stack_pushed true s h x l = ap (stack_of (set s (h + 1) x)) (add-one h) ∙ (λ j. top j ∷ stack_kept s (h + 1) h x (omega arith) j)
  where
    top : get_or (set s (h + 1) x) (suc h) 0 ≡ x
    top = ap (λ (i : ℕ). get_or (set s (h + 1) x) i 0) (sym (add-one h)) ∙ get_or-set_same s (h + 1) x 0 l

-- the run that is joined is at the top, and the others stay
pub joined_top : (b : Bool) (s : List ℕ) (h : ℕ) → bit b ≤ h → joined_size b (stack_of s h) ≡ bit b * get_or s h 0
unfolding stack_of joined_size
joined_top false s h l = omega arith
joined_top true s zero l = absurd (omega arith)
joined_top true s (suc h) l = omega arith

pub rest_stack : (b : Bool) (s : List ℕ) (h left : ℕ) → left + bit b ≡ h → rest_of b (stack_of s h) ≡ stack_of s left
unfolding stack_of rest_of
rest_stack false s h left e = let same : h ≡ left = omega arith in ap (stack_of s) same
rest_stack true s zero left e = absurd (omega arith)
rest_stack true s (suc h) left e = let same : h ≡ left = omega arith in ap (stack_of s) same

-- one of two numbers, as a bit says
abbrev pub either : (b x y : ℕ) → ℕ
either b x y = b * x + (1 - b) * y

-- what is at the top after a number was stored above it: that number where it counts as pushed, else what was at the top
pub either_top : (s : List ℕ) (h x b : ℕ) → b ≤ 1 → h + 1 < length s → either b x (get_or s h 0) ≡ get_or (set s (h + 1) x) (h + b) 0
either_top s h x zero small l = omega (arith, ap (λ (i : ℕ). get_or (set s (h + 1) x) i 0) (add-zero h), get_or-set_other s (h + 1) h x 0 (omega arith))
either_top s h x (suc zero) small l = omega (arith, get_or-set_same s (h + 1) x 0 l)
either_top s h x (suc (suc b)) small l = absurd (omega arith)

-- the top, or the 0 under the stack
pub first_top : (s : List ℕ) (h : ℕ) → get_or s 0 0 ≡ 0 → first_of (stack_of s h) ≡ get_or s h 0
unfolding stack_of first_of
first_top s zero none = sym none
first_top s (suc h) none = refl
