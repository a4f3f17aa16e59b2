-- The table of the walk in one line: of the runs that the new label meets below it and above it, those that it is joined to count no more.
-- Where it lies above the current run, that run is one more below it; where it lies below, one more above it.
use Rattle.std.specs.Prelude.{true, false, List, ◌≢◌, ◌≡◌, refl, ℕ, zero, suc, ◌+◌, ◌≤◌, ◌<◌, get_or, set}
use Rattle.std.proofs.Common.{inl, inr, sym, ap, ap₂, ◌∙◌, arith, add-zero, length-set, get_or-set_same, get_or-set_other}
use Rattle.finite.specs.Decide.{eq_or_ne}
use Rattle.bits.specs.Bit.{bit}
use Rattle.record.specs.Triple.{Triple, triple}
use Rattle.record.specs.Walk.{Counts, missing, counts, step, and_then, walk}
use Rattle.record.specs.Way.{up, down}
use Rattle.record.specs.TripleNumber.{triple_of}
use Rattle.record.specs.Decode.{bits_of}
use Rattle.steps.specs.declared.Turn.{Turn}
use Rattle.steps.specs.Passes.{Unpacked}
use Rattle.steps.specs.Turn.{Says, rises_by, falls_by}
use Rattle.steps.specs.Counts.{less}

-- one more triple is noted
pub unpacked_next : {t : ℕ → Triple} {k : ℕ} {numbers : List ℕ} (x : ℕ) → Unpacked t (suc k) numbers → k < 254 → x < 8
    → triple_of x ≡ t (suc (suc k)) → Unpacked t (suc (k + 1)) (set numbers k x)
unpacked_next {t} {k} {numbers} x u room small is = record { size = length-set numbers k x ∙ u.size; at = at }
  where
    at : (i : ℕ) → suc i < suc (k + 1) → (get_or (set numbers k x) i 0 < 8) × (triple_of (get_or (set numbers k x) i 0) ≡ t (suc (suc i)))
    at i h = elim (eq_or_ne i k) [
      | inl e ↦ let same : get_or (set numbers k x) i 0 ≡ x =
          ap (λ (j : ℕ). get_or (set numbers k x) j 0) e
          ∙ get_or-set_same numbers k x 0 (omega (arith, u.size)) in (
            omega arith,
            ap triple_of same ∙ is
                ∙ ap (λ (j : ℕ). t (suc (suc j))) (sym e),
          )
      | inr e ↦ let same = get_or-set_other numbers k i x 0 e in let old = u.at i (omega arith) in (omega arith, ap triple_of same ∙ old.1)
    ]

-- what the counts after a step from p and q have to do with those before it, where no run is missing
abbrev pub Meets : Triple → (p q : ℕ) → Counts → Type 0
Meets t p q missing = Unit
Meets t p q (counts p-next q-next) = (p-next + bit (bits_of t down) ≡ p + rises_by t) × (q-next + bit (bits_of t up) ≡ q + falls_by t)

pub step_meets : (t : Triple) (p q : ℕ) → Meets t p q (step t p q)
unfolding step
step_meets (triple false false false) p q = (omega arith, omega arith)
step_meets (triple false true false) p q = (omega arith, omega arith)
step_meets (triple true false false) p zero = tt
step_meets (triple true false false) p (suc q) = (omega arith, omega arith)
step_meets (triple true true false) p zero = tt
step_meets (triple true true false) p (suc q) = (omega arith, omega arith)
step_meets (triple false false true) p q = (omega arith, omega arith)
step_meets (triple true false true) p q = (omega arith, omega arith)
step_meets (triple false true true) zero q = tt
step_meets (triple false true true) (suc p) q = (omega arith, omega arith)
step_meets (triple true true true) zero q = tt
step_meets (triple true true true) (suc p) q = (omega arith, omega arith)

-- a walk that lacks a run does so to its end
pub missing_on : (t : ℕ → Triple) (k d : ℕ) → walk t k ≡ missing → walk t (k + d) ≡ missing
unfolding walk
missing_on t k zero e = ap (walk t) (add-zero k) ∙ e
missing_on t k (suc d) e =
    let s : k + suc d ≡ suc (k + d) = omega arith in
    ap (walk t) s ∙ ap (λ (c : Counts). and_then c (step (t (suc (suc (k + d)))))) (missing_on t k d e)

-- the number of other runs grows by at most one
pub once_risen : (t : Triple) → rises_by t + falls_by t ≡ 1
once_risen (triple first second false) = refl
once_risen (triple first second true) = refl

-- what the code was told of a triple is at most 1
pub rises_small : {t : Triple} {turn : Turn} → Says t turn → turn.rises ≤ 1
rises_small {t} s = omega (arith, s.rises_is, once_risen t)

pub falls_small : {t : Triple} {turn : Turn} → Says t turn → turn.falls ≤ 1
falls_small {t} s = omega (arith, s.falls_is, once_risen t)

-- ---- the rows, with 2 added to both counts
pub less_is : {x y p q : ℕ} → x ≡ suc (suc p) → y ≡ suc (suc q) → less x y ≡ counts p q
unfolding less
less_is e f = ap₂ less e f

pub less_below : (x y : ℕ) → x < 2 → less x y ≡ missing
unfolding less
less_below zero y h = refl
less_below (suc zero) y h = refl
less_below (suc (suc x)) y h = absurd (omega arith)

pub less_above : (x y : ℕ) → y < 2 → less x y ≡ missing
unfolding less
less_above zero y h = refl
less_above (suc zero) y h = refl
less_above (suc (suc x)) zero h = refl
less_above (suc (suc x)) (suc zero) h = refl
less_above (suc (suc x)) (suc (suc y)) h = absurd (omega arith)

-- the run that was current is one more on one side, and the runs joined count no more; one is missing where none is left to be joined
pub rows : (t : Triple) (p q x y : ℕ) → x + bit (bits_of t down) ≡ 2 + p + rises_by t → y + bit (bits_of t up) ≡ 2 + q + falls_by t
    → less x y ≡ step t p q
unfolding step
rows (triple false false false) p q x y e f = less_is (omega arith) (omega arith)
rows (triple false true false) p q x y e f = less_is (omega arith) (omega arith)
rows (triple true false false) p zero x y e f = less_above x y (omega arith)
rows (triple true false false) p (suc q) x y e f = less_is (omega arith) (omega arith)
rows (triple true true false) p zero x y e f = less_above x y (omega arith)
rows (triple true true false) p (suc q) x y e f = less_is (omega arith) (omega arith)
rows (triple false false true) p q x y e f = less_is (omega arith) (omega arith)
rows (triple true false true) p q x y e f = less_is (omega arith) (omega arith)
rows (triple false true true) zero q x y e f = less_below x y (omega arith)
rows (triple false true true) (suc p) q x y e f = less_is (omega arith) (omega arith)
rows (triple true true true) zero q x y e f = less_below x y (omega arith)
rows (triple true true true) (suc p) q x y e f = less_is (omega arith) (omega arith)

-- the last row is that of the number that is none of 0 to 6
pub seven : (x : ℕ) → x < 8 → (x ≢ 0) → (x ≢ 1) → (x ≢ 2) → (x ≢ 3) → (x ≢ 4) → (x ≢ 5) → (x ≢ 6) → x ≡ 7
seven x h a b c d e f g = last x h (four x a b c d) e f g
  where
    four : (x : ℕ) → (x ≢ 0) → (x ≢ 1) → (x ≢ 2) → (x ≢ 3) → 4 ≤ x
    four x a b c d = omega arith

    last : (x : ℕ) → x < 8 → 4 ≤ x → (x ≢ 4) → (x ≢ 5) → (x ≢ 6) → x ≡ 7
    last x h l e f g = omega arith
