-- A step of the walk on both counts in one number: where a run is missing its count comes to 0, and else the number is that of the new
-- counts.
use mathlib.Core.Logic.{◌⊎◌, inl, inr}
use mathlib.Core.Path.{◌≡◌, subst}
use Prim.Native.Nat.{ℕ, zero, suc, ◌+◌, ◌-◌, ◌*◌, ◌%◌, ◌≤◌, ◌<◌}
use native.Mathlib.Omega.{arith}
use Rattle.bits.specs.Bit.{bit}
use Rattle.record.specs.Triple.{Triple}
use Rattle.record.specs.Way.{up, down}
use Rattle.record.specs.Decode.{bits_of}
use Rattle.record.specs.Walk.{Counts, missing, counts, step}
use Rattle.record.specs.Read.{Missing}
use Rattle.steps.specs.Turn.{rises_by, falls_by}
use Rattle.steps.specs.Counts.{less}
use Rattle.steps.specs.Told.{bit_le}
use Rattle.steps.specs.Table.{once_risen, rows}
use Rattle.replaying.specs.Packed.{packed, row_of}

-- one of the counts is less than none
abbrev pub Lacks : ℕ → Type 0
Lacks n = (n % 256 ≡ 0) ⊎ (n < 256)

abbrev pub Lands : ℕ → Counts → Type 0
Lands n missing = Lacks n
Lands n (counts p q) = (n ≡ 257 + p + 256 * q) × (p < 255)

-- the counts after the step, each with 1 added, by the table with 2 added
lands_less : (x y n : ℕ) → 1 ≤ x → 1 ≤ y → x ≤ 256 → n ≡ x - 1 + 256 * (y - 1) → Lands n (less x y)
unfolding less
lands_less zero y n a b few e = absurd (omega arith)
lands_less (suc x) zero n a b few e = absurd (omega arith)
lands_less (suc zero) (suc y) n a b few e = inl (omega arith)
lands_less (suc (suc x)) (suc zero) n a b few e = inr (omega arith)
lands_less (suc (suc x)) (suc (suc y)) n a b few e = (omega arith, omega arith)

pub lands : (t : Triple) (p q : ℕ) → p + q < 254 → Lands (257 + p + 256 * q + row_of t - 256) (step t p q)
lands t p q few =
    let low = bit_le (bits_of t down) in
    let high = bit_le (bits_of t up) in
    let once = once_risen t in
    let x : ℕ = 2 + p + rises_by t - bit (bits_of t down) in
    let y : ℕ = 2 + q + falls_by t - bit (bits_of t up) in
    let same : less x y ≡ step t p q = rows t p q x y (omega (arith, low)) (omega (arith, high)) in
    let sum : 257 + p + 256 * q + row_of t - 256 ≡ x - 1 + 256 * (y - 1) = omega (arith, low, high, once) in
    subst (Lands (257 + p + 256 * q + row_of t - 256)) same
    (lands_less x y _ (omega (arith, low)) (omega (arith, high)) (omega (arith, once)) sum)

pub lands_missing : (n : ℕ) (c : Counts) → Lands n c → Lacks n → Missing c
lands_missing n missing l h = tt
lands_missing n (counts p q) (e, few) (inl h) = absurd (omega arith)
lands_missing n (counts p q) (e, few) (inr h) = absurd (omega arith)

pub lands_there : (n : ℕ) (c : Counts) → Lands n c → ¬ Lacks n → (¬ Missing c) × (n ≡ packed c)
lands_there n missing l h = absurd (h l)
lands_there n (counts p q) (e, few) h = ((λ z. z), e)
