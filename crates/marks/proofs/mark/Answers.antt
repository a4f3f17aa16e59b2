-- `mark` meets its contract: the bit is set by an or, which changes the byte exactly if the bit was 0.
use mathlib.Core.Logic.{inl, inr}
use mathlib.Core.List.{List}
use mathlib.Core.Path.{◌≡◌, refl, subst}
use Prim.Native.Nat.{ℕ, ◌+◌, ◌*◌, ◌/◌, ◌%◌, ◌^◌}
use native.Mathlib.Omega.{arith}
use lib.Bits.{bit_or}
use lib.Dec.{eqb}
use lib.ListN.{get_or}
use lib.Pow.{pow_pos}
use Rattle.finite.specs.BitTable.{digit, or_digit}
use Rattle.finite.specs.Decide.{Tells, tells_iff, tells_equal, eq_or_ne}
use borrow.Author.Rules.{rules}
use Rattle.marks.proofs.mark.Goals as goal

-- an or with a bit changes nothing exactly if the bit is there
or-tells : (x j : ℕ) → Tells (eqb x (bit_or x (1 * 2 ^ j))) (digit x j ≡ 1)
or-tells x j =
    tells_iff (x ≡ bit_or x (1 * 2 ^ j)) (digit x j ≡ 1) (eqb x (bit_or x (1 * 2 ^ j)))
    (λ same. elim (eq_or_ne (digit x j) 1) [
      | inl one ↦ one
      | inr not ↦
          let none : digit x j ≡ 0 = omega arith in
          let e = added 0 none in absurd (omega (arith, e, pow_pos j))
    ])
    (λ one. let e = added 1 one in omega (arith, e))
    (tells_equal x (bit_or x (1 * 2 ^ j)))
  where
    added : (d : ℕ) → digit x j ≡ d → bit_or x (1 * 2 ^ j) + d * 2 ^ j ≡ x + 1 * 2 ^ j
    added d is = subst (λ (d : ℕ). bit_or x (1 * 2 ^ j) + d * 2 ^ j ≡ x + 1 * 2 ^ j) is (or_digit x j)

pub returns-clause-was : goal.returns-clause-was
returns-clause-was c =
    let a = c.args in
    let seen : List ℕ = a.seen.now in
    rw (c.with_bit-after.ensures.0, c.from-before.ensures, c.from-number.ensures)
    (or-tells (get_or seen (a.label % 32) 0) (a.label / 32))
