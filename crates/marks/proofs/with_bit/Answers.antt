-- `with_bit` meets its contract: the shift stays within the word, and within the byte.
use mathlib.Core.Path.{◌≡◌, refl}
use Prim.Native.Nat.{ℕ, ◌*◌, ◌%◌, ◌^◌}
use native.Mathlib.Omega.{arith}
use lib.Bits.{or_lt}
use lib.Pow.{pow-lt, shl_exact}
use borrow.Author.Rules.{rules}
use Rattle.marks.proofs.with_bit.Goals as goal

pub returns : goal.returns
returns c =
    let bit = c.args.bit in
    let exact : 1 * 2 ^ bit % 18446744073709551616 ≡ 1 * 2 ^ bit = shl_exact 1 bit 64 (omega arith) (omega (arith, c.requires)) in
    rw exact (refl, or_lt 8 c.args.byte _ c.requires.0 (omega (arith, pow-lt {i = bit} {j = 8} c.requires.1)))
