-- The number that three bytes begin with, picked from three by products of bits.
use mathlib.Core.Logic.{if_pos, if_neg}
use mathlib.Core.Path.{◌≡◌, sym, ◌∙◌}
use Prim.Native.Nat.{ℕ, ◌+◌, ◌*◌, ◌-◌, ◌%◌, ◌<◌}
use native.Mathlib.Decide.{dec_lt}
use native.Mathlib.Omega.{arith}
use borrow.Author.Tests.{lt-ltb, le-ltb}
use lib.Dec.{ltb}
use Rattle.std.specs.Int.{from_bool}
use Rattle.std.specs.Prelude.{Result, Ok, Err}
use Rattle.std.specs.Result.{OkIff, result_unwrap_or}
use Rattle.numbers.specs.Number.{number_in, as_byte}

module _ (first second third : ℕ) where
  abbrev one : ℕ
  one = first % 16

  abbrev two : ℕ
  two = 10 * one + second % 16

  abbrev three : ℕ
  three = 10 * two + third % 16

  bits : (more last : ℕ) → Dec (47 < second) → Dec (47 < third) → more ≡ from_bool (ltb 47 second) → last ≡ from_bool (ltb 47 third)
      → one + more * (two - one) + more * last * (three - two) ≡ number_in first second third
  unfolding number_in
  bits more last (yes h) (yes k) e d =
      let m : more ≡ 1 = e ∙ rw (lt-ltb 47 second h) (omega arith) in
      let l : last ≡ 1 = d ∙ rw (lt-ltb 47 third k) (omega arith) in
      rw (m, l) (omega arith ∙ sym (if_pos (dec_lt 47 third) k _ _) ∙ sym (if_pos (dec_lt 47 second) h _ _))
  bits more last (yes h) (no k) e d =
      let m : more ≡ 1 = e ∙ rw (lt-ltb 47 second h) (omega arith) in
      let l : last ≡ 0 = d ∙ rw (le-ltb 47 third (omega arith)) (omega arith) in
      rw (m, l) (omega arith ∙ sym (if_neg (dec_lt 47 third) k _ _) ∙ sym (if_pos (dec_lt 47 second) h _ _))
  bits more last (no h) k e d =
      let m : more ≡ 0 = e ∙ rw (le-ltb 47 second (omega arith)) (omega arith) in
      rw m (omega arith ∙ sym (if_neg (dec_lt 47 second) h _ _))

  -- the sum of the products is the number
  pub picked : {more last : ℕ} → more ≡ from_bool (ltb 47 second) → last ≡ from_bool (ltb 47 third)
      → one + more * (two - one) + more * last * (three - two) ≡ number_in first second third
  picked {more} {last} e d = bits more last (dec_lt 47 second) (dec_lt 47 third) e d

-- a number as a byte, as it is converted
pub converted : {E : Type 0} (byte : Result ℕ E) (number : ℕ) → OkIff byte (number < 256) number → result_unwrap_or byte 0 ≡ as_byte number
unfolding as_byte
converted (Ok byte) number (small, is) = is ∙ sym (if_neg (dec_lt 255 number) (λ h. omega arith) _ _)
converted (Err e) number large = sym (if_pos (dec_lt 255 number) (omega arith) _ _)
