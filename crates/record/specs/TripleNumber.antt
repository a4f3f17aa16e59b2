-- A triple by its number 0 to 7, the form in which the code reads it from a body and sets it there.
use Rattle.std.specs.Prelude.{Bool, true, false, List, ◌≡◌, refl, ℕ, zero, suc, ◌+◌, ◌*◌}
use Rattle.bits.specs.Bit.{bit, bit_at, group_at}
use Rattle.record.specs.Triple.{Triple, triple}
use Rattle.record.specs.Record.{triple_in}

-- the triple of a number, of which the first bit is worth 4; those past 7 are never asked for
abbrev pub triple_of : ℕ → Triple
triple_of zero = triple false false false
triple_of (suc zero) = triple false false true
triple_of (suc (suc zero)) = triple false true false
triple_of (suc (suc (suc zero))) = triple false true true
triple_of (suc (suc (suc (suc zero)))) = triple true false false
triple_of (suc (suc (suc (suc (suc zero))))) = triple true false true
triple_of (suc (suc (suc (suc (suc (suc zero)))))) = triple true true false
triple_of (suc (suc (suc (suc (suc (suc (suc n))))))) = triple true true true

-- three bits and their number
pub triple_of_bits : (first second third : Bool) → triple_of (4 * bit first + 2 * bit second + bit third) ≡ triple first second third
triple_of_bits false false false = refl
triple_of_bits false false true = refl
triple_of_bits false true false = refl
triple_of_bits false true true = refl
triple_of_bits true false false = refl
triple_of_bits true false true = refl
triple_of_bits true true false = refl
triple_of_bits true true true = refl

-- a body's group is its triple's number
pub group_triple : (body : List ℕ) (k : ℕ) → triple_of (group_at body k) ≡ triple_in body (suc (suc k))
unfolding group_at
group_triple body k = triple_of_bits (bit_at body (3 * k)) (bit_at body (3 * k + 1)) (bit_at body (3 * k + 2))
