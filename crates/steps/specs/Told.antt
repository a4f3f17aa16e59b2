-- A triple in numbers, as the code was told them: each is 1 or 0, and they are what the triple says.
use Rattle.std.specs.Prelude.{Bool, true, false, ◌≡◌, ◌≤◌}
use Rattle.std.proofs.Common.{sym, arith}
use Rattle.bits.specs.Bit.{bit}
use Rattle.record.specs.Triple.{Triple}
use Rattle.record.specs.Way.{up, down}
use Rattle.record.specs.Decode.{bits_of}
use Rattle.steps.specs.declared.Turn.{Turn}
use Rattle.steps.specs.Turn.{Says, rises_by, falls_by}

pub bit_le : (b : Bool) → bit b ≤ 1
bit_le true = omega arith
bit_le false = omega arith

pub above_small : {u : Triple} {turn : Turn} → Says u turn → turn.above ≤ 1
above_small {u} s = omega (arith, s.above_is, bit_le (bits_of u up))

pub below_small : {u : Triple} {turn : Turn} → Says u turn → turn.below ≤ 1
below_small {u} s = omega (arith, s.below_is, bit_le (bits_of u down))

-- a triple in numbers
unfoldable pub turn_for : Triple → Turn
turn_for u = record { above = bit (bits_of u up); below = bit (bits_of u down); rises = rises_by u; falls = falls_by u }

pub says_turn : {u : Triple} {turn : Turn} → Says u turn → turn_for u ≡ turn
unfolding turn_for
says_turn s = λ k. record { above = sym s.above_is k; below = sym s.below_is k; rises = sym s.rises_is k; falls = sym s.falls_is k }
