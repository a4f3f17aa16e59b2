-- A group set in the part of a record behind its kind byte, as the code lends that part: a triple set in the record.
use mathlib.Core.List.{List, [], ◌∷◌, append-nil}
use mathlib.Core.Path.{◌≡◌}
use Prim.Native.Nat.{ℕ, ◌+◌, ◌-◌, ◌≤◌}
use native.Mathlib.Omega.{arith}
use borrow.Rule.Slice.PartMut.{mid_of, put_mid}
use lib.ListN.{length}
use lib.Seq.{take-length, drop-length}
use Rattle.bits.specs.Bit.{GroupSet}
use Rattle.record.specs.TripleNumber.{triple_of}
use Rattle.record.specs.TripleSet.{TripleSet}
use Rattle.record.specs.M104.{m104_triple_set}

pub part_set : (before part : List ℕ) (k number : ℕ) → 1 ≤ length before → GroupSet (mid_of 1 (length before - 1) before) part k number
    → TripleSet before (put_mid 1 (length before - 1) before part) (k + 2) (triple_of number)
part_set [] part k number some g = absurd (omega arith)
part_set (kind ∷ body) part k number some g =
    let m : length (kind ∷ body) - 1 ≡ length body = omega arith in
    let of : k ≡ k + 2 - 2 = omega arith in
    rw (m, drop-length body, append-nil part)
    (m104_triple_set kind body part (k + 2) number (omega arith) (rw (m, take-length body, of) at g))
