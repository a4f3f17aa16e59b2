-- The record that begins some bytes, as the code cuts it out.
use mathlib.Core.List.{List, [], ◌∷◌}
use mathlib.Core.Path.{◌≡◌, sym, ap, ◌∙◌}
use Prim.Native.Nat.{ℕ, zero, suc, ◌-◌, ◌≤◌}
use native.Mathlib.Omega.{arith}
use lib.ListN.{length, take, drop, length-take, take-append-drop}
use lib.Seq.{take-nil, take-append_seam}
use Rattle.book.specs.Book.{size_of, front}
use Rattle.book.specs.Answer.{rest_at, record_at}

-- so many bytes as the record has are the record
pub front_taken : (bytes : List ℕ) → take (length (front bytes)) bytes ≡ front bytes
front_taken bytes =
    ap (take (length (front bytes))) (sym (take-append-drop (size_of bytes) bytes)) ∙ take-append_seam (front bytes) (drop (size_of bytes) bytes)

pub front_short : (bytes : List ℕ) → length (front bytes) ≤ length bytes
front_short bytes = omega (arith, length-take (size_of bytes) bytes)

-- a part from a place to the end of the used part is the used part from that place on
pub rest_is : (book : List ℕ) (used place : ℕ) → take (used - place) (drop place book) ≡ rest_at book used place
rest_is book used zero = let e : used - 0 ≡ used = omega arith in ap (λ (n : ℕ). take n book) e
rest_is [] zero (suc place) = take-nil (0 - suc place)
rest_is (b ∷ bs) zero (suc place) = let e : 0 - suc place ≡ 0 = omega arith in ap (λ (n : ℕ). take n (drop place bs)) e
rest_is [] (suc used) (suc place) = take-nil (suc used - suc place)
rest_is (b ∷ bs) (suc used) (suc place) = let e : suc used - suc place ≡ used - place = omega arith in ap (λ (n : ℕ). take n (drop place bs)) e ∙ rest_is bs used place

-- the record that is judged there
pub record_is : (book : List ℕ) (used place : ℕ) → let rest = take (used - place) (drop place book) in take (length (front rest)) rest ≡ record_at book used place
record_is book used place = front_taken (take (used - place) (drop place book)) ∙ ap front (rest_is book used place)
