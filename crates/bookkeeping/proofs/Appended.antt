-- A record copied into the part of a book from the used length on, as the code lends that part.
use mathlib.Core.List.{List, [], ◌++◌, append_assoc, append-nil}
use mathlib.Core.Path.{◌≡◌, sym, ap, ap₂, ◌∙◌}
use Prim.Native.Nat.{ℕ, ◌+◌, ◌-◌, ◌≤◌}
use native.Mathlib.Omega.{arith}
use borrow.Rule.Slice.PartMut.{mid_of, put_mid, post_of}
use lib.ListN.{length, take, drop, length-drop}
use Rattle.bookkeeping.specs.Found.{appended}
use lib.Seq.{take-length, take_all, drop-length, drop-drop}

pub copied_behind : (book «record» part : List ℕ) (used : ℕ) → used + length «record» ≤ length book
    → part ≡ take (length «record») «record» ++ drop (length «record») (mid_of used (length book - used) book)
    → put_mid used (length book - used) book part ≡ appended book used «record»
copied_behind book «record» part used fits e =
    ap₂ (λ (copied rest : List ℕ). take used book ++ (copied ++ rest)) (e ∙ copied) none
    ∙ ap (λ (rest : List ℕ). take used book ++ rest) (append-nil (◌++◌ «record» (drop (used + length «record») book)))
    ∙ sym (append_assoc (take used book) «record» (drop (used + length «record») book))
  where
    rest : mid_of used (length book - used) book ≡ drop used book
    rest = take_all (length book - used) (drop used book) (omega (arith, length-drop used book))

    copied : take (length «record») «record» ++ drop (length «record») (mid_of used (length book - used) book)
        ≡ «record» ++ drop (used + length «record») book
    copied = ap₂ (λ (front back : List ℕ). front ++ back) (take-length «record»)
        (ap (drop (length «record»)) rest ∙ drop-drop (length «record») used book)

    none : post_of used (length book - used) book ≡ []
    none =
        let whole : used + (length book - used) ≡ length book = omega arith in
        drop-drop (length book - used) used book ∙ ap (λ (n : ℕ). drop n book) whole ∙ drop-length book
