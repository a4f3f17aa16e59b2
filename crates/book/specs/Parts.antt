-- The records of a book from its front on: laws of `records_of`, without its count.
use Rattle.std.specs.Prelude.{List, [], ◌∷◌, ◌++◌, ◌≡◌, refl, ℕ, zero, suc, ◌≤◌, length, drop}
use Rattle.std.proofs.Common.{inl, sym, ap, ap₂, ◌∙◌, arith, length-drop, length-append, take_at, drop_at}
use Rattle.std.proofs.Math.ListN.{get_or-append}
use Rattle.record.specs.Record.{body_length}
use Rattle.record.specs.Checked.{Readable}
use Rattle.book.specs.Book.{size_of, front, behind, first_records, records_of}

-- ---- any bytes
-- as many records as there are bytes are all of them: a larger count makes no difference
count_enough : (m k : ℕ) (bytes : List ℕ) → length bytes ≤ m → length bytes ≤ k → first_records m bytes ≡ first_records k bytes
unfolding first_records
count_enough zero zero bytes h l = refl
count_enough zero (suc k) [] h l = refl
count_enough zero (suc k) (b ∷ bs) h l = absurd (omega arith)
count_enough (suc m) zero [] h l = refl
count_enough (suc m) zero (b ∷ bs) h l = absurd (omega arith)
count_enough (suc m) (suc k) [] h l = refl
count_enough (suc m) (suc k) (b ∷ bs) h l =
    let less = length-drop (body_length b) bs in
    ap (λ (rest : List (List ℕ)). front (b ∷ bs) ∷ rest) (count_enough m k (drop (body_length b) bs) (omega arith) (omega arith))

-- no bytes have no records
pub records_none : (bytes : List ℕ) → length bytes ≡ 0 → records_of bytes ≡ []
unfolding records_of
records_none [] h = refl
records_none (b ∷ bs) h = absurd (omega arith)

-- other bytes have their front, and the records of what stands behind it
pub records_next : (bytes : List ℕ) → 1 ≤ length bytes → records_of bytes ≡ front bytes ∷ records_of (behind bytes)
unfolding records_of first_records
records_next [] h = absurd (omega arith)
records_next (b ∷ bs) h =
    let rest = drop (body_length b) bs in
    let less = length-drop (body_length b) bs in
    ap (λ (others : List (List ℕ)). front (b ∷ bs) ∷ others) (count_enough (length bs) (length rest) rest (omega arith) (omega arith))

-- there are no more records than bytes
pub records_few : (bytes : List ℕ) → length (records_of bytes) ≤ length bytes
unfolding records_of
records_few bytes = go (length bytes) bytes
  where
    go : (most : ℕ) (bytes : List ℕ) → length (first_records most bytes) ≤ most
    go zero bytes = omega arith
    go (suc most) [] = omega arith
    go (suc most) (b ∷ bs) = omega (arith, go most (behind (b ∷ bs)))

-- ---- an accepted record
-- it has just the bytes that its kind fixes
pub size_is : {r : List ℕ} → Readable r → length r ≡ size_of r
size_is {r} good =
    let some : ¬ (length r ≡ 0) = λ e. good.kind (inl e) in
    omega (arith, length-drop 1 r, good.long, good.short)

module _ {r : List ℕ} (good : Readable r) (rest : List ℕ) where
  size_kept : size_of (r ++ rest) ≡ size_of r
  size_kept = ap (λ (n : ℕ). suc (body_length n)) (get_or-append r rest 0 0 (omega (arith, size_is good)))

  -- whatever follows it, it is the front
  pub front_is : front (r ++ rest) ≡ r
  front_is = take_at r rest (size_of (r ++ rest)) (size_is good ∙ sym size_kept)

  pub behind_is : behind (r ++ rest) ≡ rest
  behind_is = drop_at r rest (size_of (r ++ rest)) (size_is good ∙ sym size_kept)

  -- and the first record
  pub records_after : records_of (r ++ rest) ≡ r ∷ records_of rest
  records_after =
      let long = length-append r rest in
      records_next (r ++ rest) (omega (arith, size_is good))
      ∙ ap₂ (λ (one others : List ℕ). one ∷ records_of others) front_is behind_is

-- ---- a front that is accepted
size_front : (bytes : List ℕ) → 1 ≤ length bytes → size_of (front bytes) ≡ size_of bytes
size_front [] h = absurd (omega arith)
size_front (b ∷ bs) h = refl

-- the other records begin where it ends
pub records_on : (bytes : List ℕ) → 1 ≤ length bytes → Readable (front bytes)
    → records_of bytes ≡ front bytes ∷ records_of (drop (length (front bytes)) bytes)
records_on bytes h good =
    records_next bytes h ∙ ap (λ (size : ℕ). front bytes ∷ records_of (drop size bytes)) (sym (size_is good ∙ size_front bytes h))
