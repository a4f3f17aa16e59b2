-- Records one after another, and the records of the bytes that they make: each way gives back what it was given.
use Rattle.std.specs.Prelude.{List, [], ◌∷◌, ◌++◌, ◌≡◌, refl, ℕ, zero, suc, ◌≤◌, length}
use Rattle.std.proofs.Common.{append_assoc, append-nil, sym, ap, subst, ◌∙◌, arith, length-drop, take-append-drop}
use Rattle.record.specs.Record.{body_length}
use Rattle.record.specs.Checked.{Readable}
use Rattle.book.specs.Book.{size_of, front, behind, records_of, joined, Good, GoodBook}
use Rattle.book.specs.Parts.{records_none, records_next, records_after}

-- any bytes are their records, one after another
pub joined_records : (bytes : List ℕ) → joined (records_of bytes) ≡ bytes
joined_records bytes = go (length bytes) bytes (omega arith)
  where
    go : (m : ℕ) (bytes : List ℕ) → length bytes ≤ m → joined (records_of bytes) ≡ bytes
    go zero [] h = ap joined (records_none [] refl)
    go zero (b ∷ bs) h = absurd (omega arith)
    go (suc m) [] h = ap joined (records_none [] refl)
    go (suc m) (b ∷ bs) h =
        let less = length-drop (body_length b) bs in
        ap joined (records_next (b ∷ bs) (omega arith))
        ∙ ap (λ (rest : List ℕ). front (b ∷ bs) ++ rest) (go m (behind (b ∷ bs)) (omega arith))
        ∙ take-append-drop (size_of (b ∷ bs)) (b ∷ bs)

-- accepted records, one after another, and then other bytes: their records are these and those of the other bytes
pub records_joined_then : (records : List (List ℕ)) (rest : List ℕ) → Good records
    → records_of (joined records ++ rest) ≡ records ++ records_of rest
records_joined_then [] rest good = refl
records_joined_then (r ∷ rs) rest good =
    ap records_of (append_assoc r (joined rs) rest) ∙ records_after good.0 (joined rs ++ rest)
    ∙ ap (λ (others : List (List ℕ)). r ∷ others) (records_joined_then rs rest good.1)

-- and without other bytes just these
pub records_joined : (records : List (List ℕ)) → Good records → records_of (joined records) ≡ records
records_joined records good =
    ap records_of (sym (append-nil (joined records))) ∙ records_joined_then records [] good
    ∙ ap (λ (none : List (List ℕ)). records ++ none) (records_none [] refl) ∙ append-nil records

-- ---- one record more
module _ (bytes r : List ℕ) (good : GoodBook bytes) (one : Readable r) where
  -- it comes after the others
  pub records_one_more : records_of (bytes ++ r) ≡ records_of bytes ++ (r ∷ [])
  records_one_more =
      ap (λ (b : List ℕ). records_of (b ++ r)) (sym (joined_records bytes)) ∙ records_joined_then (records_of bytes) r good
      ∙ ap (λ (last : List (List ℕ)). records_of bytes ++ last) alone
    where
      alone : records_of r ≡ r ∷ []
      alone =
          ap records_of (sym (append-nil r)) ∙ records_after one []
          ∙ ap (λ (none : List (List ℕ)). r ∷ none) (records_none [] refl)

  -- and the book is accepted again
  pub good_one_more : GoodBook (bytes ++ r)
  good_one_more = subst Good (sym records_one_more) (go (records_of bytes) good)
    where
      go : (rs : List (List ℕ)) → Good rs → Good (rs ++ (r ∷ []))
      go [] all = (one, tt)
      go (s ∷ rs) all = (all.0, go rs all.1)
