-- A record in a book has no bytes after its body, since the next record begins where its body ends: so 11 is none of its refusals.
use Rattle.std.specs.Prelude.{List, [], ◌∷◌, ◌≢◌, ℕ, zero, suc, length}
use Rattle.std.proofs.Common.{arith, length-take}
use Rattle.record.specs.Record.{body_length}
use Rattle.record.specs.Read.{BytesAfter}
use Rattle.record.specs.Refusal.{number_of}
use Rattle.record.specs.Checked.{Refuses, no_kind, short_body, bytes_after, spare_bit, missing_run, several_runs}
use Rattle.record.specs.declared.Refusal.{Refusal}
use Rattle.book.specs.Book.{front, behind, first_records, records_of}
use Rattle.book.specs.Checks.{FirstBad, here, later}

none_after : (bytes : List ℕ) → ¬ BytesAfter (front bytes)
none_after [] h = absurd (omega arith)
none_after (b ∷ bs) h = omega (arith, length-take (body_length b) bs)

pub front_never_11 : (bytes : List ℕ) {refusal : Refusal} → Refuses (front bytes) refusal → number_of refusal ≢ 11
front_never_11 bytes (no_kind a) = λ e. omega arith
front_never_11 bytes (short_body a b) = λ e. omega arith
front_never_11 bytes (bytes_after a b c) = λ e. none_after bytes c
front_never_11 bytes (spare_bit a b c d) = λ e. omega arith
front_never_11 bytes (missing_run a b c d f) = λ e. omega arith
front_never_11 bytes (several_runs a b c d f g) = λ e. omega arith

pub first_bad_never_11 : {refusal : Refusal} {at ordinal : ℕ} (bytes : List ℕ) → FirstBad refusal at ordinal (records_of bytes)
    → number_of refusal ≢ 11
unfolding records_of first_records
first_bad_never_11 {refusal} {at} bytes first = go (length bytes) bytes first
  where
    go : {ordinal : ℕ} (most : ℕ) (bytes : List ℕ) → FirstBad refusal at ordinal (first_records most bytes) → number_of refusal ≢ 11
    go zero _ first = elim first [ ]
    go (suc most) [] first = elim first [ ]
    go (suc most) (b ∷ bs) (here cause) = front_never_11 (b ∷ bs) cause
    go (suc most) (b ∷ bs) (later all rest) = go most (behind (b ∷ bs)) rest
