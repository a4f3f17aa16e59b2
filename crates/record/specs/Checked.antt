-- The checks of a record in the sheet's order, as they stand before 15 or before 16 and 17, each cause decided.
use Rattle.std.specs.Prelude.{◌≡◌, List, length}
use Rattle.std.proofs.Common.{sym, subst, ◌∙◌}
use Rattle.std.proofs.Math.Logic.{ite, if_pos, if_neg}
use Prim.Native.Nat.{ℕ, ◌-◌, ◌*◌}
use Rattle.std.proofs.Math.Decide.{dec_le, dec_lt, ℕ_discrete}
use Rattle.finite.specs.Decide.{dec-⊎, dec_true}
use Rattle.finite.specs.Search.{dec_some}
use Rattle.bits.specs.Bit.{bit_at}
use Rattle.record.specs.Walk.{Counts, missing, counts}
use Rattle.record.specs.Record.{body_length}
use Rattle.record.specs.Read as cause
use Rattle.record.specs.Read.{kind_of, body_of, end_of}
use Rattle.record.specs.declared.Refusal.{Refusal}
use Rattle.record.specs.declared.Refusal.TheVariants.{NoKind, ShortBody, BytesAfter, SpareBit, MissingRun, SeveralRuns}

unfoldable pub dec_no_kind : (bytes : List ℕ) → Dec (cause.NoKind bytes)
unfolding dec-⊎ ℕ_discrete
dec_no_kind bytes = dec-⊎ (ℕ_discrete (length bytes) 0) (ℕ_discrete (kind_of bytes) 0)

abbrev pub dec_short_body : (bytes : List ℕ) → Dec (cause.ShortBody bytes)
dec_short_body bytes = dec_lt (length (body_of bytes)) (body_length (kind_of bytes))

abbrev pub dec_bytes_after : (bytes : List ℕ) → Dec (cause.BytesAfter bytes)
dec_bytes_after bytes = dec_lt (body_length (kind_of bytes)) (length (body_of bytes))

unfoldable pub dec_spare : (bytes : List ℕ) → Dec (cause.SpareBit bytes)
unfolding dec_some dec_true
dec_spare bytes = dec_some _ (λ i. dec_true (bit_at (body_of bytes) i)) (3 * kind_of bytes - 3) (8 * length (body_of bytes))

unfoldable pub dec_missing : (end : Counts) → Dec (cause.Missing end)
dec_missing missing = yes tt
dec_missing (counts p q) = no (λ h. h)

unfoldable pub dec_several : (end : Counts) → Dec (cause.Several end)
unfolding dec_le
dec_several missing = no (λ h. h)
dec_several (counts p q) = dec_le 1 (Prim.Native.Nat.◌+◌ p q)

-- the first refusal of the order, or what follows where there is none
abbrev pub checked : {A : Type 0} → (Refusal → A) → (bytes : List ℕ) → A → A
checked refuse bytes good =
    ite (dec_no_kind bytes) (refuse NoKind)
    (ite (dec_short_body bytes) (refuse ShortBody)
    (ite (dec_bytes_after bytes) (refuse BytesAfter)
    (ite (dec_spare bytes) (refuse SpareBit)
    (ite (dec_missing (end_of bytes)) (refuse MissingRun)
    (ite (dec_several (end_of bytes)) (refuse SeveralRuns)
    good)))))

-- ---- a record that passes them
pub record Readable (bytes : List ℕ) : Type 0 where
  pub kind : ¬ cause.NoKind bytes
  pub long : ¬ cause.ShortBody bytes
  pub short : ¬ cause.BytesAfter bytes
  pub spare : ¬ cause.SpareBit bytes
  pub runs : ¬ cause.Missing (end_of bytes)
  pub one_run : ¬ cause.Several (end_of bytes)

-- a refusal of a record with its cause, and without the causes that the order names before it
pub data Refuses (bytes : List ℕ) : Refusal → Type 0 where
  no_kind : cause.NoKind bytes → Refuses bytes NoKind
  short_body : ¬ cause.NoKind bytes → cause.ShortBody bytes → Refuses bytes ShortBody
  bytes_after : ¬ cause.NoKind bytes → ¬ cause.ShortBody bytes → cause.BytesAfter bytes → Refuses bytes BytesAfter
  spare_bit : ¬ cause.NoKind bytes → ¬ cause.ShortBody bytes → ¬ cause.BytesAfter bytes → cause.SpareBit bytes → Refuses bytes SpareBit
  missing_run : ¬ cause.NoKind bytes → ¬ cause.ShortBody bytes → ¬ cause.BytesAfter bytes → ¬ cause.SpareBit bytes
      → cause.Missing (end_of bytes) → Refuses bytes MissingRun
  several_runs : ¬ cause.NoKind bytes → ¬ cause.ShortBody bytes → ¬ cause.BytesAfter bytes → ¬ cause.SpareBit bytes
      → ¬ cause.Missing (end_of bytes) → cause.Several (end_of bytes) → Refuses bytes SeveralRuns

module _ {A : Type 0} (refuse : Refusal → A) (bytes : List ℕ) (good : A) where
  pub refused_checked : {refusal : Refusal} → Refuses bytes refusal → refuse refusal ≡ checked refuse bytes good
  refused_checked (no_kind a) = sym (if_pos (dec_no_kind bytes) a _ _)
  refused_checked (short_body a b) =
      sym (if_neg (dec_no_kind bytes) a _ _ ∙ if_pos (dec_short_body bytes) b _ _)
  refused_checked (bytes_after a b c) =
      sym (if_neg (dec_no_kind bytes) a _ _ ∙ if_neg (dec_short_body bytes) b _ _ ∙ if_pos (dec_bytes_after bytes) c _ _)
  refused_checked (spare_bit a b c d) =
      sym (if_neg (dec_no_kind bytes) a _ _ ∙ if_neg (dec_short_body bytes) b _ _ ∙ if_neg (dec_bytes_after bytes) c _ _
      ∙ if_pos (dec_spare bytes) d _ _)
  refused_checked (missing_run a b c d e) =
      sym (if_neg (dec_no_kind bytes) a _ _ ∙ if_neg (dec_short_body bytes) b _ _ ∙ if_neg (dec_bytes_after bytes) c _ _
      ∙ if_neg (dec_spare bytes) d _ _ ∙ if_pos (dec_missing (end_of bytes)) e _ _)
  refused_checked (several_runs a b c d e f) =
      sym (if_neg (dec_no_kind bytes) a _ _ ∙ if_neg (dec_short_body bytes) b _ _ ∙ if_neg (dec_bytes_after bytes) c _ _
      ∙ if_neg (dec_spare bytes) d _ _ ∙ if_neg (dec_missing (end_of bytes)) e _ _ ∙ if_pos (dec_several (end_of bytes)) f _ _)

  pub readable_checked : Readable bytes → good ≡ checked refuse bytes good
  readable_checked r =
      sym (if_neg (dec_no_kind bytes) r.kind _ _ ∙ if_neg (dec_short_body bytes) r.long _ _
      ∙ if_neg (dec_bytes_after bytes) r.short _ _ ∙ if_neg (dec_spare bytes) r.spare _ _
      ∙ if_neg (dec_missing (end_of bytes)) r.runs _ _ ∙ if_neg (dec_several (end_of bytes)) r.one_run _ _)

-- each record is refused with a cause, or read
pub data Sorted (bytes : List ℕ) : Type 0 where
  refused : {refusal : Refusal} → Refuses bytes refusal → Sorted bytes
  read : Readable bytes → Sorted bytes

pub sorted : (bytes : List ℕ) → Sorted bytes
sorted bytes =
    go (dec_no_kind bytes) (dec_short_body bytes) (dec_bytes_after bytes) (dec_spare bytes) (dec_missing (end_of bytes))
    (dec_several (end_of bytes))
  where
    go : Dec (cause.NoKind bytes) → Dec (cause.ShortBody bytes) → Dec (cause.BytesAfter bytes) → Dec (cause.SpareBit bytes)
        → Dec (cause.Missing (end_of bytes)) → Dec (cause.Several (end_of bytes)) → Sorted bytes
    go (yes a) b c d e f = refused (no_kind a)
    go (no a) (yes b) c d e f = refused (short_body a b)
    go (no a) (no b) (yes c) d e f = refused (bytes_after a b c)
    go (no a) (no b) (no c) (yes d) e f = refused (spare_bit a b c d)
    go (no a) (no b) (no c) (no d) (yes e) f = refused (missing_run a b c d e)
    go (no a) (no b) (no c) (no d) (no e) (yes f) = refused (several_runs a b c d e f)
    go (no a) (no b) (no c) (no d) (no e) (no f) = read (record { kind = a; long = b; short = c; spare = d; runs = e; one_run = f })

-- what a chain of checks gives, where it is known for each refusal and for what follows
pub checked_has : {A : Type 0} (P : A → Type 0) (refuse : Refusal → A) (bytes : List ℕ) (good : A) → ((refusal : Refusal)
    → Refuses bytes refusal → P (refuse refusal)) → (Readable bytes → P good)
    → P (checked refuse bytes good)
checked_has P refuse bytes good if-refused if-read = go (sorted bytes)
  where
    go : Sorted bytes → P (checked refuse bytes good)
    go (refused {refusal} cause) = subst P (refused_checked refuse bytes good cause) (if-refused refusal cause)
    go (read all) = subst P (readable_checked refuse bytes good all) (if-read all)
