-- What a refused reading tells every call: the refusal is its own too.
use Rattle.std.specs.Prelude.{List, ℕ, ◌≡◌, Result, Ok, Err}
use Rattle.std.proofs.Common.{sym, ap, ◌∙◌}
use Rattle.record.specs.Read.{kind_of}
use Rattle.record.specs.Checked.{checked, Sorted, refused, read, sorted, refused_checked, readable_checked}
use Rattle.record.specs.declared.Refusal.{Refusal}
use Rattle.reading.specs.Answer.{reading_of}

abbrev refusal_of : Result ℕ Refusal → Refusal → Refusal
refusal_of (Ok n) other = other
refusal_of (Err refusal) other = refusal

-- a record that is not read is refused by every call alike
pub same_refusal : {A : Type 0} (refuse : Refusal → A) (bytes : List ℕ) (good : A) (refusal : Refusal)
    → Err refusal ≡ reading_of bytes → refuse refusal ≡ checked refuse bytes good
same_refusal refuse bytes good refusal e = go (sorted bytes)
  where
    go : Sorted bytes → refuse refusal ≡ checked refuse bytes good
    go (refused cause) =
        ap (λ (r : Result ℕ Refusal). refuse (refusal_of r refusal)) (e ∙ sym (refused_checked Err bytes (Ok (kind_of bytes)) cause))
        ∙ refused_checked refuse bytes good cause
    go (read all) =
        let clash : Err refusal ≡ Ok (kind_of bytes) = e ∙ sym (readable_checked Err bytes (Ok (kind_of bytes)) all) in
        absurd (cc)
