-- A record's bytes as the checks see them: its body after the first byte, with no bit set past its triples, and what the checks before
-- and after the walk say together.
use Rattle.std.specs.Prelude.{Bool, true, false, List, ◌≡◌, refl, ℕ, ◌-◌, ◌*◌, ◌≤◌, ◌<◌, length, take, drop}
use Rattle.std.proofs.Common.{inl, inr, sym, ap, subst, ◌∙◌, arith, length-drop, take_all}
use Rattle.finite.specs.Decide.{le_or_lt}
use Rattle.finite.specs.Search.{Some}
use Rattle.bits.specs.Bit.{bit_at}
use Rattle.bits.proofs.Pack.{bit_at_past}
use Rattle.record.specs.Walk.{Counts, walk}
use Rattle.record.specs.Record.{body_length, triple_in}
use Rattle.record.specs.Read.{kind_of, body_of, end_of, Missing, Several}
use Rattle.record.specs.Checked as chain
use Rattle.record.specs.Checked.{Readable, Refuses}
use Rattle.record.specs.declared.Refusal.{Refusal}
use Rattle.judging.specs.Judge.{Body, Clear, EndRefuses, missing_run, several_runs}

-- the body is what is left of the record after its first byte
abbrev pub tail : List ℕ → List ℕ
tail bytes = take (length bytes - 1) (drop 1 bytes)

pub body_is : (bytes : List ℕ) → tail bytes ≡ body_of bytes
body_is bytes = take_all (length bytes - 1) (drop 1 bytes) (omega (arith, length-drop 1 bytes))

-- no bit is set past the triples, nor past the body
clear_past : (bytes : List ℕ) (from : ℕ) → ¬ Some (λ i. bit_at bytes i ≡ true) from (8 * length bytes) → Clear bytes from
clear_past bytes from none i h = elim (le_or_lt (8 * length bytes) i) [
  | inl past ↦ bit_at_past bytes i past
  | inr inside ↦ go inside (bit_at bytes i) refl
]
  where
    go : i < 8 * length bytes → (b : Bool) → bit_at bytes i ≡ b → b ≡ false
    go inside false e = refl
    go inside true e = absurd (none (i, h, inside, e))

module _ {bytes : List ℕ} {n : ℕ} (b : Body bytes n) where
  pub some_bytes : 1 ≤ length bytes
  some_bytes = let none : ¬ (length bytes ≡ 0) = λ e. b.has_kind (inl e) in omega arith

  pub tail_length : length (tail bytes) ≡ body_length n
  tail_length = omega (arith, ap length (body_is bytes), b.long, b.short, b.kind)

  pub tail_clear : Clear (tail bytes) (3 * n - 3)
  tail_clear i h =
      subst (λ (body : List ℕ). bit_at body i ≡ false) (sym (body_is bytes))
      (clear_past (body_of bytes) (3 * kind_of bytes - 3) b.spare i (omega (arith, b.kind)))

  -- the end of the walk is that of the record
  pub end_is : {end : Counts} → end ≡ walk (triple_in (tail bytes)) (n - 1) → end ≡ end_of bytes
  end_is e = e ∙ (λ i. walk (triple_in (body_is bytes i)) (b.kind i - 1))

  pub end_refused : {end : Counts} {refusal : Refusal} → end ≡ end_of bytes → EndRefuses end refusal → Refuses bytes refusal
  end_refused e (missing_run m) = chain.missing_run b.has_kind b.long b.short b.spare (subst Missing e m)
  end_refused e (several_runs m s) =
      chain.several_runs b.has_kind b.long b.short b.spare (λ z. m (subst Missing (sym e) z)) (subst Several e s)

  pub end_passed : {end : Counts} → end ≡ end_of bytes → ¬ Missing end → ¬ Several end → Readable bytes
  end_passed e m s = record {
    kind = b.has_kind;
    long = b.long;
    short = b.short;
    spare = b.spare;
    runs = λ z. m (subst Missing (sym e) z);
    one_run = λ z. s (subst Several (sym e) z);
  }
