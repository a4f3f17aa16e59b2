-- Two summaries are the same where a comparison field by field says so.
use Rattle.std.proofs.Common.{◌≡◌, ℕ, Bool, true, false, not, ◌&&◌, ap, arith}
use Rattle.std.proofs.lemmas.Grind.{common_steps}
use lib.Dec.{eqb}
use Rattle.book.specs.Summary.{Summary, held}

module _ (a b c d p q r s : ℕ) (differ : Bool) (told : differ ≡ not (eqb a p && (eqb b q && (eqb c r && eqb d s)))) where
  pub same_summary : differ ≡ false → held a b c d ≡ held p q r s
  same_summary alike =
      let one : a ≡ p = grind (arith, common_steps) in
      let two : b ≡ q = grind (arith, common_steps) in
      let three : c ≡ r = grind (arith, common_steps) in
      let four : d ≡ s = grind (arith, common_steps) in
      λ i. held (one i) (two i) (three i) (four i)

  pub other_summary : differ ≡ true → ¬ (held a b c d ≡ held p q r s)
  other_summary unlike e =
      let one : a ≡ p = ap (λ (t : Summary). t.plans) e in
      let two : b ≡ q = ap (λ (t : Summary). t.rooms) e in
      let three : c ≡ r = ap (λ (t : Summary). t.rises) e in
      let four : d ≡ s = ap (λ (t : Summary). t.falls) e in
      grind (arith, common_steps)
