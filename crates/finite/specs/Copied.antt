-- The front of an array, copied to the front of a slice: as a copy of so many bytes leaves it, and as a contract says it.
use Rattle.std.specs.Prelude.{List, ◌++◌, ◌≡◌, ℕ, length, take, drop}
use Rattle.std.proofs.Common.{sym, ap, ◌∙◌}
use Rattle.std.proofs.Math.Seq.{take-length}

pub copied : (front before : List ℕ) {whole : List ℕ} {size : ℕ} → size ≡ length front → front ≡ whole
    → take (length front) front ++ drop (length front) before ≡ whole ++ drop size before
copied front before {whole} q e =
    ap (λ (l : List ℕ). l ++ drop (length front) before) (take-length front ∙ e) ∙ ap (λ (k : ℕ). whole ++ drop k before) (sym q)
