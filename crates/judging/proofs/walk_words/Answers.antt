-- `judging::walk_words` meets its contract: between two turns the word is that of the steps so far.
use mathlib.Core.Path.{◌≡◌, subst}
use Prim.Native.Nat.{ℕ, ◌+◌, ◌-◌, ◌*◌}
use native.Mathlib.Omega.{arith}
use Rattle.record.specs.Walk.{missing, walk}
use Rattle.record.specs.Record.{triple_in}
use Rattle.steps.specs.Table.{missing_on}
use Rattle.judging.proofs.Packing.{packs_first}
use Rattle.judging.proofs.walk_words.Goals as goal

pub loop-m-init : goal.loop-m-init
loop-m-init c = packs_first _

pub returns-in_err-tally : goal.returns-in_err-tally
returns-in_err-tally c =
    let m = c.loop-m.m in
    let t = triple_in c.args.body.now in
    let rest : 8 * m + 8 + 8 * (c.args.words - (m + 1)) ≡ 8 * c.args.words = omega arith in
    rw c.from_residual.ensures (subst (λ (k : ℕ). walk t k ≡ missing) rest (missing_on t (8 * m + 8) (8 * (c.args.words - (m + 1))) c.in_err-tally.ensures))
