-- `judging::eight_steps` meets its contract: between two turns the word is that of the steps so far.
use mathlib.Core.Path.{◌≡◌, ap, subst, ◌∙◌}
use Prim.Native.Nat.{ℕ, suc, ◌+◌, ◌-◌, ◌*◌, ◌≤◌}
use native.Mathlib.Omega.{arith}
use Rattle.finite.specs.Decide.{told_true, told_false}
use Rattle.record.specs.Triple.{Triple}
use Rattle.record.specs.Walk.{missing, walk}
use Rattle.record.specs.Record.{triple_in}
use Rattle.record.specs.TripleNumber.{triple_of, group_triple}
use Rattle.steps.specs.Table.{missing_on}
use Rattle.judging.specs.Packed.{Row, Lacks, Packs}
use Rattle.judging.proofs.Packing.{packs_lacks, packs_next}
use Rattle.judging.proofs.eight_steps.Goals as goal
use Rattle.judging.proofs.eight_steps.Goals.{After-row-tally}

-- the triples, and how many of them the walk has behind it
abbrev triples : After-row-tally → ℕ → Triple
triples c = triple_in c.args.body.now

short : (c : After-row-tally) → suc (8 * c.args.m + c.loop-i.i) ≤ 256
short c = omega (arith, c.loop-i-test.true, c.requires.0)

-- what the turn adds is the row of its triple
row_at : (c : After-row-tally) → Row (triples c (suc (suc (8 * c.args.m + c.loop-i.i)))) c.row-tally.result
row_at c =
    let same = c.group_of_word.ensures.0 ∙ c.eight_groups-word.ensures c.loop-i.i c.loop-i-test.true in
    subst (λ (u : Triple). Row u c.row-tally.result) (ap triple_of same ∙ group_triple c.args.body.now (8 * c.args.m + c.loop-i.i)) c.row-tally.ensures

pub returns-then-lacks : goal.returns-then-lacks
returns-then-lacks c =
    let at = (goal.at.returns-then-lacks c).After-row-tally in
    let gone = packs_lacks c.loop-i.invariant (short at) c.row-tally.result (row_at at) (told_true (Lacks _) _ c.if-lacks.true c.lacks.ensures) in
    let rest : suc (8 * c.args.m + c.loop-i.i) + (8 - suc c.loop-i.i) ≡ 8 * c.args.m + 8 = omega (arith, c.loop-i-test.true) in
    subst (λ (k : ℕ). walk (triples at) k ≡ missing) rest (missing_on (triples at) (suc (8 * c.args.m + c.loop-i.i)) (8 - suc c.loop-i.i) gone)

pub loop-i-preserved : goal.loop-i-preserved
loop-i-preserved c =
    let at = (goal.at.loop-i-preserved c).After-row-tally in
    let next = packs_next c.loop-i.invariant (short at) c.row-tally.result (row_at at) (told_false (Lacks _) _ c.if-lacks.false c.lacks.ensures) in
    let one : suc (8 * c.args.m + c.loop-i.i) ≡ 8 * c.args.m + (c.loop-i.i + 1) = omega arith in
    subst (λ (k : ℕ). Packs (triples at) k (c.loop-i.tally + c.row-tally.result)) one next
