-- `Plan::read`: what reading the corners gives is the record's plan, or its refusal.
use Rattle.std.proofs.Common.{arith, refl, rules, ◌≤◌}
use Rattle.record.specs.Read.{kind_of}
use Rattle.text.proofs.Reading.{refuses, some, holds, inside}
use Rattle.text.proofs.record_plan.Plan.read.Goals as goal

pub returns-in_err-n-clause-refused : goal.returns-in_err-n-clause-refused
returns-in_err-n-clause-refused c =
    let byte : kind_of c.args.«record».now ≤ 255 = omega (arith, c.type_inv.«record» 0) in
    let cause = refuses byte refl c.in_err-n.ensures in
    search rules

pub invariant_of-result : goal.invariant_of-result
invariant_of-result c =
    let byte : kind_of c.args.«record».now ≤ 255 = omega (arith, c.type_inv.«record» 0) in
    record { some = some byte refl c.in_ok-n.ensures; within = inside byte refl c.in_ok-n.ensures }

pub returns-clause-plan : goal.returns-clause-plan
returns-clause-plan c =
    let byte : kind_of c.args.«record».now ≤ 255 = omega (arith, c.type_inv.«record» 0) in
    holds byte refl c.in_ok-n.ensures
