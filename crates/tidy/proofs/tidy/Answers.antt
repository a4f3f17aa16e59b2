-- `tidy::tidy` meets its contract: what is answered for the stored list is the answer for the text.
use native.Mathlib.Omega.{arith}
use Rattle.numbers.specs.Store.{Refuses, ListedAs}
use Rattle.tidy.proofs.Listed.{Listed, listed, refused_tidied_text, stored_tidied}
use Rattle.tidy.proofs.tidy.Goals as goal
use Rattle.tidy.proofs.tidy.Goals.{In-Ok}

-- the text's line was read to its end
got : (c : In-Ok) → Listed c.args.text.now c.in-Ok.count c.read.new.list
got c =
    let listed_as : ListedAs c.in-Ok.count c.line_of.result.now c.read.new.list = c.in-Ok.ensures in
    listed c.args.text.now c.in-Ok.count c.read.new.list (omega (arith, c.if-text-gt-LONGEST.false))
    (rw c.line_of.ensures at listed_as)

pub returns-in-Ok : goal.returns-in-Ok
returns-in-Ok c = stored_tidied (got (goal.at.returns-in-Ok c).In-Ok) c.tidy_labels.ensures

pub returns-in-Err : goal.returns-in-Err
returns-in-Err c =
    let refuses : Refuses c.line_of.result.now c.in-Err.refusal = c.in-Err.ensures in
    refused_tidied_text c.args.text.now c.args.tidy.now (omega (arith, c.if-text-gt-LONGEST.false))
    (rw c.line_of.ensures at refuses)
