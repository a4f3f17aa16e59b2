-- `replaying::Plan::made` meets its contract: a move that is none, a room added, or a move that goes back.
use mathlib.Core.Path.{refl, sym, ◌∙◌}
use native.Mathlib.Omega.{arith}
use Rattle.std.proofs.lemmas.Result.{err_from_is_err_and}
use Rattle.record.specs.TripleNumber.{triple_of}
use Rattle.replaying.proofs.Reading.{one_missing, one_bad, one_good, back_begins, other}
use Rattle.replaying.proofs.Moving.{turned_bad, turned_added, turned_past, turned_back, turned_halt}
use Rattle.replaying.proofs.Plan.made.Goals as goal

pub returns-in_default-triple_at : goal.returns-in_default-triple_at
returns-in_default-triple_at c = λ present s k.
    let none = sym c.triple_at.ensures ∙ c.in_default-triple_at.is in
    turned_bad _ _ present (one_missing c.args.trace.now c.args.at c.requires.within.0 c.in-1.is none)

pub returns-then-triple-gt7 : goal.returns-then-triple-gt7
returns-then-triple-gt7 c = λ present s k.
    let some = sym c.triple_at.ensures ∙ c.in-Some.is in
    turned_bad _ _ present (one_bad c.args.trace.now c.args.at c.requires.within.0 c.in-1.is some c.if-triple-gt7.true)

pub returns-in_err-added-in-1 : goal.returns-in_err-added-in-1
returns-in_err-added-in-1 c =
    let p = err_from_is_err_and c.from_residual.result c.from_residual.ensures.1 in
    rw (p.1, p.2) (λ present s k.
    let some = sym c.triple_at.ensures ∙ c.in-Some.is in
    let good = one_good c.args.trace.now c.args.at c.requires.within.0 c.in-1.is some c.if-triple-gt7.false in
    turned_past _ _ present c.args.kept.now (triple_of c.in-Some.triple) good.1 s (c.in_err-added-in-1.ensures))

pub returns-in_ok-added-in-1 : goal.returns-in_ok-added-in-1
returns-in_ok-added-in-1 c = λ present s k.
    let some = sym c.triple_at.ensures ∙ c.in-Some.is in
    let good = one_good c.args.trace.now c.args.at c.requires.within.0 c.in-1.is some c.if-triple-gt7.false in
    turned_added _ _ present c.args.kept.now (triple_of c.in-Some.triple) good.0 good.1 s (c.in_ok-added-in-1.ensures)

pub returns-in_err-back-in-2-to-3 : goal.returns-in_err-back-in-2-to-3
returns-in_err-back-in-2-to-3 c =
    let p = err_from_is_err_and c.from_residual-in_err-back-in-2-to-3.result c.from_residual-in_err-back-in-2-to-3.ensures.1 in
    rw (p.1, p.2) (λ present s k.
    let begins = back_begins c.args.trace.now c.args.at c.requires.within.0 _ refl (omega arith) (omega arith) in
    turned_halt _ _ present c.args.kept.now _ begins (c.in_err-back-in-2-to-3.ensures present s.built s.rooms_are k))

pub returns-in_ok-back-in-2-to-3 : goal.returns-in_ok-back-in-2-to-3
returns-in_ok-back-in-2-to-3 c = λ present s k.
    let begins = back_begins c.args.trace.now c.args.at c.requires.within.0 _ refl (omega arith) (omega arith) in
    turned_back _ _ present c.args.kept.now _ begins c.requires.within.0 (c.in_ok-back-in-2-to-3.ensures present s.built s.rooms_are k)

pub returns-in_default : goal.returns-in_default
returns-in_default c = λ present s k.
    turned_bad _ _ present (other c.args.trace.now c.args.at c.requires.within.0 (omega arith) (omega arith) (omega arith))

pub returns-in_default-2 : goal.returns-in_default-2
returns-in_default-2 c = λ present s k.
    turned_bad _ _ present (other c.args.trace.now c.args.at c.requires.within.0 (omega arith) (omega arith) (omega arith))
