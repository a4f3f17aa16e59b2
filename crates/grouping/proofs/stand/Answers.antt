-- `grouping::stand` meets its contract: by the extremes of their positions the groups come one after the other, or they are mixed; and in
-- the first case the relations that occur tell the side.
use mathlib.Core.Logic.{inl, inr}
use mathlib.Core.Path.{ap, ◌∙◌}
use Prim.Native.Nat.{ℕ}
use Rattle.std.specs.Prelude.{Ok}
use Rattle.finite.specs.Decide.{told_true, told_false}
use Rattle.record.specs.Labels.{label_at, EachOnce}
use Rattle.record.specs.Record.{triple_in}
use Rattle.judging.specs.Walkable.{labels_in}
use Rattle.sizes.proofs.OneWay.{accepted_walks}
use Rattle.grouping.proofs.Standing.{last_fits, ahead, standing_ahead, standing_behind, standing_interleaved}
use Rattle.grouping.proofs.stand.Goals as goal
use Rattle.grouping.proofs.stand.Goals.{Start}

abbrev label : Start → ℕ → ℕ
label s = label_at (labels_in s.args.body.now s.args.n)

once : (s : Start) → EachOnce (label s) s.args.n
once s = (accepted_walks (triple_in s.args.body.now) s.args.n s.requires.0.some s.requires.0.accepted).once

pub relations-seen-requires : goal.relations-seen-requires
relations-seen-requires c =
    let end = c.requires.3 in
    (c.requires.0, end.from, last_fits c.args.n c.args.second.now (λ z. c.requires.1.inside (inr z)) end, end.none_past)

pub returns-then-all_after : goal.returns-then-all_after
returns-then-all_after c =
    let seen = c.relations-seen in
    let s = (goal.at.returns-then-all_after c).Start in
    ap Ok c.verdict.ensures
    ∙ standing_ahead (label s) c.args.n (once s) c.args.first.now c.args.second.now c.requires.1
    (ahead c.args.first.now c.args.second.now c.requires.2 (told_true _ _ c.if-all_after.true c.all_after.ensures))
    seen.result.left seen.result.below seen.ensures.left seen.ensures.below

pub relations-seen-requires-then-all_after-2 : goal.relations-seen-requires-then-all_after-2
relations-seen-requires-then-all_after-2 c =
    let end = c.requires.2 in
    (c.requires.0, end.from, last_fits c.args.n c.args.first.now (λ z. c.requires.1.inside (inl z)) end, end.none_past)

pub returns-then-all_after-2 : goal.returns-then-all_after-2
returns-then-all_after-2 c =
    let seen = c.relations-seen-then-all_after-2 in
    let s = (goal.at.returns-then-all_after-2 c).Start in
    ap Ok c.verdict-then-all_after-2.ensures
    ∙ standing_behind (label s) c.args.n (once s) c.args.first.now c.args.second.now c.requires.1
    (ahead c.args.second.now c.args.first.now c.requires.3 (told_true _ _ c.if-all_after-2.true c.all_after-2.ensures))
    seen.result.left seen.result.below seen.ensures.left seen.ensures.below

pub returns : goal.returns
returns c =
    let s = (goal.at.returns c).Start in
    standing_interleaved (label s) c.args.n (once s) c.args.first.now c.args.second.now c.requires.1 c.requires.2 c.requires.3
    (told_false _ _ c.if-all_after.false c.all_after.ensures) (told_false _ _ c.if-all_after-2.false c.all_after-2.ensures)
