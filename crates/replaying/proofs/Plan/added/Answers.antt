-- `replaying::Plan::added` meets its contract: a room too many, a run that is missing, or the new room.
use mathlib.Core.Logic.{inl, inr}
use Rattle.record.specs.TripleNumber.{triple_of}
use Rattle.replaying.proofs.Turning.{added_past, added_missing, added_makes, added_stands}
use Rattle.replaying.proofs.Plan.added.Goals as goal

pub returns-then-self-eq255 : goal.returns-then-self-eq255
returns-then-self-eq255 c = λ present s. added_past s (triple_of c.args.triple) c.if-self-eq255.true

pub returns-then-counts-eq0 : goal.returns-then-counts-eq0
returns-then-counts-eq0 c = λ present s.
    added_missing s _ c.if-self-eq255.false c.row.result c.row.ensures.0 (inl c.if-counts-eq0.true)

pub returns-then-counts-lt256 : goal.returns-then-counts-lt256
returns-then-counts-lt256 c = λ present s.
    added_missing s _ c.if-self-eq255.false c.row.result c.row.ensures.0 (inr c.if-counts-lt256.true)

pub returns : goal.returns
returns c = λ present s.
    let row = c.row in
    let room = c.if-self-eq255.false in
    let some = c.if-counts-eq0.false in
    let much = c.if-counts-lt256.false in
    (added_makes s _ room row.result row.ensures.0 some much, added_stands s _ room row.result row.ensures.0 some much)
