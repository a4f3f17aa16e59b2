-- `tidy::tidy_labels` meets its contract: the labels are judged, and written where they are sound and there is the room. How much
-- that is, the count of sound labels tells.
use mathlib.Core.Path.{◌≡◌, sym, ◌∙◌}
use native.Mathlib.Omega.{arith}
use borrow.Author.Rules.{rules}
use Rattle.std.specs.Prelude.{Err}
use Rattle.record.specs.Judged.{Sound}
use Rattle.record.proofs.Demand2.{sound→baxter}
use Rattle.labeltext.specs.TidySize.{sound_tidy_size}
use Rattle.labels.specs.Verdicts.{verdict_refused, verdict_sound}
use Rattle.tidy.proofs.Labels.{refused_tidied, short_tidied, wrote_tidied}
use Rattle.tidy.proofs.tidy_labels.Goals as goal
use Rattle.tidy.proofs.tidy_labels.Goals.{In_ok-judge}

sound : (c : In_ok-judge) → Sound c.args.labels.now
sound c = verdict_sound c.args.labels.now c.in_ok-judge.ensures

pub returns-in_err-judge : goal.returns-in_err-judge
returns-in_err-judge c =
    let same : c.from_residual.result ≡ Err c.in_err-judge.field-0.0 = search rules in
    let labels = c.args.labels.now in
    rw same (refused_tidied labels c.args.tidy.now (verdict_refused labels c.in_err-judge.ensures))

pub returns-then-tidy-size : goal.returns-then-tidy-size
returns-then-tidy-size c =
    let labels = c.args.labels.now in
    let all = sound (goal.at.returns-then-tidy-size c).In_ok-judge in
    short_tidied labels c.args.tidy.now all (omega (arith, c.tidy_size-size.ensures, sound_tidy_size labels all, c.if-tidy-size.true))

pub put_labels-requires : goal.put_labels-requires
put_labels-requires c =
    let labels = c.args.labels.now in
    let all = sound (goal.at.put_labels-requires c).In_ok-judge in
    let s = sound→baxter labels all in
    (s.1, s.2, omega (arith, c.tidy_size-size.ensures, sound_tidy_size labels all, c.if-tidy-size.false))

pub returns : goal.returns
returns c =
    let labels = c.args.labels.now in
    let all = sound (goal.at.returns c).In_ok-judge in
    wrote_tidied labels c.args.tidy.now all (c.tidy_size-size.ensures ∙ sym (sound_tidy_size labels all))
    (omega (arith, c.if-tidy-size.false)) c.put_labels.ensures
