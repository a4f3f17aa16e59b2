-- `tidy::put_labels` meets its contract. Putting says what is put between two turns; the digits of all labels are there before the
-- first.
use mathlib.Core.Path.{◌≡◌}
use native.Mathlib.Omega.{arith}
use lib.ListN.{length}
use Rattle.labeltext.specs.Tidy.{tidy_text}
use Rattle.labeltext.specs.TidySize.{fields_size}
use Rattle.tidy.proofs.Fields.{put_size, label_put, fields_fit, tidy_some, all_size, all_put}
use Rattle.tidy.proofs.put_labels.Goals as goal
use Rattle.tidy.proofs.put_labels.Goals.{After-loop-k}

-- where the text ends
all : (c : After-loop-k)
    → c.loop-k.at ≡ length (tidy_text c.args.labels.now)
all c =
    all_size c.loop-k.invariant c.requires.0 (omega (arith, c.loop-k-test.false))

pub put_field-at-requires : goal.put_field-at-requires
put_field-at-requires c =
    let a = c.args.labels.now in
    let p = c.loop-k.invariant in
    let t = c.loop-k-test.true in (
      omega (arith, p.next, put_size p, fields_fit a c.loop-k.k t, fields_size a c.requires.0, c.requires.2),
      c.all_digits.ensures c.loop-k.k t,
    )

pub loop-k-preserved : goal.loop-k-preserved
loop-k-preserved c = label_put c.loop-k.invariant c.loop-k-test.true c.put_field-at.ensures.is c.put_field-at.ensures.next

pub bounds-tidy-at : goal.bounds-tidy-at
bounds-tidy-at c =
    omega (arith, all (goal.at.bounds-tidy-at c).After-loop-k, tidy_some c.args.labels.now, put_size c.loop-k.invariant, c.requires.2)

pub returns : goal.returns
returns c = all_put c.loop-k.invariant c.requires.0 (omega (arith, c.loop-k-test.false)) c.requires.2
