-- `Lines::turn` meets its contract: a place that is chosen by a bit lies in the stack.
use native.Mathlib.Omega.{arith}
use Rattle.std.proofs.Common.{◌+◌, ◌∙◌, ap, get_or, set, ℕ}
use Rattle.std.proofs.lemmas.List.{get_or_default}
use Rattle.sizes.proofs.Turned.{chosen_few}
use Rattle.placing.proofs.Lines.turn.Goals as goal

pub offset_bounds-self-chosen-2 : goal.offset_bounds-self-chosen-2
offset_bounds-self-chosen-2 g c = omega (arith, chosen_few c.args.turn.below (c.args.runs.below + c.args.turn.rises) c.requires.below_bit c.requires.below_few c.chosen-2.ensures)

pub listed-8 : goal.listed-8
listed-8 g c = omega (arith, c.well_formed, chosen_few c.args.turn.below (c.args.runs.below + c.args.turn.rises) c.requires.below_bit c.requires.below_few c.chosen-2.ensures)

pub bounds-self-chosen-2 : goal.bounds-self-chosen-2
bounds-self-chosen-2 g c = chosen_few c.args.turn.below (c.args.runs.below + c.args.turn.rises) c.requires.below_bit c.requires.below_few c.chosen-2.ensures

pub listed-7 : goal.listed-7
listed-7 g c = omega (arith, c.well_formed, chosen_few c.args.turn.above (c.args.runs.above + c.args.turn.falls) c.requires.above_bit c.requires.above_few c.chosen.ensures)

pub bounds-self-chosen : goal.bounds-self-chosen
bounds-self-chosen g c = chosen_few c.args.turn.above (c.args.runs.above + c.args.turn.falls) c.requires.above_bit c.requires.above_few c.chosen.ensures

pub returns-clause-beside : goal.returns-clause-beside
returns-clause-beside g c d =
    get_or_default (set c.args.self.now.across_above (c.args.runs.above + 1) c.args.right) c.chosen.result c.index-self-chosen.result d
    (omega (arith, c.well_formed, chosen_few c.args.turn.above (c.args.runs.above + c.args.turn.falls) c.requires.above_bit c.requires.above_few c.chosen.ensures))
    ∙ ap (λ (i : ℕ). get_or (set c.args.self.now.across_above (c.args.runs.above + 1) c.args.right) i d) c.chosen.ensures

pub returns-clause-under : goal.returns-clause-under
returns-clause-under g c d =
    get_or_default (set c.args.self.now.up_below (c.args.runs.below + 1) c.args.top) c.chosen-2.result c.index-self-chosen-2.result d
    (omega (arith, c.well_formed, chosen_few c.args.turn.below (c.args.runs.below + c.args.turn.rises) c.requires.below_bit c.requires.below_few c.chosen-2.ensures))
    ∙ ap (λ (i : ℕ). get_or (set c.args.self.now.up_below (c.args.runs.below + 1) c.args.top) i d) c.chosen-2.ensures
