-- `append_names`: the names are a form with seven numbers.
use Rattle.std.proofs.Common.{◌++◌, ◌∙◌}
use Rattle.std.proofs.Math.Decide.{ℕ_discrete}
use Rattle.text.specs.Form.{filled}
use Rattle.shapes.specs.Picture.{names}
use Rattle.shapes.proofs.append.append_names.Goals as goal

pub returns-clause-items : goal.returns-clause-items
unfolding filled ℕ_discrete
returns-clause-items g c =
    (rw c.short_side-size.ensures at c.append_form.ensures.items)
    ∙ λ t. c.args.text.now.items
    ++ names (c.from-n.ensures t) (c.from-position.ensures t) ((c.from-label.ensures ∙ c.label.ensures) t) (c.room-room.ensures.value t)
