-- `numbers::label_of` meets its contract: the number is picked by products of bits.
use mathlib.Core.Path.{ap, ◌∙◌}
use Rattle.numbers.specs.Number.{as_byte}
use Rattle.numbers.proofs.Picked.{picked, converted}
use Rattle.numbers.proofs.label_of.Goals as goal

pub returns : goal.returns
returns c =
    let number = picked c.args.first c.args.second c.args.third c.from-more.ensures c.from-3.ensures in
    c.unwrap_or.ensures ∙ converted c.try_from.result _ c.try_from.ensures
    ∙ ap as_byte (rw (c.from-one.ensures, c.from.ensures, c.from-2.ensures) number)
