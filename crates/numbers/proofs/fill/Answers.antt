-- `numbers::fill` meets its contract: the rows as they are filled in are tried on each byte.
use mathlib.Core.Path.{refl}
use borrow.Author.Rules.{rules}
use Rattle.labeltext.specs.Symbol.{symbol_of}
use Rattle.numbers.proofs.Filled.{tested_rows}
use Rattle.numbers.proofs.fill.Goals as goal

pub returns : goal.returns
unfolding symbol_of
returns c = rw (c.fill.ensures.after (λ y e. search rules), c.requires) (tested_rows _ refl tt)
