-- `load` meets its contract. What is known of the bytes that were read makes the word's quotient and remainder by 256 those bytes,
-- and the list then shows the word, by one law for one byte and one for two.
use mathlib.Core.Path.{sym}
use native.Mathlib.Omega.{arith}
use Rattle.bits.proofs.Word.{shows_one, shows_two}
use Rattle.bits.proofs.load.Goals as goal

pub returns-then-lowest-lt8 : goal.returns-then-lowest-lt8
returns-then-lowest-lt8 c =
    let a = c.args in
    let high = c.from-high in
    shows_two a.bytes.now a.at a.lowest high.result c.from.result (sym high.ensures) (omega arith)
    (sym c.from.ensures) (omega arith)

pub returns : goal.returns
returns c =
    let a = c.args in
    let high = c.from-high in
    shows_one a.bytes.now a.at a.lowest high.result (sym high.ensures) (omega arith) c.if-lowest-lt8.false
