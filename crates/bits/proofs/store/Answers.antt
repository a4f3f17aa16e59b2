-- `store` meets its contract. The two bytes written are the word's quotient and remainder by 256, a mask with 255 being the remainder;
-- one law says what a store of one byte leaves, and one what a store of two leaves.
use native.Mathlib.Omega.{arith}
use Rattle.bits.proofs.Word.{stored_one, stored_two}
use Rattle.bits.proofs.store.Goals as goal

pub returns-then-lowest-lt8 : goal.returns-then-lowest-lt8
returns-then-lowest-lt8 c =
    let a = c.args in
    stored_two a.bytes.now a.at a.lowest a.word (omega arith) (c.requires.1 c.if-lowest-lt8.true) c.if-lowest-lt8.true

pub returns-else-lowest-lt8 : goal.returns-else-lowest-lt8
returns-else-lowest-lt8 c =
    let a = c.args in
    stored_one a.bytes.now a.at a.lowest a.word (omega arith) c.requires.0 c.if-lowest-lt8.false
