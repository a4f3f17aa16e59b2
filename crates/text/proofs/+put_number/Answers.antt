-- `put_number`: a number below ten is one digit, any other the digits of its tenth and one more.
use Rattle.std.proofs.Common.{length, sym, ap, arith}
use Rattle.finite.specs.Put.{put_more, put_as}
use Rattle.digits.specs.Digits.{decimal_one, decimal_more, length_more}
use Rattle.text.proofs.+put_number.Goals as goal

pub put_byte-requires : goal.put_byte-requires
put_byte-requires t c = omega (arith, c.requires, ap length (decimal_one c.args.number c.if-number-lt10.true))

pub returns-then-number-lt10 : goal.returns-then-number-lt10
returns-then-number-lt10 t c = put_as (sym (decimal_one c.args.number c.if-number-lt10.true)) c.put_byte.ensures

pub put_number-at-requires : goal.put_number-at-requires
put_number-at-requires t c = (omega (arith, c.decreases), omega (arith, c.requires, length_more c.args.number c.if-number-lt10.false))

pub put_byte-requires-2 : goal.put_byte-requires-2
put_byte-requires-2 t c =
    let p = c.put_number-at.ensures in
    omega (arith, c.requires, p.next, p.size, length_more c.args.number c.if-number-lt10.false)

pub returns : goal.returns
returns t c = put_as (sym (decimal_more c.args.number c.if-number-lt10.false)) (put_more c.put_number-at.ensures c.put_byte-2.ensures)
