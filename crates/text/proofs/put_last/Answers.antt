-- `put_last`: a number has at most twenty digits.
use Rattle.std.proofs.Common.{rules, arith}
use Rattle.finite.specs.Put.{put_more}
use Rattle.digits.specs.Digits.{decimal_wide}
use Rattle.text.proofs.put_last.Goals as goal

pub put_number-at-requires : goal.put_number-at-requires
put_number-at-requires c = omega (arith, c.requires, decimal_wide c.args.number (search rules))

pub put_byte-requires : goal.put_byte-requires
put_byte-requires c =
    let p = c.put_number-at.ensures in
    omega (arith, c.requires, p.next, p.size, decimal_wide c.args.number (search rules))

pub returns : goal.returns
returns c =
    let p = c.put_number-at.ensures in
    let q = c.put_byte.ensures in
    (put_more p q, omega (arith, p.next, q.next, decimal_wide c.args.number (search rules)))
