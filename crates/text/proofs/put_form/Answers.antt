-- `text::put_form` meets its contract: a turn puts a byte of the form, or a number where the form has a mark.
use Rattle.std.proofs.Common.{rules, arith}
use Rattle.digits.specs.Digits.{decimal_short}
use Rattle.text.specs.FilledStore.{number_filled, byte_filled, mark_kept, all_filled}
use Rattle.text.proofs.put_form.Goals as goal
use Rattle.text.proofs.put_form.Goals.{then-byte-eq37+else-k-numbers, else-byte-eq37}

pub put_number-at-requires : goal.put_number-at-requires
put_number-at-requires c =
    let l = c.loop-i in
    let short = decimal_short c.from.result (search rules) in
    omega (arith, c.requires, l.invariant.put.size, l.invariant.short)

pub loop-i-preserved-then-k-numbers : goal.loop-i-preserved-then-k-numbers
loop-i-preserved-then-k-numbers c =
    number_filled c.loop-i.invariant (omega arith) (omega arith) (omega (arith, c.type_inv.numbers c.loop-i.k)) (omega arith)
    (rw c.from.ensures at c.put_number-at.ensures)

pub loop-i-preserved : goal.loop-i-preserved
loop-i-preserved c =
    let l = c.loop-i in
    let p = c.put_byte-at.ensures in
    elim c.if-byte-eq37.branch [
      | then-byte-eq37+else-k-numbers w ↦ mark_kept l.invariant (omega arith) (omega arith) p
      | else-byte-eq37 w ↦ byte_filled l.invariant (omega arith) (λ is. omega arith) p
    ]

pub returns : goal.returns
returns c = (all_filled c.loop-i.invariant (omega arith), omega (arith, c.loop-i.invariant.short))
