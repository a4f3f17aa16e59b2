-- `append_form`: a turn appends a byte of the form, or a number where the form has a mark.
use Rattle.std.proofs.Common.{rules, arith}
use Rattle.digits.specs.Digits.{decimal_short}
use Rattle.text.specs.Filled.{number_put, byte_put, rest_put, all_put}
use Rattle.text.proofs.append.append_form.Goals as goal
use Rattle.text.proofs.append.append_form.Goals.{in-len1-up, in_default}
use Rattle.text.proofs.append.append_form.Goals.{in_default-via-then-left-lt1, in_default-via-in-len1-up+else-byte-eq37}

pub append_number-requires : goal.append_number-requires
append_number-requires g c =
    let short = decimal_short c.from.result (search rules) in
    omega (arith, c.loop-byte.invariant.short)

pub loop-byte-preserved : goal.loop-byte-preserved
loop-byte-preserved g c =
    let filling = c.loop-byte.invariant in
    elim c.if-left-lt1.branch [
      | in-len1-up w ↦
          number_put filling (search rules) {number = w.from.result} (search rules) w.if-byte-eq37.true
          (search rules) (search rules) (search rules) (search rules)
      | in_default w ↦ elim w.in_default.branch [
        | in_default-via-then-left-lt1 none ↦ rest_put filling (search rules) (search rules) (cc) (search rules)
        | in_default-via-in-len1-up+else-byte-eq37 other ↦
            byte_put filling (search rules) other.if-byte-eq37.false (cc) (search rules)
      ]
    ]

pub returns-clause-items : goal.returns-clause-items
returns-clause-items g c = all_put c.loop-byte.invariant (omega arith)
