-- `twice_in_bits` meets its contract. The table tells the names seen so far, and `found` whether one was seen again.
use Rattle.std.proofs.Common.{sym, ap, subst, ◌∙◌, ℕ, ◌+◌, length, get_or, nat_eq, arith}
use Rattle.finite.specs.BitTable.{length_with_bit}
use Rattle.finite.specs.Decide.{tells_iff}
use Rattle.finite.specs.Marks.{Marks, marks_more, marks_tell}
use Rattle.finite.specs.Search.{Some}
use Rattle.naming.specs.Seen.{SeenIn, bit_for, seen_more}
use Rattle.naming.specs.Twice.{Twice, Again, again→twice, twice→again}
use Rattle.naming.proofs.twice_in_bits.Goals as goal

pub loop-name-preserved : goal.loop-name-preserved
loop-name-preserved g c =
    let i = c.loop-name.name-index in
    let seen = c.loop-name.seen in
    let (size, told, found) = c.loop-name.invariant in
    let name : ℕ → ℕ = λ k. get_or c.args.names.now k 0 in
    let small = c.requires.names_in_bounds i c.loop-name-test.true in
    let noted = c.note-found.ensures.noted in (
      ap length noted ∙ length_with_bit 64 seen (name i) (bit_for (name i)) ∙ size,
      subst (SeenIn name (i + 1) g.row.WORDS) (sym noted) (seen_more name i g.row.WORDS seen size small told),
      marks_more (Again name) i c.loop-name.found c.note-found.result found
          (subst (λ (bit : ℕ). Marks bit (Again name i)) (sym c.note-found.ensures.was) (told (name i) small)),
    )

pub returns : goal.returns
returns g c =
    let names = c.args.names.now in
    let n = length names in
    let name : ℕ → ℕ = λ k. get_or names k 0 in
    tells_iff (Some (Again name) 0 n) (Twice name n) (nat_eq c.loop-name.found 1) (again→twice name n) (twice→again name n)
    (marks_tell (Again name) n c.loop-name.name-index c.loop-name.found (omega (arith, c.loop-name-test.false)) c.loop-name.invariant.2)
