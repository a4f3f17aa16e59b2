-- `tidy::put_field` meets its contract: where each byte goes, by how many digits there are.
use mathlib.Core.Path.{◌≡◌, refl, ◌∙◌}
use native.Mathlib.Omega.{arith}
use lib.ListN.{length-set}
use Rattle.labeltext.specs.TidySize.{hundreds, tens, field_size_lem}
use Rattle.tidy.proofs.Put.{bit_is, digits_put}
use borrow.Author.Rules.{rules}
use Rattle.tidy.proofs.put_field.Goals as goal
use Rattle.tidy.proofs.put_field.Goals.{After-from-2}

-- how many digits stand in front of the second, and between it and the last
first : (c : After-from-2) → c.from.result ≡ hundreds c.args.label
first c = c.from.ensures ∙ bit_is _

second : (c : After-from-2) → c.from-2.result ≡ tens c.args.label
second c = c.from-2.ensures ∙ bit_is _

pub bounds-text-second : goal.bounds-text-second
bounds-text-second c =
    rw length-set (omega (arith, c.requires.0, field_size_lem c.args.label (search rules), c.from.ensures ∙ bit_is _))

pub bounds-text-third : goal.bounds-text-third
bounds-text-third c =
    rw (length-set, length-set) (omega (arith, c.requires.0, field_size_lem c.args.label (search rules), first c, second c))

pub bounds-text-third-2 : goal.bounds-text-third-2
bounds-text-third-2 c =
    rw (length-set, length-set, length-set)
    (omega (arith, c.requires.0, field_size_lem c.args.label (search rules), first c, second c))

pub returns : goal.returns
returns c =
    let a = c.args in
    let f = first c in
    let s = second c in
    record {
      is = digits_put a.label a.text.now a.at (search rules) c.requires.1 _ _ _ (omega (arith, f)) (omega (arith, s)) refl;
      next = omega (arith, f, s, field_size_lem a.label (search rules));
    }
