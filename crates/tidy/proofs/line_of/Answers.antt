-- `tidy::line_of` meets its contract.
use mathlib.Core.List.{List}
use mathlib.Core.Path.{◌≡◌, sym, ap, ◌∙◌}
use Prim.Native.Nat.{ℕ}
use lib.ListN.{length, take}
use lib.Seq.{take-length}
use Rattle.labeltext.specs.LineOf.{line_of, line_length, line_length_none, line_length_ended, line_length_bare}
use Rattle.tidy.proofs.line_of.Goals as goal
use Rattle.tidy.proofs.line_of.Goals.{then-n-eq0-via-then-n-eq0, then-n-eq0-via-else-n-eq0+then-text-n-ne10}

-- a line that is as long as the text is the text
whole : (text : List ℕ) → line_length text ≡ length text → text ≡ line_of text
whole text e = sym (ap (λ (n : ℕ). take n text) e ∙ take-length text)

pub returns-then-n-eq0 : goal.returns-then-n-eq0
returns-then-n-eq0 c =
    let text = c.args.text.now in
    elim c.then-n-eq0.branch [
      | then-n-eq0-via-then-n-eq0 w ↦ whole text (line_length_none text w.if-n-eq0.true ∙ sym w.if-n-eq0.true)
      | then-n-eq0-via-else-n-eq0+then-text-n-ne10 w ↦ whole text (line_length_bare text w.if-text-n-ne10.true)
    ]

pub returns : goal.returns
returns c = ap (λ (n : ℕ). take n c.args.text.now) (sym (line_length_ended c.args.text.now c.if-text-n-ne10.false))
