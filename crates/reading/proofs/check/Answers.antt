-- `reading::check` meets its contract: what the checks before and after the walk say together, and what is noted is what the walk
-- forward left.
use Rattle.std.proofs.Common.{◌≡◌, sym, ap, subst, ◌∙◌, ℕ, ◌-◌, List, Option, Some, None, Result, Ok, Err, rules}
use Rattle.record.specs.Walk.{walk}
use Rattle.record.specs.Record.{triple_in}
use Rattle.record.specs.Read.{kind_of}
use Rattle.record.specs.Checked.{refused_checked, readable_checked}
use Rattle.record.specs.declared.Refusal.{Refusal}
use Rattle.steps.specs.Counts.{end_counts}
use Rattle.steps.specs.declared.Notes.{Notes}
use Rattle.steps.specs.declared.Runs.{Runs}
use Rattle.forward.specs.Noted.{Noted}
use Rattle.judging.specs.Judge.{Body, EndChecked}
use Rattle.judging.specs.Passed.{tail, body_is, end_is, end_refused, end_passed}
use Rattle.reading.specs.Answer.{reading_of, Reads}
use Rattle.reading.proofs.check.Goals as goal

-- what was noted of a record that passes the checks before the walk
module _ {bytes : List ℕ} {n : ℕ} (b : Body bytes n) (notes : Notes) (left bottom : List ℕ) where
  abbrev All : Result ℕ Refusal → Type 0
  All r = (r ≡ reading_of bytes) × Reads r bytes notes left bottom

  all : (r : Result ℕ Refusal) (end : Option Runs) → end_counts end ≡ walk (triple_in (tail bytes)) (n - 1) → Noted end (triple_in (tail bytes)) n notes left bottom
      → EndChecked r (end_counts end) n → All r
  all (Err refusal) end e noted h = (refused_checked Err bytes (Ok (kind_of bytes)) (end_refused b (end_is b e) h), tt)
  all (Ok m) None e noted h = absurd (h.1 tt)
  all (Ok m) (Some runs) e noted h =
      let readable = end_passed b (end_is b e) h.1 h.2 in
      let here = subst (λ (body : List ℕ). Noted (Some runs) (triple_in body) n notes left bottom) (body_is bytes) noted in
      subst (λ (m : ℕ). All (Ok m)) (sym h.0) (
        ap Ok b.kind ∙ readable_checked Err bytes (Ok (kind_of bytes)) readable,
        (record { kind = b.kind; some = b.some; few = b.few; readable = readable; unpacked = here.0; lowers = here.1 }, here.2, here.3),
      )

pub returns-in_err-n-clause-answer : goal.returns-in_err-n-clause-answer
returns-in_err-n-clause-answer c =
    let refused : Err c.in_err-n.field-0.0 ≡ reading_of c.args.«record».now = refused_checked Err c.args.«record».now (Ok (kind_of c.args.«record».now)) c.in_err-n.ensures in
    search rules

pub returns-clause-answer : goal.returns-clause-answer
returns-clause-answer c =
    let w = c.walk-end in (all c.in_ok-n.ensures w.new.notes w.new.left w.new.bottom c.check_end.result w.result w.ensures.counts w.ensures.noted c.check_end.ensures).0

pub returns-clause-noted : goal.returns-clause-noted
returns-clause-noted c =
    let w = c.walk-end in (all c.in_ok-n.ensures w.new.notes w.new.left w.new.bottom c.check_end.result w.result w.ensures.counts w.ensures.noted c.check_end.ensures).1
