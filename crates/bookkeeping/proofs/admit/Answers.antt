-- `bookkeeping::admit` meets its contract: each answer is given with its cause.
use mathlib.Core.Path.{sym, ◌∙◌}
use native.Mathlib.Omega.{arith}
use Rattle.std.proofs.lemmas.Result.{err_from_is_err_and}
use Rattle.std.specs.Prelude.{Err, take}
use Rattle.book.specs.Demand1.{Fits, Own, AddSays, beyond, long, bad_book, other, bad_record, too_long, short}
use Rattle.book.specs.declared.BookError.{BookError}
use Rattle.book.specs.declared.BookError.TheVariants.{BadRecord, Refused}
use Rattle.bookkeeping.specs.Found.{SumsUp, summary_in}
use Rattle.bookkeeping.proofs.Summing.{rises_left}
use Rattle.bookkeeping.proofs.Compared.{same_summary, other_summary}
use Rattle.bookkeeping.proofs.Added.{more_is, more_fits}
use Rattle.bookkeeping.proofs.admit.Goals as goal
use Rattle.bookkeeping.proofs.admit.Goals.{Else-ne}

fits_before : (e : Else-ne) → Fits e.args.book.now e.args.used
fits_before e = (omega (arith, e.if-book-used.false), omega (arith, e.if-used-gt65535.false))

own : (e : Else-ne) → Own e.args.book.now e.args.used (summary_in e.args.totals)
own e =
    let s = e.args.totals in
    let t = e.in_ok-sums.sums in
    let sums = e.in_ok-sums.ensures in
    (fits_before e, sums.0, same_summary s.plans s.rooms s.rises s.falls t.plans t.rooms t.rises t.falls _ e.ne.ensures e.if-ne.false ∙ sums.1)

pub returns-then-book-used : goal.returns-then-book-used
returns-then-book-used c = rw c.from.ensures (beyond c.if-book-used.true)

pub returns-then-used-gt65535 : goal.returns-then-used-gt65535
returns-then-used-gt65535 c = rw c.from-then-used-gt65535.ensures (long (omega (arith, c.if-book-used.false)) c.if-used-gt65535.true)

pub returns-in_err-sums : goal.returns-in_err-sums
returns-in_err-sums c =
    let p = err_from_is_err_and c.from_residual.result c.from_residual.ensures.1 in
    rw (p.1, p.2) (first_bad c.in_err-sums.field-0.0 c.in_err-sums.ensures)
  where
    first_bad : (error : BookError) → SumsUp (Err error) (take c.args.used c.args.book.now)
        → AddSays c.args.book.now c.args.used c.args.«record».now (summary_in c.args.totals) (Err error)
    first_bad (BadRecord refusal ordinal) first = bad_book (omega (arith, c.if-book-used.false), omega (arith, c.if-used-gt65535.false)) first
    first_bad (Refused refusal) first = absurd first

pub returns-then-ne : goal.returns-then-ne
returns-then-ne c =
    let s = c.args.totals in
    let t = c.in_ok-sums.sums in
    let sums = c.in_ok-sums.ensures in
    rw c.from-then-ne.ensures
    (other (omega (arith, c.if-book-used.false), omega (arith, c.if-used-gt65535.false)) sums.0
    (λ e. other_summary s.plans s.rooms s.rises s.falls t.plans t.rooms t.rises t.falls _ c.ne.ensures c.if-ne.true (e ∙ sym sums.1)))

pub returns-in_err-judged : goal.returns-in_err-judged
returns-in_err-judged c =
    let p = err_from_is_err_and c.from_residual-in_err-judged.result c.from_residual-in_err-judged.ensures.1 in
    rw (p.1, p.2) (bad_record (own (goal.at.returns-in_err-judged c).Else-ne) c.in_err-judged.ensures)

pub returns-then-size-gt65535 : goal.returns-then-size-gt65535
returns-then-size-gt65535 c =
    rw c.from-then-size-gt65535.ensures
    (too_long (own (goal.at.returns-then-size-gt65535 c).Else-ne) c.in_ok-judged.ensures.readable c.if-size-gt65535.true)

pub returns-then-book-size : goal.returns-then-book-size
returns-then-book-size c =
    rw c.from-then-book-size.ensures
    (short (own (goal.at.returns-then-book-size c).Else-ne) c.in_ok-judged.ensures.readable (omega (arith, c.if-size-gt65535.false))
    c.if-book-size.true)

pub with-requires : goal.with-requires
with-requires c = (
  (rises_left c.in_ok-judged.ensures).0,
  more_fits c.args.book.now c.args.used c.args.«record».now {judged = c.in_ok-judged.judged} (own (goal.at.with-requires c).Else-ne)
      c.in_ok-judged.ensures (omega (arith, c.if-size-gt65535.false)),
)

pub returns : goal.returns
returns c = record {
  own = own (goal.at.returns c).Else-ne;
  readable = c.in_ok-judged.ensures.readable;
  short = omega (arith, c.if-size-gt65535.false);
  lent = omega (arith, c.if-book-size.false);
  after_is =
      c.with.ensures
      ∙ more_is c.args.book.now c.args.used c.args.«record».now {judged = c.in_ok-judged.judged} (own (goal.at.returns c).Else-ne) c.in_ok-judged.ensures;
}
