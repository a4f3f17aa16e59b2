-- A record that may be added: its totals fit beside the book's, and what is left is the lengthened book and its summary.
use mathlib.Core.List.{List, ◌++◌}
use mathlib.Core.Path.{◌≡◌, refl, sym, ap, subst, ◌∙◌}
use Prim.Native.Nat.{ℕ, ◌+◌, ◌≤◌}
use native.Mathlib.Omega.{arith}
use lib.ListN.{length, take, length-append}
use lib.Seq.{length-take-le}
use Rattle.std.specs.Prelude.{Ok, Err}
use Rattle.book.specs.Book.{longest}
use Rattle.book.specs.Summary.{Summary, Fits32, summary_of}
use Rattle.book.specs.Course.{plus}
use Rattle.book.specs.Answer.{BookAdd}
use Rattle.book.specs.Joined.{good_one_more}
use Rattle.book.specs.Totals.{summary_one_more}
use Rattle.book.specs.M107.{m107_totals_fit}
use Rattle.book.specs.Demand1.{Own, AddSays, added, demand1_add_answer}
use Rattle.book.specs.declared.BookError.{BookError}
use Rattle.judging.specs.declared.Judged.{Judged}
use Rattle.judging.specs.Judge.{Accepts}
use Rattle.bookkeeping.specs.Found.{counted_in, Admitted, appended}
use Rattle.bookkeeping.proofs.Summing.{counted_is}

module _ (book : List ℕ) (used : ℕ) («record» : List ℕ) {s : Summary} {judged : Judged} (own : Own book used s)
    (accepts : Accepts «record» judged.rooms judged.falls) where
  pub more_is : counted_in s judged ≡ summary_of (take used book ++ «record»)
  more_is =
      counted_is s judged accepts ∙ ap (λ (t : Summary). plus t «record») own.2
      ∙ sym (summary_one_more (take used book) «record» own.1 accepts.readable)

  pub more_fits : used + length «record» ≤ longest → Fits32 (counted_in s judged)
  more_fits short =
      subst Fits32 (sym more_is)
      (m107_totals_fit (take used book ++ «record») (good_one_more (take used book) «record» own.1 accepts.readable)
      (omega (arith, length-append (take used book) «record», length-take-le used book (omega (arith, own.0.0)), short)))

module _ {book : List ℕ} {used : ℕ} {«record» : List ℕ} {s : Summary} where
  pub adds : {after : Summary} → Admitted book used «record» s after
      → BookAdd book used «record» s (Ok (used + length «record»)) (appended book used «record») after
  adds a = record {
    answered = demand1_add_answer book used «record» s (added a.own a.readable (omega (arith, a.short)) (omega (arith, a.lent)));
    bytes_left = refl;
    summary_left = a.after_is;
  }

  -- what was refused changes nothing
  pub changes_nothing : (error : BookError) → AddSays book used «record» s (Err error) → BookAdd book used «record» s (Err error) book s
  changes_nothing error says = record { answered = demand1_add_answer book used «record» s says; bytes_left = refl; summary_left = refl }
