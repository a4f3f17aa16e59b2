-- `nenturxo::nenturxo_book_next` meets its contract: the answer of reading on, as a number.
use Rattle.nenturxo.proofs.BookSizes.{next_fits}
use Rattle.nenturxo.proofs.nenturxo_book_next.Goals as goal

pub next_code-requires : goal.next_code-requires
next_code-requires c = let a = c.args in rw c.next_answer-answer.ensures (next_fits a.book.now a.used a.place)
