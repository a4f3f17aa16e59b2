-- `nenturxo::nenturxo_tidy` meets its contract: the answer of Tidy, as a number. A length is at most 912, so it fits.
use Rattle.nenturxo.proofs.Sizes.{tidy_fits}
use Rattle.nenturxo.proofs.nenturxo_tidy.Goals as goal

pub size_code-requires : goal.size_code-requires
size_code-requires c = tidy_fits c.tidy-answer.ensures
