-- `nenturxo::nenturxo_labels_in` meets its contract: the answer of Labels in, as a number. A length is at most 97, so it fits.
use Rattle.nenturxo.proofs.Sizes.{labels_fit}
use Rattle.nenturxo.proofs.nenturxo_labels_in.Goals as goal

pub size_code-requires : goal.size_code-requires
size_code-requires c = labels_fit c.labels_in-answer.ensures
