-- `nenturxo::nenturxo_tree` meets its contract: the answer of Tree, as a number. A tree has at most 763 bytes, so it fits.
use Rattle.nenturxo.proofs.Sizes.{tree_fits}
use Rattle.nenturxo.proofs.nenturxo_tree.Goals as goal

pub size_code-requires : goal.size_code-requires
size_code-requires c = tree_fits _ c.tree-answer.ensures.few
