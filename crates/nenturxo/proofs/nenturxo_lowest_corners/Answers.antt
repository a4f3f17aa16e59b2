-- `nenturxo::nenturxo_lowest_corners` meets its contract: the answer for the lowest corners, as a number. A plan has at most 255 rooms, so it fits.
use Rattle.nenturxo.proofs.Sizes.{corners_fit}
use Rattle.nenturxo.proofs.nenturxo_lowest_corners.Goals as goal

pub size_code-requires : goal.size_code-requires
size_code-requires c = corners_fit _ c.lowest_corners-answer.ensures.few
