-- `nenturxo::nenturxo_record_in` meets its contract: the answer of Record in, as a number. A plan has at most 255 rooms, so it fits.
use Rattle.nenturxo.proofs.Sizes.{record_fits}
use Rattle.nenturxo.proofs.nenturxo_record_in.Goals as goal

pub size_code-requires : goal.size_code-requires
size_code-requires c = record_fits _ c.record_in-answer.ensures.few
