-- `nenturxo::nenturxo_rooms_in` meets its contract: the answer of Rooms in, as a number. A length is at most 97, so it fits.
use Rattle.nenturxo.proofs.Sizes.{rooms_fit}
use Rattle.nenturxo.proofs.nenturxo_rooms_in.Goals as goal

pub size_code-requires : goal.size_code-requires
size_code-requires c = rooms_fit c.rooms_in-answer.ensures
