-- `orders_with` meets its contract: the rooms at the outline's corners are the first, and the walks go by the turned links.
use Rattle.std.proofs.Common.{ap, ℕ, ◌/◌, arith}
use Rattle.orders.specs.CornerLists.{positions_walk, labels_walk}
use Rattle.orders.proofs.Walking.{walk_from}
use Rattle.orders.proofs.orders_with.Goals as goal

pub walk-requires-clause-walk_both : goal.walk-requires-clause-walk_both
walk-requires-clause-walk_both g c =
    let plan = c.requires.paired_plan in
    let n = c.len-n.ensures in
    record {
      by_position = walk_from (positions_walk plan) _ (ap (λ (z : ℕ). z / 2) (rw n at c.from-first_up.ensures))
          (omega (arith, c.requires.links, c.turn.auto.turned)) (rw n at c.turn.ensures);
      by_label = walk_from (labels_walk plan) _ (ap (λ (z : ℕ). z / 2) (rw n at c.from-first_down.ensures))
          (omega (arith, c.requires.links, c.turn-2.auto.turned)) (rw n at c.turn-2.ensures);
    }
