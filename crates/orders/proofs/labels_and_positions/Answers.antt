-- `labels_and_positions` meets its contract: both orders are walked, and the rooms' ranks in them are the labels and the positions.
use Rattle.std.proofs.Common.{arith, length-take-le}
use Rattle.rooms.specs.Lists.{count_of}
use Rattle.orders.specs.CornerLists.{positions_walk, labels_walk}
use Rattle.orders.proofs.Ranking.{walked→ranking}
use Rattle.orders.proofs.labels_and_positions.Goals as goal

pub rank_all-requires-clause-ranked : goal.rank_all-requires-clause-ranked
rank_all-requires-clause-ranked c = rw c.len-n.ensures (
  _,
  walked→ranking (labels_walk c.requires.paired_plan) _
      (omega (arith, c.requires.order_places)) c.both_orders.ensures.labels,
)

pub rank_all-requires-2-clause-ranked : goal.rank_all-requires-2-clause-ranked
rank_all-requires-2-clause-ranked c = rw c.len-n.ensures (
  _,
  walked→ranking (positions_walk c.requires.paired_plan) _
      (omega (arith, c.requires.order_places)) c.both_orders.ensures.positions,
)

pub returns : goal.returns
returns c =
    let plan = c.requires.paired_plan in
    let orders = c.both_orders.ensures in
    let n = c.len-n.ensures in
    let labels = (rw n at c.rank_all.ensures) _ (walked→ranking (labels_walk plan) _ (omega (
      arith,
      c.requires.order_places,
    )) orders.labels) in
    let positions = (rw n at c.rank_all-2.ensures) _
    (walked→ranking (positions_walk plan) _ (omega (arith, c.requires.order_places)) orders.positions) in
    record {
      by_position = orders.positions;
      labels_are = rw (length-take-le (count_of c.args.lists.now) c.both_orders.new.by_label (omega (
        arith,
        c.requires.order_places,
      ))) at labels;
      positions_are = rw (length-take-le (count_of c.args.lists.now) c.both_orders.new.by_position (omega (
        arith,
        c.requires.order_places,
      ))) at positions;
    }
