use Rattle.wire_lent.proofs.Rooms.{front_long, front_flat}
use Rattle.plain_engine.proofs.plain_scores.Goals as goal

pub fill_order-requires-clause-order_len_bound : goal.fill_order-requires-clause-order_len_bound
fill_order-requires-clause-order_len_bound c =
    let f = rw (← c.s.view_is) at c.requires.can_place in
    let l = front_long 2048 c.zeros-order.ensures c.s.inside.count f.2 in
    (rw l f.2, front_flat 32768 c.zeros-heads.ensures c.args.r)
