use Rattle.wire_lent.proofs.Rooms.{front_flat}
use Rattle.tables_make.proofs.make.make_tables.Goals as goal

pub list_and_fill-requires-clause-by_index : goal.list_and_fill-requires-clause-by_index
list_and_fill-requires-clause-by_index c = front_flat 1024 c.zeros-heads.ensures c.content.inside.n
