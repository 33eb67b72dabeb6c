use mathlib.Core.Path.{sym}
use Rattle.wire_lent.proofs.Rooms.{room-long}
use Rattle.listing.proofs.listing_room.Goals as goal

pub returns : goal.returns
returns c = sym (room-long 163920 c.zeros.ensures)
