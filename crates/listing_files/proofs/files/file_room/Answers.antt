use mathlib.Core.Path.{sym}
use Rattle.wire_lent.proofs.Rooms.{room-long}
use Rattle.listing_files.proofs.files.file_room.Goals as goal

pub returns : goal.returns
returns c = sym (room-long 65537 c.zeros.ensures)
