use native.Mathlib.Omega.{arith}
use native.Mathlib.Nat.{le_trans}
use Rattle.listing_lines.proofs.Rooms.{one_most}
use Rattle.listing_lines.proofs.put_no_file.Goals as goal

pub put_told-requires : goal.put_told-requires
put_told-requires c = le_trans (one_most _ _ (omega arith) (omega arith)) c.requires
