use native.Mathlib.Omega.{arith}
use native.Mathlib.Nat.{le_trans}
use Rattle.listing_lines.proofs.Rooms.{told_most}
use Rattle.listing_lines.proofs.put_refused.Goals as goal

pub put_told-requires : goal.put_told-requires
put_told-requires c =
    le_trans (told_most _ _ _ _ _ _ (omega arith) (omega arith) (omega arith) (omega arith) (omega arith) (omega arith)) c.requires
