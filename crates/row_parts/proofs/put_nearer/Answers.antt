use mathlib.Core.Path.{ap}
use lib.ListN.{set}
use Rattle.cover.specs.Row.{put}
use Rattle.row_parts.proofs.put_nearer.Goals as goal

pub returns : goal.returns
unfolding put
returns c = let a = c.args in ap (set a.row.now _) c.nearer.ensures
