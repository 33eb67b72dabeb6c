use Rattle.std.proofs.Common.{arith}
use Rattle.loaded.proofs.Reading.{gave_more}
use Rattle.loaded.proofs.read_part.Goals as goal

pub loop-n-preserved : goal.loop-n-preserved
loop-n-preserved g c =
    let e = c.in_ok-k.ensures in
    record {
      in_room = omega (arith, e.bound.0);
      gave = gave_more _ _ _ c.loop-n.room c.read.new.buf _ c.loop-n.n c.in_ok-k.k (omega arith) e.bound.0 c.loop-n.invariant.gave e.bytes.0;
    }
