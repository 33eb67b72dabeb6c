use Rattle.std.proofs.Common.{arith}
use Rattle.caseinput.proofs.ReadingLaws.{read_more}
use Rattle.caseinput.proofs.input.read_full.Goals as goal

pub loop-n-preserved : goal.loop-n-preserved
loop-n-preserved g c = record {
  within = omega (arith, c.in_ok-k.ensures.bound);
  read = λ xs e. read_more _ _ xs _ _ _ _ _ (c.loop-n.invariant.read xs e) c.loop-n.invariant.within c.in_ok-k.ensures.bound.0 c.in_ok-k.ensures.bytes.0;
}
