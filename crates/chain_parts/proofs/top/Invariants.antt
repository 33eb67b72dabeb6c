use Prim.Native.Nat.{◌+◌}
use Rattle.chain.specs.Named.{Top}
use Rattle.chain_parts.proofs.top.Given as goal

abbrev pub invariant-loop-i : goal.invariant-loop-i
invariant-loop-i l = Top l.i l.scores (l.best + 1)
