use native.Mathlib.Omega.{arith}
use Rattle.wire.specs.Sizes.{full_chain}
use Rattle.placing_over.proofs.Results.{laid-short}
use Rattle.placing_over.proofs.over.lay_chain.Goals as goal

pub overflow_cast-result : goal.overflow_cast-result
overflow_cast-result c = let e = c.list_chain-found.ensures in omega (arith, laid-short full_chain e.js c.args.chain.now _ e.lies c.list_chain-found.auto.chain c.requires.row_len.2, e.long)
