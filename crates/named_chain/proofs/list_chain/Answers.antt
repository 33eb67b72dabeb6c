use mathlib.Core.Path.{refl, ◌∙◌}
use native.Mathlib.Nat.{le_refl}
use native.Mathlib.Omega.{arith}
use Rattle.std.proofs.Common.{rules}
use Rattle.std.proofs.lemmas.Slice.{between_to_end}
use Rattle.wire.proofs.Laying.{filled_none, filled_more, filled-done}
use Rattle.named_chain.proofs.WayLaws.{chain_none, chain_some}
use Rattle.named_chain.proofs.list_chain.Goals as goal

pub returns-then-is_empty : goal.returns-then-is_empty
returns-then-is_empty c = rw c.zero_rest.ensures (chain_none c.requires.scored c.args.chain.now (search rules))

pub loop-i-init : goal.loop-i-init
loop-i-init c = filled_none _ _

pub loop-i-preserved : goal.loop-i-preserved
loop-i-preserved c =
    let l = c.loop-i in
    filled_more _ _ _ l.i _ (omega arith) (omega arith) refl l.invariant

pub returns : goal.returns
returns c =
    rw c.zero_rest-2.ensures
    (chain_some c.requires.scored c.way_back-at.new.back _ c.args.chain.now _ c.top-last.result c.way_back-at.result (c.way_back-at.auto.back ∙ c.requires.row_len.1)
    (between_to_end c.way_back-at.new.back c.way_back-at.result _ (le_refl _)) c.top-last.ensures c.way_back-at.ensures.1
    (filled-done _ _ _ c.loop-i.i (omega arith) c.loop-i.invariant))
