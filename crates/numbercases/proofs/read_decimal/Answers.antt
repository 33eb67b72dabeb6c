use Rattle.std.proofs.Common.{sym, ◌∙◌, arith}
use Rattle.numbercases.proofs.CaseLaws.{decimal-more, decimal_end}
use Rattle.numbercases.proofs.read_decimal.Goals as goal

pub loop-b-preserved : goal.loop-b-preserved
loop-b-preserved c =
    rw c.from.ensures
    (c.loop-b.invariant
    ∙ decimal-more c.args.s.now c.loop-b.b-index c.loop-b.value c.in_ok-d.d c.loop-b-test.true (omega arith) c.in_ok-d.ensures.1)

pub returns : goal.returns
returns c = sym (c.loop-b.invariant ∙ decimal_end c.args.s.now c.loop-b.b-index c.loop-b.value (omega arith))
