use native.Mathlib.Omega.{arith}
use Rattle.graph_bytes.proofs.Along.{along-none, along_as, along-within, along-room}
use Rattle.decimal_text.specs.Words.{line_end}
use Rattle.decimal_text.proofs.Each.{said_in, no_part, told_parts, each_lent, each_more, each_past}
use Rattle.decimal_text.proofs.Ending.{along_byte}
use Rattle.decimal_text.proofs.put_told.Goals as goal

pub loop-word-init : goal.loop-word-init
loop-word-init c = along_as _ (told_parts c.args.parts.now) (along-none _ _ c.requires)

pub slice_bounds-put_said-count : goal.slice_bounds-put_said-count
slice_bounds-put_said-count c = along-within c.loop-word.invariant

pub put_said-at-requires : goal.put_said-at-requires
put_said-at-requires c = each_lent said_in no_part c.args.parts.now line_end c.loop-word.word-index (omega arith) c.loop-word.invariant

pub loop-word-preserved : goal.loop-word-preserved
loop-word-preserved c =
    each_more said_in no_part c.args.parts.now line_end c.loop-word.word-index (omega arith) c.loop-word.invariant _ _ c.put_said-at.ensures.0 c.put_said-at.ensures.1

pub bounds-out-at : goal.bounds-out-at
bounds-out-at c =
    omega (arith, along-room (each_past said_in c.args.parts.now line_end c.loop-word.word-index (omega arith) c.loop-word.invariant))

pub returns : goal.returns
returns c =
    along_byte _ _ _ _ _ (each_past said_in c.args.parts.now line_end c.loop-word.word-index (omega arith) c.loop-word.invariant)
