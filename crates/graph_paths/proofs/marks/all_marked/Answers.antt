use mathlib.Core.Path.{sym}
use native.Mathlib.Omega.{arith}
use Rattle.graph_paths.proofs.Marking.{marked-none, marked-not, marked_more}
use Rattle.graph_paths.proofs.marks.all_marked.Goals as goal

pub loop-v-init : goal.loop-v-init
loop-v-init c = marked-none c.args.flags.now 0 (omega arith)

pub returns-then-not-flags-v : goal.returns-then-not-flags-v
returns-then-not-flags-v c = sym (marked-not c.args.flags.now c.args.n c.loop-v.v (omega arith) c.if-not-flags-v.true)

pub loop-v-preserved : goal.loop-v-preserved
loop-v-preserved c = marked_more c.args.flags.now c.loop-v.v c.if-not-flags-v.false c.loop-v.invariant
