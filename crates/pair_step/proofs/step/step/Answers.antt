use Prim.Native.Nat.{◌+◌, ◌-◌}
use mathlib.Core.Path.{◌≡◌, ap, ◌∙◌}
use native.Mathlib.Omega.{arith}
use Rattle.pair_step.specs.Pairs.{jump_in, read_gap_in, graph_gap_in}
use Rattle.pair_step.proofs.PairLaws.{jump_fits, step_late, step-none, step-some}
use Rattle.pair_step.proofs.step.step.Goals as goal

pub returns-then-to-from : goal.returns-then-to-from
returns-then-to-from c = let f = c.args.from in let t = c.args.to in step_late c.args.row.now f.u f.y f.d t.v t.x t.c (omega arith)

pub returns-in_err-s : goal.returns-in_err-s
returns-in_err-s c =
    let f = c.args.from in
    let t = c.args.to in
    rw c.from_residual.ensures (step-none c.args.row.now f.u f.y f.d t.v t.x t.c (omega arith) c.in_err-s.ensures)

pub graph_gap-requires : goal.graph_gap-requires
graph_gap-requires c =
    let f = c.args.from in
    let t = c.args.to in
    let j = c.in_ok-s.ensures in
    let b = jump_fits c.args.row.now f.u f.y t.v t.x (omega arith) c.requires.fact (omega arith) in
    let n = b.1 (λ e. omega arith) in
    (omega arith, omega arith, omega arith)

pub overflow_add-result : goal.overflow_add-result
overflow_add-result c =
    let f = c.args.from in
    let t = c.args.to in
    let j = c.in_ok-s.ensures in
    let b = jump_fits c.args.row.now f.u f.y t.v t.x (omega arith) c.requires.fact (omega arith) in
    omega (arith, c.read_gap.ensures, c.graph_gap.ensures, b.0, j)

pub returns : goal.returns
returns c =
    let f = c.args.from in
    let t = c.args.to in
    let j : jump_in c.args.row.now f.u f.y t.v t.x - 1 ≡ c.in_ok-s.s = omega (arith, c.in_ok-s.ensures) in
    rw (c.read_gap.ensures, c.graph_gap.ensures)
    (step-some c.args.row.now f.u f.y f.d t.v t.x t.c (omega arith) (λ e. omega (arith, c.in_ok-s.ensures))
    ∙ ap (λ s. read_gap_in f.d t.c + graph_gap_in s t.x f.y + 1) j)
