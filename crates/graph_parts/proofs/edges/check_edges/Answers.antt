use Prim.Native.Nat.{ℕ, ◌-◌}
use mathlib.Core.Path.{◌≡◌, sym, ap, ◌∙◌}
use native.Mathlib.Omega.{arith}
use Rattle.std.proofs.Common.{rules}
use Rattle.wire.specs.Found.{fault, told}
use Rattle.graph.specs.Rules.{edge_fault}
use Rattle.graph.specs.Reading.{edges_from}
use Rattle.graph_rules.specs.Edges.{edge_of}
use Rattle.graph_parts.specs.Answers.{answered}
use Rattle.graph_parts.proofs.Edging.{edges-done, edges-stop, edges-stop_second, edges_bad, edges-next}
use Rattle.graph_parts.proofs.edges.check_edges.Goals as goal

pub returns-in_err-from : goal.returns-in_err-from
returns-in_err-from c =
    let l = c.loop in
    let a = c.args in
    search (
      rules,
      l.invariant ∙ ap (answered a.m) (edges-stop a.n (a.m - l.counter) (edge_of l.last) a.file.now l.next.at (omega arith) (sym c.in_err-from.ensures)),
    )

pub returns-in_err-to : goal.returns-in_err-to
returns-in_err-to c =
    let l = c.loop in
    let a = c.args in
    search (
      rules,
      l.invariant ∙ ap (answered a.m)
          (edges-stop_second a.n (a.m - l.counter) (edge_of l.last) a.file.now l.next.at (omega arith) (sym c.in_ok-from.ensures) (sym c.in_err-to.ensures)),
    )

pub returns-in_err-map_err : goal.returns-in_err-map_err
returns-in_err-map_err c =
    let l = c.loop in
    let a = c.args in
    let e : edge_fault a.n (edge_of l.last) (record { from = c.in_ok-from.from; to = c.in_ok-to.to }) ≡ told c.edge_fault.result = sym c.edge_fault.ensures in
    let f : (edge_fault a.n (edge_of l.last) (record { from = c.in_ok-from.from; to = c.in_ok-to.to }) ≡ 0 → ⊥)
    → answered a.m (edges_from a.n (a.m - l.counter) (edge_of l.last) a.file.now l.next.at)
    ≡ fault (edge_fault a.n (edge_of l.last) (record { from = c.in_ok-from.from; to = c.in_ok-to.to })) l.next.at = λ z. ap (answered a.m)
    (edges_bad a.n (a.m - l.counter) (edge_of l.last) a.file.now l.next.at (omega arith) (sym c.in_ok-from.ensures) (sym c.in_ok-to.ensures) z) in
    search (rules, f, e, l.invariant)

pub loop-preserved : goal.loop-preserved
loop-preserved c =
    let l = c.loop in
    let a = c.args in
    let f : edge_fault a.n (edge_of l.last) (record { from = c.in_ok-from.from; to = c.in_ok-to.to }) ≡ 0 = search (rules, c.edge_fault.ensures) in
    l.invariant
    ∙ edges-next a.n (a.m - l.counter) (edge_of l.last) a.file.now l.next.at (omega arith) (sym c.in_ok-from.ensures) (sym c.in_ok-to.ensures) a.m f
    ∙ ap (λ (k : ℕ). answered a.m (edges_from a.n k (record { from = c.in_ok-from.from; to = c.in_ok-to.to }) a.file.now c.in_ok-to.after.at)) (omega arith)

pub returns : goal.returns
returns c =
    let l = c.loop in
    let a = c.args in
    sym (l.invariant ∙ ap (answered a.m)
    (edges-done a.n (a.m - l.counter) (edge_of l.last) a.file.now l.next.at (omega arith)))
