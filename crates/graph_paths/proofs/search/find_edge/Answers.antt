use Prim.Native.Nat.{ℕ, ◌-◌}
use mathlib.Core.Path.{sym, ap, ◌∙◌}
use mathlib.Core.Bool.{Bool, false}
use native.Mathlib.Omega.{arith}
use Rattle.graph_paths.specs.Steps.{search_at}
use Rattle.graph_paths.proofs.Searching.{search_done, search_stop, search_stop_second, search_end, search_next}
use Rattle.graph_paths.proofs.search.find_edge.Goals as goal

pub returns-in_default : goal.returns-in_default
returns-in_default c =
    let l = c.loop-passed in
    let a = c.args in
    sym (l.invariant ∙ search_stop (a.count - l.passed) a.file.now l.at a.wanted.from a.wanted.to (omega arith) (sym c.in_default.ensures))

pub returns-in_default-read_number : goal.returns-in_default-read_number
returns-in_default-read_number c =
    let l = c.loop-passed in
    let a = c.args in
    sym (l.invariant ∙ search_stop_second (a.count - l.passed) a.file.now l.at a.wanted.from a.wanted.to (omega arith)
    (sym c.in-Ok.ensures) (sym c.in_default-read_number.ensures))

pub returns-then-not-edge_below : goal.returns-then-not-edge_below
returns-then-not-edge_below c =
    let l = c.loop-passed in
    let a = c.args in
    ap (λ (b : Bool). record { found = b; at = l.at; left = a.count - l.passed }) c.eq.ensures
    ∙ sym (l.invariant ∙ search_end (a.count - l.passed) a.file.now l.at a.wanted.from a.wanted.to (omega arith)
    (sym c.in-Ok.ensures) (sym c.in-Ok-read_number.ensures)
    (sym c.edge_below.ensures ∙ c.if-not-edge_below.true))

pub loop-passed-preserved : goal.loop-passed-preserved
loop-passed-preserved c =
    let l = c.loop-passed in
    let a = c.args in
    l.invariant ∙ search_next (a.count - l.passed) a.file.now l.at a.wanted.from a.wanted.to (omega arith)
    (sym c.in-Ok.ensures) (sym c.in-Ok-read_number.ensures) (sym c.edge_below.ensures ∙ c.if-not-edge_below.false)
    ∙ ap (λ (k : ℕ). search_at k a.file.now c.in-Ok-read_number.next.at a.wanted.from a.wanted.to) (omega arith)

pub returns : goal.returns
returns c =
    let l = c.loop-passed in
    let a = c.args in
    ap (λ (k : ℕ). record { found = false; at = l.at; left = k }) (omega arith)
    ∙ sym (l.invariant ∙ search_done (a.count - l.passed) a.file.now l.at a.wanted.from a.wanted.to (omega arith))
