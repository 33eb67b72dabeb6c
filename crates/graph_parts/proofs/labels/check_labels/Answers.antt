use Prim.Native.Nat.{ℕ, ◌+◌, ◌-◌}
use mathlib.Core.Path.{◌≡◌, sym, ap, ◌∙◌}
use native.Mathlib.Omega.{arith}
use Rattle.std.proofs.Common.{rules}
use Rattle.wire.specs.Found.{fault}
use Rattle.graph.specs.Rules.{length_fault}
use Rattle.graph.specs.Reading.{labels_from}
use Rattle.graph.proofs.Kept.{length_kept}
use Rattle.graph_parts.specs.Answers.{labels_answer}
use Rattle.graph_parts.proofs.Lettering.{labels_end, labels-stop, labels-long, labels_letter, labels_next}
use Rattle.graph_parts.proofs.labels.check_labels.Goals as goal

pub returns-in_err-len : goal.returns-in_err-len
returns-in_err-len c =
    let a = c.args in
    let l = c.loop in
    search (
      rules,
      l.invariant ∙ ap (labels_answer l.sum) (labels-stop (a.n - l.counter) l.sum a.file.now l.next.at (omega arith) (sym c.in_err-len.ensures)),
    )

pub returns-in_err-map_err : goal.returns-in_err-map_err
returns-in_err-map_err c =
    let a = c.args in
    let l = c.loop in
    let f : (length_fault l.sum c.in_ok-len.len ≡ 0 → ⊥)
    → labels_answer l.sum (labels_from (a.n - l.counter) l.sum a.file.now l.next.at) ≡ fault (length_fault l.sum c.in_ok-len.len) l.next.at =
    λ z. ap (labels_answer l.sum) (labels-long (a.n - l.counter) l.sum a.file.now l.next.at (omega arith) (sym c.in_ok-len.ensures) z) in
    search (rules, f, c.length_fault.ensures, l.invariant)

pub returns-in_err-after : goal.returns-in_err-after
returns-in_err-after c =
    let a = c.args in
    let l = c.loop in
    let r : length_fault l.sum c.in_ok-len.len ≡ 0 = search (rules, c.length_fault.ensures) in
    search (
      rules,
      l.invariant ∙ ap (labels_answer l.sum)
          (labels_letter (a.n - l.counter) l.sum a.file.now l.next.at (omega arith) (sym c.in_ok-len.ensures) r (sym c.in_err-after.ensures)),
    )

pub overflow_add-sum : goal.overflow_add-sum
overflow_add-sum c =
    let l = c.loop in
    let r : length_fault l.sum c.in_ok-len.len ≡ 0 = search (rules, c.length_fault.ensures) in
    omega (arith, length_kept l.sum c.in_ok-len.len r)

pub loop-preserved : goal.loop-preserved
loop-preserved c =
    let a = c.args in
    let l = c.loop in
    let r : length_fault l.sum c.in_ok-len.len ≡ 0 = search (rules, c.length_fault.ensures) in
    l.invariant
    ∙ labels_next (a.n - l.counter) l.sum a.file.now l.next.at (omega arith) (sym c.in_ok-len.ensures) r (sym c.in_ok-after.ensures)
    ∙ ap (λ (k : ℕ). labels_answer (l.sum + c.in_ok-len.len) (labels_from k (l.sum + c.in_ok-len.len) a.file.now c.in_ok-after.after.at)) (omega arith)

pub returns : goal.returns
returns c =
    let a = c.args in
    let l = c.loop in
    labels_end (a.n - l.counter) l.sum a.file.now l.next.at (omega arith) ∙ sym l.invariant
