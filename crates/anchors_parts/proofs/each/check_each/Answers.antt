use Prim.Native.Nat.{ℕ, ◌-◌}
use mathlib.Core.Path.{◌≡◌, sym, ap, ◌∙◌}
use native.Mathlib.Omega.{arith}
use Rattle.std.proofs.Common.{rules}
use Rattle.wire.specs.Found.{fault}
use Rattle.graph_parts.specs.Answers.{answered}
use Rattle.anchors.specs.AnchorRules.{own_fault, fault_place, no_anchor}
use Rattle.anchors.specs.AnchorReading.{anchors_from}
use Rattle.anchors_parts.specs.LabelTables.{content_of}
use Rattle.anchors_rules.specs.OneAnchor.{anchor_of}
use Rattle.anchors_parts.proofs.EachLaws.{fault-own, fault-order, fault-none, each-done, each-stop, each_bad, each_next, code-some}
use Rattle.anchors_parts.proofs.each.check_each.Goals as goal

pub returns-in_err-a : goal.returns-in_err-a
returns-in_err-a c =
    let l = c.loop in
    let a = c.args in
    search (
      rules,
      l.invariant ∙ ap (answered a.count)
          (each-stop (content_of a.labels.now) a.read.now (a.count - l.counter) (anchor_of l.last) a.file.now l.place.at (omega arith) (sym c.in_err-a.ensures)),
    )

pub returns-in_err-map_err : goal.returns-in_err-map_err
returns-in_err-map_err c =
    let l = c.loop in
    let a = c.args in
    let g = content_of a.labels.now in
    let f : (k : ℕ) → k ≡ own_fault g a.read.now (anchor_of c.in_ok-a.a) → (k ≡ 0 → ⊥)
    → fault k (fault_place k l.place.at c.in_ok-a.weight_at.at) ≡ answered a.count (anchors_from g a.read.now a.count no_anchor a.file.now a.cursor.at) =
    λ k e n. sym (l.invariant
    ∙ ap (answered a.count)
    (each_bad g a.read.now (a.count - l.counter) (anchor_of l.last) a.file.now l.place.at (omega arith) (sym c.in_ok-a.ensures)
    (fault-own g a.read.now (anchor_of l.last) (anchor_of c.in_ok-a.a) (λ z. n (e ∙ z)) ∙ sym e) n)) in
    search (rules, f, c.own_fault.ensures, code-some)

pub returns-then-not-key_below : goal.returns-then-not-key_below
returns-then-not-key_below c =
    let l = c.loop in
    let a = c.args in
    let g = content_of a.labels.now in
    let e : own_fault g a.read.now (anchor_of c.in_ok-a.a) ≡ 0 = search (rules, c.own_fault.ensures) in
    rw c.at.ensures
    (sym (l.invariant
    ∙ ap (answered a.count)
    (each_bad g a.read.now (a.count - l.counter) (anchor_of l.last) a.file.now l.place.at (omega arith) (sym c.in_ok-a.ensures)
    (fault-order g a.read.now (anchor_of l.last) (anchor_of c.in_ok-a.a) e (sym c.key_below.ensures ∙ c.if-not-key_below.true)) (λ z. omega arith))))

pub loop-preserved : goal.loop-preserved
loop-preserved c =
    let l = c.loop in
    let a = c.args in
    let g = content_of a.labels.now in
    let e : own_fault g a.read.now (anchor_of c.in_ok-a.a) ≡ 0 = search (rules, c.own_fault.ensures) in
    l.invariant
    ∙ each_next g a.read.now (a.count - l.counter) (anchor_of l.last) a.file.now l.place.at (omega arith) a.count (sym c.in_ok-a.ensures)
    (fault-none g a.read.now (anchor_of l.last) (anchor_of c.in_ok-a.a) e (sym c.key_below.ensures ∙ c.if-not-key_below.false))
    ∙ ap (λ (k : ℕ). answered a.count (anchors_from g a.read.now k (anchor_of c.in_ok-a.a) a.file.now c.in_ok-a.next.at)) (omega arith)

pub returns : goal.returns
returns c =
    let l = c.loop in
    let a = c.args in
    sym (l.invariant
    ∙ ap (answered a.count)
    (each-done (content_of a.labels.now) a.read.now (a.count - l.counter) (anchor_of l.last) a.file.now l.place.at (omega arith)))
