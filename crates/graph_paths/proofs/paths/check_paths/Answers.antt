use Prim.Native.Nat.{ℕ, ◌-◌}
use mathlib.Core.Path.{◌≡◌, refl, sym, ap, ◌∙◌, subst}
use native.Mathlib.Omega.{arith}
use lib.ListN.{length, length-set}
use borrow.Author.Tests.{not-true, not-false}
use Rattle.std.proofs.Common.{rules}
use Rattle.wire.specs.Found.{fault}
use Rattle.graph.specs.Reading.{paths_from}
use Rattle.graph_rules.specs.Rise.{rise_fault}
use Rattle.graph_parts.specs.Answers.{answered}
use Rattle.graph_paths.specs.PathAnswers.{edges_in}
use Rattle.graph_paths.proofs.Stepping.{ahead-start, rise_kept}
use Rattle.graph_paths.proofs.Walking.{Walked, walked_none, walked_done, walked_stop, walking_start, walking_end, walking_stop, walking_bad, walking_off, walking_next, answer-good, marked_fault, more_left}
use Rattle.graph_paths.proofs.paths.check_paths.Goals as goal

pub loop-init : goal.loop-init
loop-init c = let a = c.args in (subst (λ (j : ℕ). Walked a.n (edges_in a.n a.m a.file.now a.edges) a.k a.file.now a.cursor.at a.flags.now a.cursor.at j) (omega arith) (walked_none a.n (edges_in a.n a.m a.file.now a.edges) a.k a.file.now a.cursor.at a.flags.now c.requires.marks), refl)

pub returns-in_default-clause-value : goal.returns-in_default-clause-value
returns-in_default-clause-value c =
    let a = c.args in
    let o = c.loop in
    search (rules, ap (answered a.k) (walked_stop a.n (edges_in a.n a.m a.file.now a.edges) a.k a.file.now a.cursor.at o.flags o.next.at (a.k - o.counter) o.invariant.0 (λ z. omega arith) (sym c.in_default.ensures)))

pub returns-in_default-clause-marked : goal.returns-in_default-clause-marked
returns-in_default-clause-marked c =
    let a = c.args in
    let o = c.loop in
    marked_fault o.flags a.n (walked_stop a.n (edges_in a.n a.m a.file.now a.edges) a.k a.file.now a.cursor.at o.flags o.next.at (a.k - o.counter) o.invariant.0 (λ z. omega arith) (sym c.in_default.ensures))

pub loop-2-init : goal.loop-2-init
loop-2-init c =
    let a = c.args in
    let o = c.loop in (
      more_left (omega arith)
          (walking_start a.n (edges_in a.n a.m a.file.now a.edges) a.k a.file.now a.cursor.at o.flags o.next.at (a.k - o.counter) o.invariant.0 a.edges a.m (λ z. omega arith) (sym c.in-Ok.ensures)
          (ahead-start a.n a.m a.file.now a.edges c.requires.has_edges)),
      o.invariant.1,
    )

pub returns-in_default-got-clause-value : goal.returns-in_default-got-clause-value
returns-in_default-got-clause-value c =
    let a = c.args in
    let o = c.loop in
    let l = c.loop-2 in
    search (
      rules,
      ap (answered a.k)
          (walking_stop a.n (edges_in a.n a.m a.file.now a.edges) a.k a.file.now a.cursor.at (a.k - o.counter) l.flags l.next.at (c.in-Ok.count - l.counter) l.last l.step.at l.step.left l.invariant.0
          (omega arith) (sym c.in_default-got.ensures)),
    )

pub returns-in_default-got-clause-marked : goal.returns-in_default-got-clause-marked
returns-in_default-got-clause-marked c =
    let a = c.args in
    let o = c.loop in
    let l = c.loop-2 in
    marked_fault l.flags a.n
    (walking_stop a.n (edges_in a.n a.m a.file.now a.edges) a.k a.file.now a.cursor.at (a.k - o.counter) l.flags l.next.at (c.in-Ok.count - l.counter) l.last l.step.at l.step.left l.invariant.0
    (omega arith) (sym c.in_default-got.ensures))

pub returns-in-Err-clause-value : goal.returns-in-Err-clause-value
returns-in-Err-clause-value c =
    let a = c.args in
    let o = c.loop in
    let l = c.loop-2 in
    let f : (rise_fault a.n l.last c.in-Ok-got.v ≡ 0 → ⊥)
    → answered a.k (paths_from a.n (edges_in a.n a.m a.file.now a.edges) a.k a.file.now a.cursor.at) ≡ fault (rise_fault a.n l.last c.in-Ok-got.v) l.next.at =
    λ z. ap (answered a.k)
    (walking_bad a.n (edges_in a.n a.m a.file.now a.edges) a.k a.file.now a.cursor.at (a.k - o.counter) l.flags l.next.at (c.in-Ok.count - l.counter) l.last l.step.at l.step.left l.invariant.0
    (omega arith) (sym c.in-Ok-got.ensures) z) in
    search (rules, f, c.rise_fault.ensures)

pub returns-in-Err-clause-marked : goal.returns-in-Err-clause-marked
returns-in-Err-clause-marked c =
    let a = c.args in
    let o = c.loop in
    let l = c.loop-2 in
    let z : rise_fault a.n l.last c.in-Ok-got.v ≡ 0 → ⊥ = search (rules, c.rise_fault.ensures) in
    marked_fault l.flags a.n
    (walking_bad a.n (edges_in a.n a.m a.file.now a.edges) a.k a.file.now a.cursor.at (a.k - o.counter) l.flags l.next.at (c.in-Ok.count - l.counter) l.last l.step.at l.step.left l.invariant.0
    (omega arith) (sym c.in-Ok-got.ensures) z)

pub returns-then-not-step-clause-value : goal.returns-then-not-step-clause-value
returns-then-not-step-clause-value c =
    let a = c.args in
    let o = c.loop in
    let l = c.loop-2 in
    let r : rise_fault a.n l.last c.in-Ok-got.v ≡ 0 = search (rules, c.rise_fault.ensures) in
    rw c.at-then-not-step.ensures
    (sym (ap (answered a.k)
    (walking_off a.n (edges_in a.n a.m a.file.now a.edges) a.k a.file.now a.cursor.at (a.k - o.counter) l.flags l.next.at (c.in-Ok.count - l.counter) l.last l.step.at l.step.left l.invariant.0
    (omega arith) (sym c.in-Ok-got.ensures) r c.find_step-step.ensures (not-true _ c.if-not-step.true))))

pub returns-then-not-step-clause-marked : goal.returns-then-not-step-clause-marked
returns-then-not-step-clause-marked c =
    let a = c.args in
    let o = c.loop in
    let l = c.loop-2 in
    let r : rise_fault a.n l.last c.in-Ok-got.v ≡ 0 = search (rules, c.rise_fault.ensures) in
    marked_fault l.flags a.n
    (walking_off a.n (edges_in a.n a.m a.file.now a.edges) a.k a.file.now a.cursor.at (a.k - o.counter) l.flags l.next.at (c.in-Ok.count - l.counter) l.last l.step.at l.step.left l.invariant.0
    (omega arith) (sym c.in-Ok-got.ensures) r c.find_step-step.ensures (not-true _ c.if-not-step.true))

pub mark-requires : goal.mark-requires
mark-requires c =
    let l = c.loop-2 in
    let r : rise_fault c.args.n l.last c.in-Ok-got.v ≡ 0 = search (rules, c.rise_fault.ensures) in
    let t = rise_kept c.args.n l.last c.in-Ok-got.v r in
    (t.0, omega (arith, l.invariant.0.marks.room))

pub loop-2-preserved : goal.loop-2-preserved
loop-2-preserved c =
    let a = c.args in
    let o = c.loop in
    let l = c.loop-2 in
    let r : rise_fault a.n l.last c.in-Ok-got.v ≡ 0 = search (rules, c.rise_fault.ensures) in (
      more_left (omega arith)
          (walking_next a.n (edges_in a.n a.m a.file.now a.edges) a.k a.file.now a.cursor.at (a.k - o.counter) l.flags l.next.at (c.in-Ok.count - l.counter) l.last l.step.at l.step.left l.invariant.0
          (omega arith) (sym c.in-Ok-got.ensures) r c.find_step-step.ensures (not-false _ c.if-not-step.false) c.mark.ensures),
      ap length c.mark.ensures ∙ simp length-set l.invariant.1,
    )

pub loop-preserved : goal.loop-preserved
loop-preserved c =
    let a = c.args in
    let o = c.loop in
    let l = c.loop-2 in
    let w = walking_end a.n (edges_in a.n a.m a.file.now a.edges) a.k a.file.now a.cursor.at (a.k - o.counter) l.flags l.next.at (c.in-Ok.count - l.counter) l.last l.step.at l.step.left l.invariant.0 (omega arith) in (
      subst (λ (j : ℕ). Walked a.n (edges_in a.n a.m a.file.now a.edges) a.k a.file.now a.cursor.at l.flags l.next.at j) (omega arith) w,
      l.invariant.1,
    )

pub returns-after-loop-clause-value : goal.returns-after-loop-clause-value
returns-after-loop-clause-value c =
    let a = c.args in
    let o = c.loop in
    (answer-good a.k a.n o.flags (paths_from a.n (edges_in a.n a.m a.file.now a.edges) a.k a.file.now a.cursor.at)
    (walked_done a.n (edges_in a.n a.m a.file.now a.edges) a.k a.file.now a.cursor.at o.flags o.next.at (a.k - o.counter) o.invariant.0 (omega arith)) o.invariant.0.marks).0

pub returns-after-loop-clause-marked : goal.returns-after-loop-clause-marked
returns-after-loop-clause-marked c =
    let a = c.args in
    let o = c.loop in
    (answer-good a.k a.n o.flags (paths_from a.n (edges_in a.n a.m a.file.now a.edges) a.k a.file.now a.cursor.at)
    (walked_done a.n (edges_in a.n a.m a.file.now a.edges) a.k a.file.now a.cursor.at o.flags o.next.at (a.k - o.counter) o.invariant.0 (omega arith)) o.invariant.0.marks).1
