use Prim.Native.Nat.{ℕ, ◌+◌, ◌-◌}
use mathlib.Core.Path.{◌≡◌, sym, ap, ◌∙◌}
use native.Mathlib.Omega.{arith}
use lib.ListN.{get_or}
use Rattle.std.proofs.Common.{rules}
use Rattle.wire.specs.Found.{good, fault}
use Rattle.graph.specs.Rules.{letter_fault}
use Rattle.graph.specs.Reading.{letters_from}
use Rattle.graph_parts.specs.Answers.{letters_answer}
use Rattle.graph_parts.proofs.Lettering.{letters-done, letters_end, letters_bad, letters-next}
use Rattle.graph_parts.proofs.labels.check_letters.Goals as goal

pub returns-then-file-at : goal.returns-then-file-at
returns-then-file-at c =
    let a = c.args in
    let l = c.loop in
    rw c.at.ensures
    (sym (l.invariant.0 ∙ ap (letters_answer a.len (a.cursor.at + a.len))
    (letters_end (a.len - l.counter) a.file.now l.at (omega arith) (omega arith))))

pub returns-in_err-map_err : goal.returns-in_err-map_err
returns-in_err-map_err c =
    let a = c.args in
    let l = c.loop in
    let f : (letter_fault (get_or a.file.now l.at 0) ≡ 0 → ⊥)
    → letters_answer a.len (a.cursor.at + a.len) (letters_from (a.len - l.counter) a.file.now l.at) ≡ fault (letter_fault (get_or a.file.now l.at 0)) l.at =
    λ z. ap (letters_answer a.len (a.cursor.at + a.len)) (letters_bad (a.len - l.counter) a.file.now l.at (omega arith) (omega arith) z) in
    search (rules, f, c.letter_fault.ensures, l.invariant.0)

pub loop-preserved : goal.loop-preserved
loop-preserved c =
    let a = c.args in
    let l = c.loop in
    let f : letter_fault (get_or a.file.now l.at 0) ≡ 0 = search (rules, c.letter_fault.ensures) in (
      l.invariant.0
          ∙ letters-next (a.len - l.counter) a.file.now l.at (omega arith) a.len (a.cursor.at + a.len) (omega arith) f
          ∙ ap (λ (k : ℕ). letters_answer a.len (a.cursor.at + a.len) (letters_from k a.file.now (l.at + 1))) (omega arith),
      omega arith,
    )

pub returns : goal.returns
returns c =
    let a = c.args in
    let l = c.loop in
    ap (λ (j : ℕ). good (record { content = a.len; next = j })) (omega arith)
    ∙ sym (l.invariant.0 ∙ ap (letters_answer a.len (a.cursor.at + a.len)) (letters-done (a.len - l.counter) a.file.now l.at (omega arith)))
