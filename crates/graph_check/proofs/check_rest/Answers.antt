use mathlib.Core.Path.{sym, ap, ◌∙◌}
use Rattle.std.proofs.Common.{rules}
use Rattle.graph_check.specs.Checked.{checked_of}
use Rattle.graph_paths.proofs.Marking.{marks_start}
use Rattle.graph_parts.proofs.Passing.{answered-fault}
use Rattle.graph_check.proofs.Fronting.{covered, head-edges, head_few, rest-stop, rest-fault, rest_off, rest-left, rest-good}
use Rattle.graph_check.proofs.check_rest.Goals as goal

pub returns-in_err-k : goal.returns-in_err-k
returns-in_err-k c =
    let a = c.args in
    search (rules, ap checked_of (rest-stop a.file.now a.head c.requires (sym c.in_err-k.ensures)))

pub check_paths-requires-clause-has_edges : goal.check_paths-requires-clause-has_edges
check_paths-requires-clause-has_edges c = head-edges c.args.file.now c.args.head c.requires

pub check_paths-requires-clause-marks : goal.check_paths-requires-clause-marks
check_paths-requires-clause-marks c =
    let a = c.args in
    marks_start c.no_marks-flags.result a.head.n c.no_marks-flags.ensures (head_few a.file.now a.head c.requires)

pub returns-in_err-end : goal.returns-in_err-end
returns-in_err-end c =
    let a = c.args in
    search (
      rules,
      ap checked_of (rest-fault a.file.now a.head c.requires (sym c.in_ok-k.ensures) (answered-fault _ _ (sym c.in_err-end.ensures.value))),
    )

pub all_marked-requires : goal.all_marked-requires
all_marked-requires c =
    let a = c.args in
    (covered a.file.now a.head _ _ c.check_paths.new.flags c.in_ok-end.ensures.value c.in_ok-end.ensures.marked).marks.room

pub returns-then-not-all_marked : goal.returns-then-not-all_marked
returns-then-not-all_marked c =
    let a = c.args in
    let f = covered a.file.now a.head _ _ c.check_paths.new.flags c.in_ok-end.ensures.value c.in_ok-end.ensures.marked in
    rw c.at.ensures
    (sym (ap checked_of (rest_off a.file.now a.head c.requires (sym c.in_ok-k.ensures) f (sym c.all_marked.ensures ∙ c.if-not-all_marked.true))))

pub returns-then-end-file : goal.returns-then-end-file
returns-then-end-file c =
    let a = c.args in
    let f = covered a.file.now a.head _ _ c.check_paths.new.flags c.in_ok-end.ensures.value c.in_ok-end.ensures.marked in
    rw c.at-then-end-file.ensures
    (sym (ap checked_of (rest-left a.file.now a.head c.requires (sym c.in_ok-k.ensures) f
    (sym c.all_marked.ensures ∙ c.if-not-all_marked.false) (λ z. c.if-end-file.true z))))

pub returns : goal.returns
returns c =
    let a = c.args in
    let f = covered a.file.now a.head _ _ c.check_paths.new.flags c.in_ok-end.ensures.value c.in_ok-end.ensures.marked in
    rest-good a.file.now a.head c.requires (sym c.in_ok-k.ensures) f (sym c.all_marked.ensures ∙ c.if-not-all_marked.false) c.if-end-file.false
