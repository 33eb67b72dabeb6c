use mathlib.Core.Path.{sym, ap, ◌∙◌}
use native.Mathlib.Omega.{arith}
use Rattle.std.proofs.Common.{rules}
use Rattle.wire.specs.Sizes.{most_edges}
use Rattle.graph_parts.specs.Answers.{count_at}
use Rattle.graph_check.specs.Checked.{checked_of}
use Rattle.graph_parts.proofs.Passing.{answered-good, answered-fault}
use Rattle.graph_parts.proofs.Lettering.{labels-good, labels-fault}
use Rattle.graph_check.proofs.Fronting.{front-fault, front_long, front-stop, front_kind, front-count, front-labels, front-edge-count, front-edges, front-head}
use Rattle.graph_check.proofs.check_graph.Goals as goal

pub returns-then-file-gt-MOST_FILE_BYTES : goal.returns-then-file-gt-MOST_FILE_BYTES
returns-then-file-gt-MOST_FILE_BYTES c =
    let s = c.args.file.now in
    rw c.at.ensures (sym (ap checked_of (front-fault s (front_long s (omega arith)))))

pub returns-in_err-kind : goal.returns-in_err-kind
returns-in_err-kind c =
    let s = c.args.file.now in
    search (rules, ap checked_of (front-fault s (front-stop s (omega arith) (sym c.in_err-kind.ensures))))

pub returns-then-kind-ne-GRAPH_KIND : goal.returns-then-kind-ne-GRAPH_KIND
returns-then-kind-ne-GRAPH_KIND c =
    let s = c.args.file.now in
    rw c.at-then-kind-ne-GRAPH_KIND.ensures
    (sym (ap checked_of (front-fault s (front_kind s (omega arith) (sym c.in_ok-kind.ensures) (λ z. omega arith)))))

pub returns-in_err-n : goal.returns-in_err-n
returns-in_err-n c =
    let s = c.args.file.now in
    search (rules, ap checked_of (front-fault s (front-count s (omega arith) (sym c.in_ok-kind.ensures) (omega arith) (sym c.in_err-n.ensures))))

pub returns-in_err-letters : goal.returns-in_err-letters
returns-in_err-letters c =
    let s = c.args.file.now in
    search (
      rules,
      ap checked_of
          (front-fault s (front-labels s (omega arith) (sym c.in_ok-kind.ensures) (omega arith) (sym c.in_ok-n.ensures) (labels-fault 0 _ (sym c.in_err-letters.ensures)))),
    )

pub returns-in_err-m : goal.returns-in_err-m
returns-in_err-m c =
    let s = c.args.file.now in
    let l = labels-good _ _ _ (sym c.in_ok-letters.ensures) in
    search (
      rules,
      ap checked_of
          (front-fault s
          (front-edge-count s (omega arith) (sym c.in_ok-kind.ensures) (omega arith) (sym c.in_ok-n.ensures) l.found
          (ap (count_at 0 most_edges s) l.ends ∙ sym c.in_err-m.ensures))),
    )

pub returns-in_err-next : goal.returns-in_err-next
returns-in_err-next c =
    let s = c.args.file.now in
    let l = labels-good _ _ _ (sym c.in_ok-letters.ensures) in
    search (
      rules,
      ap checked_of
          (front-fault s
          (front-edges s (omega arith) (sym c.in_ok-kind.ensures) (omega arith) (sym c.in_ok-n.ensures) l.found
          (ap (count_at 0 most_edges s) l.ends ∙ sym c.in_ok-m.ensures) (answered-fault _ _ (sym c.in_err-next.ensures)))),
    )

pub check_rest-requires : goal.check_rest-requires
check_rest-requires c =
    let s = c.args.file.now in
    let l = labels-good _ _ _ (sym c.in_ok-letters.ensures) in
    let r = answered-good _ _ (sym c.in_ok-next.ensures) in
    front-head s (omega arith) (sym c.in_ok-kind.ensures) (omega arith) (sym c.in_ok-n.ensures) l.found
    (ap (count_at 0 most_edges s) l.ends ∙ sym c.in_ok-m.ensures) r.0 r.1 l.letters r.2
