use mathlib.Core.Path.{sym, ap}
use native.Mathlib.Omega.{arith}
use Rattle.std.proofs.Common.{rules}
use Rattle.anchors_parts.specs.LabelTables.{content_of}
use Rattle.anchors_check.specs.CheckedAnchors.{checked_anchors_of}
use Rattle.anchors_check.proofs.OverLaws.{over-long, stop-head, stop-letters, read-is, stop-count, stop-each, stop-left, all-read}
use Rattle.anchors_check.proofs.check_over.Goals as goal

pub returns-then-file-gt-MOST_FILE_BYTES : goal.returns-then-file-gt-MOST_FILE_BYTES
returns-then-file-gt-MOST_FILE_BYTES c =
    rw c.at.ensures (sym (ap checked_anchors_of (over-long (content_of c.args.labels.now) c.args.file.now (omega arith))))

pub returns-in_err-r : goal.returns-in_err-r
returns-in_err-r c =
    search (rules, ap checked_anchors_of (stop-head (content_of c.args.labels.now) c.args.file.now (omega arith) (sym c.in_err-r.ensures)))

pub returns-in_err-next : goal.returns-in_err-next
returns-in_err-next c =
    search (
      rules,
      ap checked_anchors_of
          (stop-letters (content_of c.args.labels.now) c.args.file.now (omega arith) (sym c.in_ok-r.ensures) (sym c.in_err-next.ensures)),
    )

pub returns-in_err-n : goal.returns-in_err-n
returns-in_err-n c =
    search (
      rules,
      ap checked_anchors_of
          (stop-count (content_of c.args.labels.now) c.args.file.now (omega arith) (sym c.in_ok-r.ensures) (sym c.in_ok-next.ensures)
          (sym c.in_err-n.ensures)),
    )

pub slice_bounds-check_each-end : goal.slice_bounds-check_each-end
slice_bounds-check_each-end c =
    let k = read-is (content_of c.args.labels.now) c.args.file.now (omega arith) (sym c.in_ok-r.ensures) (sym c.in_ok-next.ensures) in
    omega arith

pub returns-in_err-end : goal.returns-in_err-end
returns-in_err-end c =
    search (
      rules,
      ap checked_anchors_of
          (stop-each (content_of c.args.labels.now) c.args.file.now (omega arith) (sym c.in_ok-r.ensures) (sym c.in_ok-next.ensures)
          (sym c.in_ok-n.ensures) (sym c.in_err-end.ensures)),
    )

pub returns-then-end-file : goal.returns-then-end-file
returns-then-end-file c =
    rw c.at-then-end-file.ensures
    (sym (ap checked_anchors_of
    (stop-left (content_of c.args.labels.now) c.args.file.now (omega arith) (sym c.in_ok-r.ensures) (sym c.in_ok-next.ensures)
    (sym c.in_ok-n.ensures) (sym c.in_ok-end.ensures) (λ z. omega arith))))

pub returns : goal.returns
returns c =
    sym (all-read (content_of c.args.labels.now) c.args.file.now (omega arith) (sym c.in_ok-r.ensures) (sym c.in_ok-next.ensures)
    (sym c.in_ok-n.ensures) (sym c.in_ok-end.ensures) (omega arith))
