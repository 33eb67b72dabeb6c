use Rattle.std.proofs.Common.{refl, sym, ap, ◌∙◌, set, arith}
use Rattle.std.proofs.lemmas.List.{set_past}
use Rattle.changes.proofs.ChangeLaws.{changing_passed, changing_other, changing_made, changing_ends}
use Rattle.changes.proofs.change_entries.Goals as goal
use Rattle.changes.proofs.change_entries.Goals.{then-b-eq59+then-s-list+then-at-entries, else-b-eq59, else-b-eq59-via-then-b-eq59+then-s-list+else-at-entries, else-b-eq59-via-then-b-eq59+else-s-list, else-b-eq59-via-else-b-eq59}

pub loop-b-init : goal.loop-b-init
loop-b-init g c = record { same = refl }

pub loop-b-preserved : goal.loop-b-preserved
loop-b-preserved g c =
    elim c.if-b-eq59.branch [
      | then-b-eq59+then-s-list+then-at-entries w ↦
          changing_made _ _ c.loop-b.invariant c.loop-b-test.true c.with-s.ensures
          (w.entries-is ∙ ap (set c.loop-b.entries c.with-s.result.at) w.of_number.ensures) w.if-b-eq59.true w.if-s-list.true
      | else-b-eq59 w ↦
          elim w.else-b-eq59.branch [
            | else-b-eq59-via-then-b-eq59+then-s-list+else-at-entries v ↦
                changing_made _ _ c.loop-b.invariant c.loop-b-test.true c.with-s.ensures
                (w.entries-is ∙ sym (set_past _ _ _ v.if-at-entries.false)) v.if-b-eq59.true v.if-s-list.true
            | else-b-eq59-via-then-b-eq59+else-s-list v ↦
                changing_other _ _ c.loop-b.invariant c.loop-b-test.true c.with-s.ensures w.entries-is v.if-b-eq59.true v.if-s-list.false
            | else-b-eq59-via-else-b-eq59 v ↦
                changing_passed _ _ c.loop-b.invariant c.loop-b-test.true c.with-s.ensures w.entries-is v.if-b-eq59.false
          ]
    ]

pub returns : goal.returns
returns g c = changing_ends c.loop-b.invariant (omega arith)
