use Rattle.std.proofs.Common.{arith}
use Rattle.texts.proofs.Filling.{filling_passed, filling_mark, filling_end}
use Rattle.texts.proofs.say_filled.Goals as goal
use Rattle.texts.proofs.say_filled.Goals.{then-b-eq35+in_ok-write_all+in_ok-say_place, else-b-eq35}

pub loop-i-preserved : goal.loop-i-preserved
loop-i-preserved g c =
    elim c.if-b-eq35.branch [
      | then-b-eq35+in_ok-write_all+in_ok-say_place w ↦
          rw (w.to-is, w.at-is, w.start-is)
          (filling_mark _ _ c.loop-i.invariant c.loop-i-test.true w.if-b-eq35.true w.in_ok-write_all.ensures.bytes w.in_ok-say_place.ensures)
      | else-b-eq35 w ↦ rw (w.to-is, w.at-is, w.start-is) (filling_passed c.loop-i.invariant c.loop-i-test.true w.if-b-eq35.false)
    ]

pub returns : goal.returns
returns g c = filling_end _ _ c.loop-i.invariant (omega arith) c.write_all-2.ensures.bytes
