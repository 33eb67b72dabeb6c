use Prim.Native.Nat.{◌-◌, ◌*◌, ◌^◌}
use mathlib.Core.Path.{refl, sym, ◌∙◌}
use native.Mathlib.Omega.{arith}
use lib.ListN.{length, get_or}
use lib.Dec.{lit<}
use Rattle.wire.specs.Numbers.{number_at}
use Rattle.wire.proofs.Reading.{read_end, read_great, read_fifth, read-last, read_more, weight_le, weight-more, group_lt}
use Rattle.wire.proofs.numbers.read_number.Goals as goal

pub loop-at-init : goal.loop-at-init
loop-at-init c = (unfold number_at in refl, lit< tt, refl)

pub overflow_cast-b : goal.overflow_cast-b
overflow_cast-b c = omega (arith)

pub returns-then-b-gt15 : goal.returns-then-b-gt15
returns-then-b-gt15 c =
    let l = c.loop-at in
    let a = c.args in
    rw c.at.ensures (sym (l.invariant.0 ∙ read_great a.bytes.now (length a.bytes.now) a.cursor.at l.at l.weight l.value l.left c.if-left-eq0.true c.loop-at-test.true (omega arith)))

pub end_number-requires : goal.end_number-requires
end_number-requires c =
    let l = c.loop-at in
    let a = c.args in
    record { value_bound = group_lt (get_or a.bytes.now l.at 0) 16 l.weight l.value (2 ^ 32) (omega arith) l.invariant.1 (omega (arith, weight_le l.left l.weight l.invariant.2)); at_bound = omega arith }

pub returns-then-left-eq0 : goal.returns-then-left-eq0
returns-then-left-eq0 c =
    let l = c.loop-at in
    let a = c.args in
    c.end_number.ensures ∙ sym (l.invariant.0 ∙ read_fifth a.bytes.now (length a.bytes.now) a.cursor.at l.at l.weight l.value l.left c.if-left-eq0.true c.loop-at-test.true (omega arith))

pub end_number-requires-then-b-lt128 : goal.end_number-requires-then-b-lt128
end_number-requires-then-b-lt128 c =
    let l = c.loop-at in
    let a = c.args in
    record { value_bound = group_lt (get_or a.bytes.now l.at 0) 128 l.weight l.value (2 ^ 32) (omega arith) l.invariant.1 (omega (arith, weight_le (l.left - 1) (l.weight * 128) (weight-more l.left l.weight c.if-left-eq0.false l.invariant.2))); at_bound = omega arith }

pub returns-then-b-lt128 : goal.returns-then-b-lt128
returns-then-b-lt128 c =
    let l = c.loop-at in
    let a = c.args in
    c.end_number-then-b-lt128.ensures ∙ sym (l.invariant.0 ∙ read-last a.bytes.now (length a.bytes.now) a.cursor.at l.at l.weight l.value l.left c.if-left-eq0.false c.loop-at-test.true (omega arith))

pub overflow_mul-value : goal.overflow_mul-value
overflow_mul-value c =
    let l = c.loop-at in
    let a = c.args in
    omega (arith, group_lt (get_or a.bytes.now l.at 0 - 128) 128 l.weight l.value (2 ^ 32) (omega (arith)) l.invariant.1 (omega (arith, weight_le (l.left - 1) (l.weight * 128) (weight-more l.left l.weight c.if-left-eq0.false l.invariant.2))))

pub overflow_add-value : goal.overflow_add-value
overflow_add-value c =
    let l = c.loop-at in
    let a = c.args in
    omega (arith, group_lt (get_or a.bytes.now l.at 0 - 128) 128 l.weight l.value (2 ^ 32) (omega (arith)) l.invariant.1 (omega (arith, weight_le (l.left - 1) (l.weight * 128) (weight-more l.left l.weight c.if-left-eq0.false l.invariant.2))))

pub overflow_mul-weight : goal.overflow_mul-weight
overflow_mul-weight c =
    let l = c.loop-at in
    let a = c.args in
    omega (arith, weight_le (l.left - 1) (l.weight * 128) (weight-more l.left l.weight c.if-left-eq0.false l.invariant.2))

pub loop-at-preserved : goal.loop-at-preserved
loop-at-preserved c =
    let l = c.loop-at in
    let a = c.args in (
      l.invariant.0 ∙ read_more a.bytes.now (length a.bytes.now) a.cursor.at l.at l.weight l.value l.left c.if-left-eq0.false c.loop-at-test.true (omega arith),
      group_lt (get_or a.bytes.now l.at 0 - 128) 128 l.weight l.value (l.weight * 128) (omega (arith)) l.invariant.1 (omega arith),
      weight-more l.left l.weight c.if-left-eq0.false l.invariant.2,
    )

pub returns : goal.returns
returns c =
    let l = c.loop-at in
    let a = c.args in
    rw c.at-2.ensures (sym (l.invariant.0 ∙ read_end a.bytes.now (length a.bytes.now) a.cursor.at l.at l.weight l.value l.left c.loop-at-test.false))
