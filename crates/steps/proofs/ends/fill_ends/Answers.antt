use Prim.Native.Nat.{ℕ}
use mathlib.Core.Path.{◌≡◌, refl, subst}
use native.Mathlib.Omega.{arith}
use lib.ListN.{length-set}
use Rattle.wire.specs.Lent.{front}
use Rattle.anchors.specs.Anchors.{y, d}
use Rattle.steps.specs.Filling.{each_of}
use Rattle.steps.proofs.EachLaws.{each_none, each_turn}
use Rattle.steps.proofs.ends.fill_ends.Goals as goal

pub loop-j-init : goal.loop-j-init
loop-j-init c = (omega arith, (refl, refl, refl), (each_none (λ A. A.v) c.args.numbers.now c.args.us.now, each_none y c.args.numbers.now c.args.ys.now, each_none d c.args.numbers.now c.args.ds.now))

pub overflow_add-ys-in-loop-j-2 : goal.overflow_add-ys-in-loop-j-2
overflow_add-ys-in-loop-j-2 c = omega (arith, c.requires.numbers_fit.some c.loop-j.j (omega arith), c.requires.numbers_fit.ys c.loop-j.j (omega arith))

pub overflow_sub-ys : goal.overflow_sub-ys
overflow_sub-ys c = omega (arith, c.requires.numbers_fit.some c.loop-j.j (omega arith), c.requires.numbers_fit.ys c.loop-j.j (omega arith))

pub overflow_add-ds-in-loop-j-2 : goal.overflow_add-ds-in-loop-j-2
overflow_add-ds-in-loop-j-2 c = omega (arith, c.requires.numbers_fit.some c.loop-j.j (omega arith), c.requires.numbers_fit.ds c.loop-j.j (omega arith))

pub overflow_sub-ds : goal.overflow_sub-ds
overflow_sub-ds c = omega (arith, c.requires.numbers_fit.some c.loop-j.j (omega arith), c.requires.numbers_fit.ds c.loop-j.j (omega arith))

pub loop-j-preserved : goal.loop-j-preserved
loop-j-preserved c =
    let a = c.args in
    let l = c.loop-j in (
      omega arith,
      (simp length-set l.invariant.1.0, simp length-set l.invariant.1.1, simp length-set l.invariant.1.2),
      (
        each_turn (λ A. A.v) a.numbers.now l.j a.us.now l.us _ (omega arith) l.invariant.2.0 refl,
        each_turn y a.numbers.now l.j a.ys.now l.ys _ (omega arith) l.invariant.2.1 refl,
        each_turn d a.numbers.now l.j a.ds.now l.ds _ (omega arith) l.invariant.2.2 refl,
      ),
    )

pub returns : goal.returns
returns c =
    let a = c.args in
    let l = c.loop-j in
    let e : l.j ≡ a.count = omega arith in record { us_after = subst (λ (k : ℕ). l.us ≡ front (each_of (λ A. A.v) a.numbers.now k) a.us.now) e l.invariant.2.0; ys_after = subst (λ (k : ℕ). l.ys ≡ front (each_of y a.numbers.now k) a.ys.now) e l.invariant.2.1; ds_after = subst (λ (k : ℕ). l.ds ≡ front (each_of d a.numbers.now k) a.ds.now) e l.invariant.2.2 }
