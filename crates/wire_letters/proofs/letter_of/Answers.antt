use mathlib.Core.Path.{◌≡◌}
use Rattle.wire.specs.Letters.{letter_of}
use borrow.Author.Tests.{ne_eqb}
use native.Mathlib.Omega.{arith}
use Rattle.wire_letters.proofs.letter_of.Goals as goal

pub returns-in-65 : goal.returns-in-65
unfolding letter_of
returns-in-65 c = let e : c.args.byte ≡ 65 = c.in-65.is in rw e

pub returns-in-67 : goal.returns-in-67
unfolding letter_of
returns-in-67 c = let e : c.args.byte ≡ 67 = c.in-67.is in rw e

pub returns-in-71 : goal.returns-in-71
unfolding letter_of
returns-in-71 c = let e : c.args.byte ≡ 71 = c.in-71.is in rw e

pub returns-in-84 : goal.returns-in-84
unfolding letter_of
returns-in-84 c = let e : c.args.byte ≡ 84 = c.in-84.is in rw e

pub returns-in_default : goal.returns-in_default
unfolding letter_of
returns-in_default c =
    let b = c.args.byte in
    simp (ne_eqb b 65 (λ e. omega arith), ne_eqb b 67 (λ e. omega arith), ne_eqb b 71 (λ e. omega arith), ne_eqb b 84 (λ e. omega arith))
