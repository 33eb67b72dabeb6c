use Rattle.wire.specs.Letters.{agree}
use borrow.Author.Tests.{eq-eqb, ne_eqb}
use Rattle.wire_letters.proofs.letters_agree.Goals as goal

pub returns-then-a-b : goal.returns-then-a-b
unfolding agree
returns-then-a-b c = let a = c.args in simp (eq-eqb a.a a.b c.if-a-b.true) c.is_letter.ensures

pub returns-else-a-b : goal.returns-else-a-b
unfolding agree
returns-else-a-b c = let a = c.args in simp (ne_eqb a.a a.b c.if-a-b.false)
