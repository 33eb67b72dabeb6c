use mathlib.Core.Path.{ap, ◌∙◌}
use Rattle.std.specs.Prelude.{is_some}
use Rattle.wire.specs.Letters.{is_letter}
use Rattle.wire_letters.proofs.is_letter.Goals as goal

pub returns : goal.returns
unfolding is_letter
returns c = c.is_some.ensures ∙ ap is_some c.letter_of.ensures
