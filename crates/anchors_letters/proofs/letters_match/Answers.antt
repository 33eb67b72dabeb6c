use mathlib.Core.Path.{◌∙◌}
use Rattle.anchors_letters.proofs.LetterLaws.{match_parts}
use Rattle.anchors_rules.specs.OneAnchor.{anchor_of}
use Rattle.anchors_letters.proofs.letters_match.Goals as goal

pub returns : goal.returns
returns c = let a = c.args in c.parts_agree.ensures ∙ match_parts a.label.now a.read.now (anchor_of a.a) c.requires.le_x.1 c.requires.le_c.1
