use Prim.Native.Nat.{ℕ}
use mathlib.Core.Path.{◌∙◌}
use borrow.Author.Tests.{tests}
use Rattle.std.proofs.Common.{rules}
use Rattle.std.proofs.lemmas.Iterator.{YieldsList-from_slice, YieldsList-from_zip}
use Rattle.std.proofs.lemmas.Iterator.Search.{all_from_yields_List}
use Rattle.wire.specs.Letters.{agree}
use Rattle.anchors_letters.proofs.LetterLaws.{agree_pairs}
use Rattle.anchors_letters.proofs.parts_agree.Goals as goal

pub returns : goal.returns
returns c =
    let a = c.args in
    all_from_yields_List (λ (p : ℕ × ℕ). agree p.0 p.1) c.all.new.self _ _ c.all.ensures.ran
    (YieldsList-from_zip (YieldsList-from_slice c.args.label.now cc) (YieldsList-from_slice c.args.read.now cc))
    (λ x b q k. search (rules, tests))
    ∙ agree_pairs a.label.now a.read.now c.requires
