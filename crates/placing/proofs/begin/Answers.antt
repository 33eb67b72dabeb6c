use mathlib.Core.Path.{◌≡◌, sym, ◌∙◌}
use Rattle.chain.specs.ChainEntries.{roomy_chain}
use Rattle.placing.proofs.Reading.{small_begun, read_begun}
use Rattle.placing.proofs.begin.Goals as goal

pub returns-then-not-roomy : goal.returns-then-not-roomy
returns-then-not-roomy c =
    let room : roomy_chain (record { scores = c.args.scores.now; chain = c.args.chain.now }) ≡ c.roomy.result =
    unfold roomy_chain in sym c.roomy.ensures in
    rw c.from.ensures (small_begun _ _ (record { scores = c.args.scores.now; chain = c.args.chain.now }) _ (room ∙ c.if-not-roomy.true))

pub returns : goal.returns
returns c =
    let room : roomy_chain (record { scores = c.args.scores.now; chain = c.args.chain.now }) ≡ c.roomy.result =
    unfold roomy_chain in sym c.roomy.ensures in
    read_begun _ _ (record { scores = c.args.scores.now; chain = c.args.chain.now }) (room ∙ c.if-not-roomy.false) (record { letters = c.args.letters.now; anchors = c.args.numbers.now })
    (record { letters = c.read_anchors.new.letters; anchors = c.read_anchors.new.anchors }) c.read_anchors.result c.requires.0 c.requires.1 c.read_anchors.ensures
