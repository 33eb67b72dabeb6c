-- An anchor file over a good graph is accepted exactly when every file rule holds, and its content is one.
-- Assumes nothing.
use mathlib.Core.Path.{◌≡◌, sym, ap, ◌∙◌}
use mathlib.Core.Logic.{◌↔◌}
use mathlib.Core.List.{List}
use Prim.Native.Nat.{ℕ}
use Rattle.wire.specs.Found.{good}
use Rattle.wire.proofs.NumberLaws.{Bytes}
use Rattle.wire.proofs.Finding.{good-same}
use Rattle.graph.specs.Content.{Graph}
use Rattle.graph.specs.Good.{GoodGraph}
use Rattle.anchors.specs.Anchors.{AnchorSet}
use Rattle.anchors.specs.AnchorBytes.{encode_anchors}
use Rattle.anchors.specs.AnchorReading.{ParsedAnchors, anchors_of}
use Rattle.anchors.specs.AnchorPlaces.{parsed_anchors}
use Rattle.anchors.specs.GoodAnchors.{GoodAnchors}
use Rattle.anchors.proofs.AnchorWhole.{anchors-taken}
use Rattle.anchors.proofs.AnchorRereading.{encoded_read}

module _ (g : Graph) (k : GoodGraph g) where
  -- "number 0 exactly when every file rule holds": the file is accepted exactly when it is the encoding of good content
  pub anchors_exactly : (s : List ℕ) → Bytes s
      → ((q : ParsedAnchors) × (anchors_of g s ≡ good q)) ↔ ((a : AnchorSet) × GoodAnchors g a × (s ≡ encode_anchors a))
  anchors_exactly s b = (
    λ t. let h = anchors-taken g s t.0 b t.1 in (t.0.set, h.rules, h.bytes),
    λ t. (parsed_anchors t.0, ap (anchors_of g) t.2 ∙ encoded_read g t.0 k t.1),
  )

  -- good content is one where its encoding is
  pub content-one : (a c : AnchorSet) → GoodAnchors g a → GoodAnchors g c → encode_anchors a ≡ encode_anchors c → a ≡ c
  content-one a c h i e =
      let x = sym (encoded_read g a k h) ∙ ap (anchors_of g) e ∙ encoded_read g c k i in
      ap (λ (q : ParsedAnchors). q.set) (good-same (parsed_anchors a) (parsed_anchors c) x)
