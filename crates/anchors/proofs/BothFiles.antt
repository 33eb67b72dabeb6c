-- Both files: what is known of each where both are accepted, and that they are accepted exactly when every file rule holds.
-- Assumes nothing.
use Prim.Native.Nat.{ℕ}
use mathlib.Core.Path.{◌≡◌, sym, ap, ◌∙◌, subst}
use mathlib.Core.List.{List}
use native.Mathlib.Omega.{arith}
use Rattle.wire.specs.Found.{good, accepted}
use Rattle.wire.proofs.NumberLaws.{Bytes}
use Rattle.graph.specs.Content.{Graph}
use Rattle.graph.specs.Good.{GoodGraph}
use Rattle.graph.specs.Reading.{graph_of}
use Rattle.graph.specs.Placed.{parsed_of}
use Rattle.graph.proofs.Parted.{parts}
use Rattle.graph.proofs.Whole.{parts_good}
use Rattle.graph.proofs.Exactly.{GoodFile, accepted_keeps, keeps_accepted}
use Rattle.anchors.specs.Anchors.{AnchorSet}
use Rattle.anchors.specs.AnchorBytes.{encode_anchors}
use Rattle.anchors.specs.AnchorReading.{anchors_of}
use Rattle.anchors.specs.AnchorPlaces.{parsed_anchors}
use Rattle.anchors.specs.AnchorEntries.{Both, both_reply}
use Rattle.anchors.specs.GoodAnchors.{GoodAnchors}
use Rattle.wire.proofs.Replying.{accepted-same}
use Rattle.anchors.proofs.FileOrder.{Ordered, graph-refused, anchors-refused, both-accepted, anchors-next, ordered}
use Rattle.anchors.proofs.AnchorWhole.{accepted-good, anchors-taken}
use Rattle.anchors.proofs.AnchorRereading.{encoded_read}

-- each file was found good, the anchor file over the graph
pub record BothTaken (graph file : List ℕ) (p : Both) : Type 0 where
  pub graph_is : graph_of graph ≡ good p.graph
  pub anchors_is : anchors_of p.graph.graph file ≡ good p.anchors

pub both-taken : (graph file : List ℕ) (p : Both) → both_reply graph file ≡ accepted p → BothTaken graph file p
both-taken graph file p e = from (ordered graph file)
  where
    from : Ordered graph file → BothTaken graph file p
    from (graph-refused k place g r) = let z : ◌≡◌ {A = ℕ} 0 1 = cc in absurd (omega arith)
    from (anchors-refused q k place g a r) = let z : ◌≡◌ {A = ℕ} 0 1 = cc in absurd (omega arith)
    from (both-accepted q g a r) = subst (BothTaken graph file) (accepted-same q p (sym r ∙ e)) (record { graph_is = g; anchors_is = a })

pub taken-both : (graph file : List ℕ) (p : Both) → BothTaken graph file p → both_reply graph file ≡ accepted p
taken-both graph file p t = anchors-next graph file p.graph t.graph_is ∙ rw t.anchors_is

-- every file rule holds of both
pub both-good : (graph file : List ℕ) (p : Both) → BothTaken graph file p → GoodGraph p.graph.graph × GoodAnchors p.graph.graph p.anchors.set
both-good graph file p t =
    (parts_good graph p.graph (parts graph p.graph t.graph_is), accepted-good p.graph.graph file p.anchors t.anchors_is)

-- the two files keep every rule, with the graph g and the content a
pub record GoodFiles (graph file : List ℕ) (g : Graph) (a : AnchorSet) : Type 0 where
  pub graph_keeps : GoodFile graph g
  pub anchors_keep : GoodAnchors g a
  pub bytes : file ≡ encode_anchors a

-- "number 0 exactly when every file rule holds": files that are accepted keep the rules, with the content that was read
pub both_keep : (graph file : List ℕ) (p : Both) → Bytes graph → Bytes file → both_reply graph file ≡ accepted p
    → GoodFiles graph file p.graph.graph p.anchors.set
both_keep graph file p b c e =
    let t = both-taken graph file p e in
    let k = accepted_keeps graph p.graph b t.graph_is in
    let q = anchors-taken p.graph.graph file p.anchors c t.anchors_is in
    record { graph_keeps = k; anchors_keep = q.rules; bytes = q.bytes }

-- and files that keep them are accepted, with that content
pub keep_both : (graph file : List ℕ) (g : Graph) (a : AnchorSet) → GoodFiles graph file g a
    → both_reply graph file ≡ accepted (record { graph = parsed_of g; anchors = parsed_anchors a })
keep_both graph file g a t =
    taken-both graph file (record { graph = parsed_of g; anchors = parsed_anchors a })
    (record {
      graph_is = keeps_accepted graph g t.graph_keeps;
      anchors_is = ap (anchors_of g) t.bytes ∙ encoded_read g a t.graph_keeps.rules t.anchors_keep;
    })
