-- The check of both files: what the answers of the two checks make of it.
-- Assumes nothing.
use Prim.Native.Nat.{ℕ}
use mathlib.Core.Path.{◌≡◌, refl, sym, ap, ap₂, ◌∙◌}
use mathlib.Core.List.{List}
use native.Mathlib.Omega.{arith}
use Rattle.wire.specs.Found.{Found, good, fault, accepted, refused, in_file, on_accepted}
use Rattle.wire.proofs.Finding.{good-same}
use Rattle.wire.specs.Refusals.{graph_file, anchor_file}
use Rattle.graph_check.specs.Checked.{sections_of, checked_of}
use Rattle.graph.specs.Reading.{Parsed, graph_of}
use Rattle.graph_check.specs.declared.Sections.{Sections}
use Rattle.anchors.specs.AnchorReading.{ParsedAnchors, anchors_of}
use Rattle.anchors.specs.AnchorEntries.{both_reply}
use Rattle.anchors_check.specs.CheckedAnchors.{anchor_sections_of, checked_anchors_of, checked_both_of}
use Rattle.anchors_parts.specs.LabelTables.{parsed_of, content_of, Accepts, LabelsAt}
use Rattle.anchors_check.specs.declared.AnchorSections.{AnchorSections}
use Rattle.anchors.proofs.FileOrder.{graph-first, anchors-next}
use Rattle.anchors_parts.proofs.LabelLaws.{accepts, parsed-is}

-- ---- what a check answered was found

checked_good : (x : Found Parsed) {g : Sections} → good g ≡ checked_of x → (p : Parsed) × (x ≡ good p) × (g ≡ sections_of p)
checked_good (good p) e = (p, refl, good-same _ _ e)
checked_good (fault k place) e = let z : ◌≡◌ {A = ℕ} 0 1 = cc in absurd (omega arith)

checked_fault : (x : Found Parsed) {k place : ℕ} → fault k place ≡ checked_of x → x ≡ fault k place
checked_fault (good p) e = let z : ◌≡◌ {A = ℕ} 0 1 = cc in absurd (omega arith)
checked_fault (fault k place) e = cc

anchors-good : (x : Found ParsedAnchors) {a : AnchorSections} → good a ≡ checked_anchors_of x → (q : ParsedAnchors) × (x ≡ good q) × (a ≡ anchor_sections_of q)
anchors-good (good q) e = (q, refl, good-same _ _ e)
anchors-good (fault k place) e = let z : ◌≡◌ {A = ℕ} 0 1 = cc in absurd (omega arith)

anchors-fault : (x : Found ParsedAnchors) {k place : ℕ} → fault k place ≡ checked_anchors_of x → x ≡ fault k place
anchors-fault (good q) e = let z : ◌≡◌ {A = ℕ} 0 1 = cc in absurd (omega arith)
anchors-fault (fault k place) e = cc

-- ---- the graph file

-- an accepted graph file's sections
pub record GraphTold (s : List ℕ) (g : Sections) : Type 0 where
  pub sections : g ≡ sections_of (parsed_of s)
  pub labels : LabelsAt s g.labels g.n

pub graph-told : (s : List ℕ) {g : Sections} → good g ≡ checked_of (graph_of s) → GraphTold s g
unfolding content_of
graph-told s {g} e =
    let t = checked_good (graph_of s) e in
    let q : g ≡ sections_of (parsed_of s) = t.2 ∙ ap sections_of (sym (parsed-is s t.0 t.1)) in
    record {
      sections = q;
      labels = record {
        accepted = accepts s t.0 t.1;
        place = ap (λ (x : Sections). x.labels) q;
        count = ap (λ (x : Sections). x.n) q;
      };
    }

both-graph : (s t : List ℕ) {k place : ℕ} → fault k place ≡ checked_of (graph_of s) → both_reply s t ≡ refused k graph_file place
both-graph s t {k} {place} e = graph-first s t k place (checked_fault (graph_of s) e)

-- ---- the anchor file, over an accepted graph

module _ (s t : List ℕ) (h : Accepts s) where
  over : both_reply s t
      ≡ on_accepted (in_file anchor_file (anchors_of (content_of s) t)) (λ q. accepted (record { graph = parsed_of s; anchors = q }))
  unfolding content_of
  over = anchors-next s t (parsed_of s) h

  both-anchors : {k place : ℕ} → fault k place ≡ checked_anchors_of (anchors_of (content_of s) t) → both_reply s t ≡ refused k anchor_file place
  both-anchors e = over ∙ rw (anchors-fault (anchors_of (content_of s) t) e)

  both-accepted : {a : AnchorSections} → good a ≡ checked_anchors_of (anchors_of (content_of s) t)
      → (q : ParsedAnchors) × (both_reply s t ≡ accepted (record { graph = parsed_of s; anchors = q })) × (a ≡ anchor_sections_of q)
  both-accepted e =
      let u = anchors-good (anchors_of (content_of s) t) e in (
        u.0,
        over
            ∙ ap (λ (x : Found ParsedAnchors). on_accepted (in_file anchor_file x) (λ q. accepted (record { graph = parsed_of s; anchors = q }))) u.1,
        u.2,
      )

-- ---- both files

module _ (s t : List ℕ) where
  pub graph-refuses : (k p : ℕ) → fault k p ≡ checked_of (graph_of s) → refused k graph_file p ≡ checked_both_of (both_reply s t)
  graph-refuses k p e = sym (ap checked_both_of (both-graph s t e))

  module _ {g : Sections} (h : good g ≡ checked_of (graph_of s)) where
    pub anchors-refuse : (k p : ℕ) → fault k p ≡ checked_anchors_of (anchors_of (content_of s) t) → refused k anchor_file p ≡ checked_both_of (both_reply s t)
    anchors-refuse k p e = sym (ap checked_both_of (both-anchors s t (graph-told s h).labels.accepted e))

    pub both-told : {a : AnchorSections} → good a ≡ checked_anchors_of (anchors_of (content_of s) t) → accepted (g, a) ≡ checked_both_of (both_reply s t)
    both-told e =
        let u = both-accepted s t (graph-told s h).labels.accepted e in
        ap₂ (λ (g : Sections) (b : AnchorSections). accepted (g, b)) (graph-told s h).sections u.2 ∙ sym (ap checked_both_of u.1)
