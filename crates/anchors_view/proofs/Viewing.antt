-- An accepted anchor file over an accepted graph file: what was read where, and that an anchor's letters are within both files.
-- Assumes nothing.
use Prim.Native.Nat.{ℕ, ◌+◌, ◌-◌, ◌≤◌, ◌<◌}
use mathlib.Core.Path.{◌≡◌, refl, sym, ap, ◌∙◌, subst}
use mathlib.Core.List.{List}
use mathlib.Core.Bool.{and-false}
use native.Mathlib.Omega.{arith}
use native.Mathlib.Decide.{ℕ_discrete}
use lib.ListN.{length, get_or}
use lib.Dec.{eqb}
use borrow.Author.Tests.{le-leb, lt-leb, eq-eqb, ne_eqb}
use Rattle.wire.specs.Cases.{pick}
use Rattle.wire.specs.Found.{good, fault, Reply, accepted, refused}
use Rattle.wire.specs.Refusals.{graph_file, anchor_file}
use Rattle.wire.specs.Sizes.{most_file_bytes}
use Rattle.wire.proofs.Encoding.{split}
use Rattle.wire.proofs.Finding.{good-same}
use Rattle.wire.proofs.NumberLaws.{Bytes}
use Rattle.graph_check.specs.Checked.{sections_of}
use Rattle.graph_check.specs.declared.Sections.{Sections}
use Rattle.graph.specs.Content.{vertex_count}
use Rattle.graph.specs.Reading.{Parsed}
use Rattle.graph.proofs.Parted.{short_whole}
use Rattle.anchors.specs.Anchors.{Anchor, anchor_count}
use Rattle.anchors.specs.AnchorRules.{label_of, no_anchor}
use Rattle.anchors.specs.AnchorReading.{Numbers}
use Rattle.anchors.specs.AnchorEntries.{Both, both_reply}
use Rattle.anchors_parts.specs.LabelTables.{content_of, starts_of, starts_in, LabelsAt}
use Rattle.anchors_rules.specs.OneAnchor.{anchor_of}
use Rattle.anchors_parts.specs.ReadAnchor.{numbers_after}
use Rattle.anchors_check.specs.CheckedAnchors.{anchor_sections_of, checked_both_of}
use Rattle.anchors_check.specs.declared.AnchorSections.{AnchorSections}
use Rattle.anchors_rules.specs.declared.rules.Five.{Five}
use Rattle.anchors.specs.View.{View, anchor_numbered, label_start, label_view, read_view, empty_view, view_in, view_of, bytes_of, letters_view}
use Rattle.anchors_view.specs.Viewed.{view_held, Inside, viewed_bytes}
use Rattle.anchors_view.specs.declared.view.Viewed.{Viewed}
use Rattle.anchors_parts.proofs.EachLaws.{after_is}
use Rattle.anchors_parts.proofs.LabelLaws.{parsed-is, accepts, lies_within, starts_at}
use Rattle.anchors.proofs.AnchorAccepting.{not-long, anchor_parts}
use Rattle.anchors.proofs.BothFiles.{both-taken}
use Rattle.anchors.proofs.ViewLaws.{view_anchor, label_stands}

-- ---- one anchor of an accepted file

-- a is anchor number j of both files: how it is read, and that its letters are within the files
pub record Seen (s t : List ℕ) (p : Both) (j : ℕ) (a : Anchor) : Type 0 where
  pub same : anchor_numbered p j ≡ a
  pub numbers : Numbers
  pub reads : numbers_after (j - 1) t p.anchors.anchors_at ≡ good numbers
  pub numbers_are : numbers.anchor ≡ a
  pub vertex : (1 ≤ a.v) × (a.v ≤ vertex_count p.graph.graph)
  pub some_x : 1 ≤ a.x
  pub some_c : 1 ≤ a.c
  pub in_graph : label_start p a.v + (a.x - 1) + a.len ≤ length s
  pub in_file : p.anchors.read_at + (a.c - 1) + a.len ≤ length t
  pub short_graph : length s ≤ most_file_bytes
  pub short_file : length t ≤ most_file_bytes

-- where a label starts, by the table of all starts
start_is : (p : Both) (v : ℕ) → 1 ≤ v → v ≤ vertex_count p.graph.graph
    → get_or (starts_of p.graph.labels_at p.graph.graph.labels) (v - 1) 0 ≡ label_start p v
unfolding label_start
start_is p v h k = starts_at p.graph.labels_at p.graph.graph.labels (v - 1) (omega arith)

seen : (s t : List ℕ) (p : Both) (j : ℕ) → Bytes s → both_reply s t ≡ accepted p → 1 ≤ j → j ≤ anchor_count p.anchors.set
    → Seen s t p j (anchor_numbered p j)
seen s t p j b e h k =
    let w = both-taken s t p e in
    let a : Anchor = anchor_numbered p j in
    let hs = anchor_parts p.graph.graph t p.anchors w.anchors_is in
    let u = after_is p.graph.graph p.anchors.set.read (anchor_count p.anchors.set) no_anchor t p.anchors.anchors_at _ hs.anchors_is (j - 1)
    (omega arith) in
    let i = view_anchor s t p e j h k in
    let l = label_stands s t p b w a.v i.vertex.0 i.vertex.1 in
    let m = lies_within s (label_start p a.v) (label_of p.graph.graph a.v) (record { after = l.0; bytes = l.1 })
    (omega (arith, i.some_x, i.some_length, i.in_label)) in
    let r = hs.read_within in
    record {
      same = refl;
      numbers = u.0;
      reads = u.1;
      numbers_are = u.2;
      vertex = i.vertex;
      some_x = i.some_x;
      some_c = i.some_c;
      in_graph = omega (arith, i.some_x, i.some_length, i.in_label);
      in_file = omega (arith, i.some_c, i.some_length, i.in_read);
      short_graph = (short_whole s p.graph w.graph_is).0;
      short_file = (not-long p.graph.graph t p.anchors w.anchors_is).0;
    }

-- the anchor's numbers, as they were answered
module _ {s t : List ℕ} {p : Both} {j : ℕ} (h : Seen s t p j (anchor_numbered p j)) where
  seen_five : (at : ℕ) {f : Five} {w n : ℕ} → at ≡ p.anchors.anchors_at
      → good (record { anchor = anchor_of f; weight_at = w; next = n }) ≡ numbers_after (j - 1) t at → Seen s t p j (anchor_of f)
  seen_five at {f} {w} {n} e d =
      let r = good-same h.numbers (record { anchor = anchor_of f; weight_at = w; next = n })
      (sym h.reads ∙ ap (λ (k : ℕ). numbers_after (j - 1) t k) (sym e) ∙ sym d) in
      subst (Seen s t p j) (sym h.numbers_are ∙ ap (λ (x : Numbers). x.anchor) r) h

  seen_there : (at : ℕ) {k place : ℕ} → at ≡ p.anchors.anchors_at → fault k place ≡ numbers_after (j - 1) t at → ⊥
  seen_there at e d =
      let q = sym h.reads ∙ ap (λ (k : ℕ). numbers_after (j - 1) t k) (sym e) ∙ sym d in
      let z : ◌≡◌ {A = ℕ} 0 1 = cc in
      omega arith

-- ---- the view, by its cases

module _ (p : Both) (j file : ℕ) where
  case_none : j < 1 → view_in p j file ≡ empty_view
  unfolding view_in
  case_none h = simp (lt-leb 1 j h)

  case_past : anchor_count p.anchors.set < j → view_in p j file ≡ empty_view
  unfolding view_in
  case_past h = simp (lt-leb j (anchor_count p.anchors.set) h, and-false)

  module _ (h : 1 ≤ j) (k : j ≤ anchor_count p.anchors.set) where
    case_label : file ≡ graph_file → view_in p j file ≡ label_view p (anchor_numbered p j)
    unfolding view_in
    case_label e = simp (le-leb 1 j h, le-leb j (anchor_count p.anchors.set) k, eq-eqb file graph_file e)

    case_read : file ≡ anchor_file → view_in p j file ≡ read_view p (anchor_numbered p j)
    unfolding view_in
    case_read e =
        simp (
          le-leb 1 j h,
          le-leb j (anchor_count p.anchors.set) k,
          ne_eqb file graph_file (λ (d : file ≡ graph_file). omega arith),
          eq-eqb file anchor_file e,
        )

    case_neither : (file ≡ graph_file → ⊥) → (file ≡ anchor_file → ⊥) → view_in p j file ≡ empty_view
    unfolding view_in
    case_neither n m =
        simp (le-leb 1 j h, le-leb j (anchor_count p.anchors.set) k, ne_eqb file graph_file n, ne_eqb file anchor_file m)

-- ---- the view is within its file

pub record Within (s t : List ℕ) (w : View) : Type 0 where
  pub inside : w.start + w.len ≤ length (pick (eqb w.file graph_file) s t)

within-empty : (s t : List ℕ) → Within s t empty_view
within-empty s t = record { inside = omega arith }

within_in : (s t : List ℕ) (p : Both) (j file : ℕ) → Bytes s → both_reply s t ≡ accepted p → Within s t (view_in p j file)
within_in s t p j file b e =
    split 1 j
    (λ h.
    split j (anchor_count p.anchors.set)
    (λ k.
    let q = seen s t p j b e h k in
    elim (ℕ_discrete file graph_file) [
      | yes d ↦ subst (Within s t) (sym (case_label p j file h k d)) (record { inside = q.in_graph })
      | no n ↦ elim (ℕ_discrete file anchor_file) [
        | yes d ↦ subst (Within s t) (sym (case_read p j file h k d)) (record { inside = q.in_file })
        | no m ↦ subst (Within s t) (sym (case_neither p j file h k n m)) (within-empty s t)
      ]
    ])
    (λ k. subst (Within s t) (sym (case_past p j file k)) (within-empty s t)))
    (λ h. subst (Within s t) (sym (case_none p j file h)) (within-empty s t))

within_of : (s t : List ℕ) (x : Reply Both) (j file : ℕ) → Bytes s → both_reply s t ≡ x → Within s t (view_of x j file)
within_of s t (accepted p) j file b e = within_in s t p j file b e
within_of s t (refused k f place) j file b e = within-empty s t

view_within : (s t : List ℕ) (j file : ℕ) → Bytes s → Within s t (view_of (both_reply s t) j file)
view_within s t j file b = within_of s t (both_reply s t) j file b refl

-- ---- what the check of both files answered

accepted-same : {A : Type 0} (a b : A) → accepted a ≡ accepted b → a ≡ b
accepted-same a b e = cc

both-good : (x : Reply Both) {g : Sections} {a : AnchorSections} → accepted (g, a) ≡ checked_both_of x
    → (p : Both) × (x ≡ accepted p) × (g ≡ sections_of p.graph) × (a ≡ anchor_sections_of p.anchors)
both-good (accepted p) e =
    let q = accepted-same _ _ e in
    (p, refl, ap (λ (x : Sections × AnchorSections). x.0) q, ap (λ (x : Sections × AnchorSections). x.1) q)
both-good (refused k f place) e = let z : ◌≡◌ {A = ℕ} 0 1 = cc in absurd (omega arith)

pub both-empty : (x : Reply Both) (j file : ℕ) {k f place : ℕ} → refused k f place ≡ checked_both_of x → view_of x j file ≡ empty_view
both-empty (accepted p) j file e = let z : ◌≡◌ {A = ℕ} 0 1 = cc in absurd (omega arith)
both-empty (refused k f place) j file e = refl

-- the labels of the graph file that was accepted
both-labels : (s t : List ℕ) (p : Both) → both_reply s t ≡ accepted p → LabelsAt s p.graph.labels_at (vertex_count p.graph.graph)
unfolding content_of
both-labels s t p e =
    let w = both-taken s t p e in
    let q = parsed-is s p.graph w.graph_is in
    record {
      accepted = accepts s p.graph w.graph_is;
      place = ap (λ (x : Parsed). x.labels_at) (sym q);
      count = ap (λ (x : Parsed). vertex_count x.graph) (sym q);
    }

both-start : (s t : List ℕ) (p : Both) (v : ℕ) → both_reply s t ≡ accepted p → 1 ≤ v → v ≤ vertex_count p.graph.graph
    → get_or (starts_in s) (v - 1) 0 ≡ label_start p v
unfolding starts_in content_of
both-start s t p v e h k =
    let q = parsed-is s p.graph (both-taken s t p e).graph_is in
    ap (λ (x : Parsed). get_or (starts_of x.labels_at x.graph.labels) (v - 1) 0) q ∙ start_is p v h k

-- ---- the view of files that were accepted, by what code read of them

module _ (s t : List ℕ) {g : Sections} {a : AnchorSections} (told : accepted (g, a) ≡ checked_both_of (both_reply s t)) (j file : ℕ) where
  abbrev both : Both
  both = (both-good (both_reply s t) told).0

  reply : both_reply s t ≡ accepted both
  reply = (both-good (both_reply s t) told).1

  sections : g ≡ sections_of both.graph
  sections = (both-good (both_reply s t) told).2

  anchor-sections : a ≡ anchor_sections_of both.anchors
  anchor-sections = (both-good (both_reply s t) told).3

  few : a.n ≡ anchor_count both.anchors.set
  few = ap (λ (x : AnchorSections). x.n) anchor-sections

  starts : a.anchors ≡ both.anchors.anchors_at
  starts = ap (λ (x : AnchorSections). x.anchors) anchor-sections

  by-case : {w : View} → view_in both j file ≡ w → view_of (both_reply s t) j file ≡ w
  by-case e = ap (λ (x : Reply Both). view_of x j file) reply ∙ e

  pub none-told : j < 1 → view_of (both_reply s t) j file ≡ empty_view
  none-told h = by-case (case_none both j file h)

  pub past-told : a.n < j → view_of (both_reply s t) j file ≡ empty_view
  past-told h = by-case (case_past both j file (omega (arith, few)))

  pub labels-told : LabelsAt s g.labels g.n
  labels-told =
      let b = both-labels s t both reply in
      record {
        accepted = b.accepted;
        place = ap (λ (x : Sections). x.labels) sections ∙ b.place;
        count = ap (λ (x : Sections). x.n) sections ∙ b.count;
      }

  module _ (b : Bytes s) (h : 1 ≤ j) (k : j ≤ a.n) where
    numbered : Seen s t both j (anchor_numbered both j)
    numbered = seen s t both j b reply h (omega (arith, few))

    pub five-there : {i place : ℕ} → fault i place ≡ numbers_after (j - 1) t a.anchors → ⊥
    five-there e = seen_there numbered a.anchors starts e

    pub neither-told : (file ≡ graph_file → ⊥) → (file ≡ anchor_file → ⊥) → view_of (both_reply s t) j file ≡ empty_view
    neither-told n m = by-case (case_neither both j file h (omega (arith, few)) n m)

    module _ {f : Five} {w n : ℕ} (read : good (record { anchor = anchor_of f; weight_at = w; next = n }) ≡ numbers_after (j - 1) t a.anchors) where
      anchor : Seen s t both j (anchor_of f)
      anchor = seen_five numbered a.anchors starts read

      -- its vertex is there, and its letters are within the files
      pub vertex-told : (1 ≤ f.v) × (f.v ≤ vertex_count (content_of s))
      vertex-told =
          let c = (both-labels s t both reply).count in
          (anchor.vertex.0, omega (arith, c, anchor.vertex.1))

      pub label-fits : (1 ≤ f.x) × (get_or (starts_in s) (f.v - 1) 0 + (f.x - 1) ≤ most_file_bytes)
      label-fits =
          let e = both-start s t both f.v reply anchor.vertex.0 anchor.vertex.1 in
          (anchor.some_x, omega (arith, e, anchor.in_graph, anchor.short_graph))

      pub read-fits : (1 ≤ f.c) × (a.read + (f.c - 1) ≤ most_file_bytes)
      read-fits =
          let e = ap (λ (x : AnchorSections). x.read) anchor-sections in
          (anchor.some_c, omega (arith, e, anchor.in_file, anchor.short_file))

      pub label-told : file ≡ graph_file
          → view_of (both_reply s t) j file ≡ record { file = graph_file; start = get_or (starts_in s) (f.v - 1) 0 + (f.x - 1); len = f.len }
      label-told e =
          by-case (case_label both j file h (omega (arith, few)) e ∙ ap (label_view both) anchor.same)
          ∙ ap (λ (k : ℕ). record { file = graph_file; start = k + (f.x - 1); len = f.len })
          (sym (both-start s t both f.v reply anchor.vertex.0 anchor.vertex.1))

      pub read-told : file ≡ anchor_file → view_of (both_reply s t) j file ≡ record { file = anchor_file; start = a.read + (f.c - 1); len = f.len }
      read-told e =
          by-case (case_read both j file h (omega (arith, few)) e ∙ ap (read_view both) anchor.same)
          ∙ ap (λ (k : ℕ). record { file = anchor_file; start = k + (f.c - 1); len = f.len })
          (sym (ap (λ (x : AnchorSections). x.read) anchor-sections))

-- ---- the part of a file that is handed back

module _ (s t : List ℕ) (j file : ℕ) (w : Viewed) (e : view_held w ≡ view_of (both_reply s t) j file) where
  pub view_inside : Bytes s → Inside w s t
  view_inside b = (subst (Within s t) (sym e) (view_within s t j file b)).inside

  pub view_bytes : viewed_bytes w s t ≡ letters_view s t j file
  unfolding letters_view
  view_bytes = ap (λ (x : View). bytes_of x s t) e
