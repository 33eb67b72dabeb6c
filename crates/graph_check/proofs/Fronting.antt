-- The check of a file, section by section: what each section that is read, or is at fault, makes of the whole.
-- Assumes nothing.
use Prim.Native.Nat.{ℕ, ◌≤◌, ◌<◌}
use mathlib.Core.Path.{◌≡◌, sym, ap, ap₂, ◌∙◌, subst}
use mathlib.Core.List.{List, flatten}
use mathlib.Core.Bool.{Bool, true, false}
use native.Mathlib.Omega.{arith}
use lib.ListN.{length}
use lib.Dec.{eqb}
use borrow.Author.Tests.{le-leb, lt-leb, eq-eqb, ne_eqb}
use Rattle.wire.specs.Cases.{pick}
use Rattle.wire.specs.Found.{Found, good, fault, Part, and_then, refuse}
use Rattle.wire.specs.Numbers.{on_number, number, number_at}
use Rattle.wire.specs.Refusals.{out_of_range, wrong_kind, on_no_path, left_over}
use Rattle.wire.specs.Sizes.{graph_kind, most_file_bytes, most_vertices, most_edges, most_paths}
use Rattle.wire.proofs.NumberLaws.{number-within}
use Rattle.graph.specs.Content.{Edge}
use Rattle.graph.specs.Rules.{no_edge, edge_count_fault, all_on, cover_fault}
use Rattle.graph.specs.Reading.{Front, Parsed, labels_from, edges_from, paths_from, front_in, front_of, rest_of, graph_of}
use Rattle.graph_parts.specs.Answers.{count_at, answered}
use Rattle.graph_paths.specs.PathAnswers.{HasEdges, entries, edges_in, Marked}
use Rattle.graph_paths.specs.Marks.{Marks, all_marked}
use Rattle.graph_check.specs.Checked.{checked_of, HasHead}
use Rattle.graph_check.specs.declared.Sections.{Sections}
use Rattle.graph_check.specs.declared.Head.{Head}
use Rattle.graph.proofs.Accepting.{labels-read, edges-read, paths-read}
use Rattle.graph.proofs.Parted.{FrontParts, front_parts}
use Rattle.graph_parts.proofs.Passing.{refuse-none, refuse-some, count-on, count-value, answered-good}
use Rattle.graph_paths.proofs.Marking.{marks_all}

-- a fault up to the edges is the file's
pub front-fault : (s : List ℕ) {k p : ℕ} → front_of graph_kind s ≡ fault k p → graph_of s ≡ fault k p
unfolding graph_of
front-fault s e = ap (λ (x : Found Front). and_then x (rest_of s)) e

-- ---- up to the edges

-- what follows the edge count
abbrev edges_on : List ℕ → ℕ → ℕ → Part (List (List ℕ)) → ℕ → ℕ → Found Front
edges_on s n b l m d =
    and_then (edges_from n m no_edge s d) (λ e.
    good (record { labels = l.content; edges = e.content; labels_at = b; edges_at = d; next = e.next }))

-- what follows the labels
abbrev labels_on : List ℕ → ℕ → ℕ → Part (List (List ℕ)) → Found Front
labels_on s n b l = number s l.next (λ m d. refuse (edge_count_fault m) l.next (edges_on s n b l m d))

-- what follows n
abbrev count_on : List ℕ → ℕ → ℕ → Found Front
count_on s n b = and_then (labels_from n 0 s b) (labels_on s n b)

module _ (s : List ℕ) where
  pub front_long : most_file_bytes < length s → front_of graph_kind s ≡ fault out_of_range most_file_bytes
  unfolding front_of front_in
  front_long h = simp (lt-leb (length s) most_file_bytes h)

  module _ (short : length s ≤ most_file_bytes) where
    pub front-stop : {k p : ℕ} → number_at s 0 ≡ fault k p → front_of graph_kind s ≡ fault k p
    unfolding front_of front_in
    front-stop e = simp (le-leb (length s) most_file_bytes short, e)

    module _ {kind : ℕ} {a : ℕ} (e : number_at s 0 ≡ good (record { content = kind; next = a })) where
      pub front_kind : (kind ≡ graph_kind → ⊥) → front_of graph_kind s ≡ fault wrong_kind 0
      unfolding front_of front_in
      front_kind n = simp (le-leb (length s) most_file_bytes short, e, ne_eqb kind graph_kind n)

      module _ (same : kind ≡ graph_kind) where
        from_kind : front_of graph_kind s ≡ on_number (count_at 1 most_vertices s a) (count_on s)
        unfolding front_of front_in
        from_kind =
            simp (le-leb (length s) most_file_bytes short, e, eq-eqb kind graph_kind same)
            (count-on 1 most_vertices s a (count_on s))

        pub front-count : {k p : ℕ} → count_at 1 most_vertices s a ≡ fault k p → front_of graph_kind s ≡ fault k p
        front-count f = from_kind ∙ ap (λ (c : Found (Part ℕ)). on_number c (count_on s)) f

        module _ {n : ℕ} {b : ℕ} (f : count_at 1 most_vertices s a ≡ good (record { content = n; next = b })) where
          from-count : front_of graph_kind s ≡ count_on s n b
          from-count = from_kind ∙ ap (λ (c : Found (Part ℕ)). on_number c (count_on s)) f

          pub front-labels : {k p : ℕ} → labels_from n 0 s b ≡ fault k p → front_of graph_kind s ≡ fault k p
          front-labels g = from-count ∙ ap (λ (x : Found (Part (List (List ℕ)))). and_then x (labels_on s n b)) g

          module _ {l : Part (List (List ℕ))} (g : labels_from n 0 s b ≡ good l) where
            from-labels : front_of graph_kind s ≡ on_number (count_at 0 most_edges s l.next) (edges_on s n b l)
            from-labels =
                from-count
                ∙ ap (λ (x : Found (Part (List (List ℕ)))). and_then x (labels_on s n b)) g
                ∙ count-on 0 most_edges s l.next (edges_on s n b l)

            pub front-edge-count : {k p : ℕ} → count_at 0 most_edges s l.next ≡ fault k p → front_of graph_kind s ≡ fault k p
            front-edge-count i = from-labels ∙ ap (λ (c : Found (Part ℕ)). on_number c (edges_on s n b l)) i

            module _ {m : ℕ} {d : ℕ} (i : count_at 0 most_edges s l.next ≡ good (record { content = m; next = d })) where
              from-edge-count : front_of graph_kind s ≡ edges_on s n b l m d
              from-edge-count = from-labels ∙ ap (λ (c : Found (Part ℕ)). on_number c (edges_on s n b l)) i

              pub front-edges : {k p : ℕ} → edges_from n m no_edge s d ≡ fault k p → front_of graph_kind s ≡ fault k p
              front-edges j = from-edge-count ∙ rw j

              -- all of it was read
              pub front-head : (r : Part (List Edge)) {letters next : ℕ} → edges_from n m no_edge s d ≡ good r
                  → letters ≡ length (flatten l.content) → r.next ≡ next
                  → HasHead s (record { n = n; letters = letters; labels = b; m = m; edges = d; next = record { at = next } })
              front-head r j q t =
                  let lc = (labels-read n 0 s b l (number-within s a n b (count-value 1 most_vertices s a f).0).1 g).count in
                  let ec = (edges-read n m no_edge s d r (number-within s l.next m d (count-value 0 most_edges s l.next i).0).1 j).count in
                  record {
                    front = record { labels = l.content; edges = r.content; labels_at = b; edges_at = d; next = r.next };
                    reads = from-edge-count ∙ rw j;
                    same = cc;
                  }

-- ---- after the edges

-- what follows the paths
abbrev end_on : List ℕ → Front → ℕ → Part (List (List ℕ)) → Found Parsed
end_on s f d paths =
    refuse (cover_fault (length f.labels) paths.content) paths.next
    (refuse (pick (eqb paths.next (length s)) 0 left_over) paths.next
    (good (record {
      graph = record { labels = f.labels; edges = f.edges; paths = paths.content };
      labels_at = f.labels_at;
      edges_at = f.edges_at;
      paths_at = d;
    })))

-- what follows K
abbrev paths_on : List ℕ → Front → ℕ → ℕ → Found Parsed
paths_on s f k d = and_then (paths_from (length f.labels) f.edges k s d) (end_on s f d)

-- the paths that the check reads
abbrev pub paths_of : List ℕ → Head → ℕ → ℕ → Found (Part (List (List ℕ)))
paths_of s head k d = paths_from head.n (edges_in head.n head.m s head.edges) k s d

-- they were read up to the place `next`, and the flags say which vertices are on them
pub record Covered (s : List ℕ) (head : Head) (k d next : ℕ) (flags : List Bool) : Type 0 where
  pub paths : Part (List (List ℕ))
  pub found : paths_of s head k d ≡ good paths
  pub ends : paths.next ≡ next
  pub marks : Marks flags head.n paths.content

pub covered : (s : List ℕ) (head : Head) (k d : ℕ) (flags : List Bool) {x c : ℕ}
    → ◌≡◌ {A = Found (Part ℕ)} (good (record { content = x; next = c })) (answered k (paths_of s head k d))
    → Marked flags head.n (paths_of s head k d) → Covered s head k d c flags
covered s head k d flags e m =
    let t = answered-good k (paths_of s head k d) (sym e) in
    record { paths = t.0; found = t.1; ends = t.2; marks = subst (Marked flags head.n) t.1 m }

module _ (s : List ℕ) (head : Head) (h : HasHead s head) where
  parts : FrontParts graph_kind s h.front
  parts = front_parts graph_kind s h.front h.reads

  pub head-edges : HasEdges head.n head.m s head.edges
  head-edges = rw (h.same, parts.edges_is) tt

  pub head_few : head.n ≤ most_vertices
  head_few = rw h.same parts.few_vertices

  same_next : head.next.at ≡ h.front.next
  same_next = ap (λ (k : Head). k.next.at) h.same

  same-paths : (k d : ℕ) → paths_from (length h.front.labels) h.front.edges k s d ≡ paths_of s head k d
  same-paths k d =
      sym (ap (λ (x : Head). paths_of s x k d) h.same
      ∙ ap (λ (x : Found (Part (List Edge))). paths_from (length h.front.labels) (entries x) k s d) parts.edges_is)

  from-head : graph_of s ≡ on_number (count_at 1 most_paths s head.next.at) (paths_on s h.front)
  unfolding graph_of rest_of
  from-head =
      ap (λ (x : Found Front). and_then x (rest_of s)) h.reads
      ∙ count-on 1 most_paths s h.front.next (paths_on s h.front)
      ∙ ap (λ (a : ℕ). on_number (count_at 1 most_paths s a) (paths_on s h.front)) (sym same_next)

  pub rest-stop : {k p : ℕ} → count_at 1 most_paths s head.next.at ≡ fault k p → graph_of s ≡ fault k p
  rest-stop e = from-head ∙ ap (λ (c : Found (Part ℕ)). on_number c (paths_on s h.front)) e

  module _ {k : ℕ} {d : ℕ} (e : count_at 1 most_paths s head.next.at ≡ good (record { content = k; next = d })) where
    from-paths : graph_of s ≡ and_then (paths_of s head k d) (end_on s h.front d)
    from-paths =
        from-head
        ∙ ap (λ (c : Found (Part ℕ)). on_number c (paths_on s h.front)) e
        ∙ ap (λ (x : Found (Part (List (List ℕ)))). and_then x (end_on s h.front d)) (same-paths k d)

    pub rest-fault : {i p : ℕ} → paths_of s head k d ≡ fault i p → graph_of s ≡ fault i p
    rest-fault f = from-paths ∙ ap (λ (x : Found (Part (List (List ℕ)))). and_then x (end_on s h.front d)) f

    module _ {next : ℕ} {flags : List Bool} (f : Covered s head k d next flags) where
      from_end : graph_of s ≡ end_on s h.front d f.paths
      from_end = from-paths ∙ ap (λ (x : Found (Part (List (List ℕ)))). and_then x (end_on s h.front d)) f.found

      cover_is : {b : Bool} → all_marked flags head.n ≡ b → cover_fault (length h.front.labels) f.paths.content ≡ pick b 0 on_no_path
      unfolding cover_fault
      cover_is g =
          ap (λ (b : Bool). pick b 0 on_no_path)
          (ap (λ (x : Head). all_on f.paths.content x.n) (sym h.same) ∙ sym (marks_all flags head.n f.paths.content f.marks) ∙ g)

      pub rest_off : all_marked flags head.n ≡ false → graph_of s ≡ fault on_no_path next
      rest_off g =
          let q = cover_is g in
          from_end
          ∙ refuse-some (cover_fault (length h.front.labels) f.paths.content) f.paths.next _ (λ z. omega arith)
          ∙ ap₂ (λ (i j : ℕ). fault i j) q f.ends

      module _ (g : all_marked flags head.n ≡ true) where
        from_cover : graph_of s
            ≡ refuse (pick (eqb f.paths.next (length s)) 0 left_over) f.paths.next
            (good (record {
              graph = record { labels = h.front.labels; edges = h.front.edges; paths = f.paths.content };
              labels_at = h.front.labels_at;
              edges_at = h.front.edges_at;
              paths_at = d;
            }))
        from_cover = from_end ∙ refuse-none (cover_fault (length h.front.labels) f.paths.content) f.paths.next _ (cover_is g)

        pub rest-left : (next ≡ length s → ⊥) → graph_of s ≡ fault left_over next
        rest-left n = from_cover ∙ simp (f.ends, ne_eqb next (length s) n)

        pub rest-good : next ≡ length s
            → ◌≡◌ {A = Found Sections} (good (record {
              n = head.n;
              letters = head.letters;
              labels = head.labels;
              m = head.m;
              edges = head.edges;
              k = k;
              paths = d;
            }))
            (checked_of (graph_of s))
        rest-good q =
            let w = (number-within s head.next.at k d (count-value 1 most_paths s head.next.at e).0).1 in
            let kc = (paths-read head.n (edges_in head.n head.m s head.edges) k s d f.paths w f.found).count in
            ap (λ (x : Head). good (record { n = x.n; letters = x.letters; labels = x.labels; m = x.m; edges = x.edges; k = k; paths = d })) h.same
            ∙ ap
            (λ (j : ℕ). good (record {
              n = length h.front.labels;
              letters = length (flatten h.front.labels);
              labels = h.front.labels_at;
              m = length h.front.edges;
              edges = h.front.edges_at;
              k = j;
              paths = d;
            }))
            (sym kc)
            ∙ sym (ap checked_of (from_cover ∙ refuse-none (pick (eqb f.paths.next (length s)) 0 left_over) f.paths.next _
            (ap (λ (b : Bool). pick b 0 left_over) (eq-eqb f.paths.next (length s) (f.ends ∙ q)))))
