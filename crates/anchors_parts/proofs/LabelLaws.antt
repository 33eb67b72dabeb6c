-- Where the labels lie in a graph file that is accepted: the tables, filled label after label, and what they say.
-- Assumes nothing.
use Prim.Native.Nat.{ℕ, zero, suc, ◌+◌, ◌-◌, ◌≤◌, ◌<◌}
use mathlib.Core.Path.{◌≡◌, refl, sym, ap, ap₂, ◌∙◌}
use mathlib.Core.List.{List, [], ◌∷◌, ◌++◌, map, append_assoc, append-nil}
use native.Mathlib.Omega.{arith}
use native.Mathlib.Nat.{add-zero, add_assoc}
use lib.ListN.{length, get_or, take, drop, set, length-append, length-drop, get_or-append}
use lib.Seq.{append_snoc, drop-drop, drop-append_seam, take-append_seam}
use Rattle.wire.specs.Found.{good, fault}
use Rattle.wire.specs.Lent.{front}
use Rattle.wire.specs.Numbers.{encode, number_at}
use Rattle.wire.specs.Sizes.{most_file_bytes, full_lengths}
use Rattle.wire.proofs.NumberLaws.{Bytes, number_suffix}
use Rattle.wire.proofs.Encoding.{encode-some}
use Rattle.wire.proofs.Reading.{read_same}
use Rattle.wire.proofs.Putting.{put_one}
use Rattle.graph.specs.Content.{lengths_of, vertex_count}
use Rattle.graph.specs.Good.{All}
use Rattle.graph.proofs.RoundTrips.{all_at}
use Rattle.graph.specs.Encode.{encode_labels}
use Rattle.graph.specs.Reading.{Parsed, graph_of}
use Rattle.graph.proofs.Parted.{short_whole, parts}
use Rattle.anchors.specs.AnchorRules.{label_of}
use Rattle.anchors_parts.specs.LabelTables.{parsed_of, content_of, Accepts, starts_of, starts_in, LabelsAt, LabelTables}

-- ---- the definitions, opened once

pub parsed-is : (s : List ℕ) (p : Parsed) → graph_of s ≡ good p → parsed_of s ≡ p
unfolding parsed_of
parsed-is s p e = rw e

pub accepts : (s : List ℕ) (p : Parsed) → graph_of s ≡ good p → Accepts s
accepts s p e = e ∙ ap (λ (q : Parsed). good q) (sym (parsed-is s p e))

pub content-is : (s : List ℕ) (p : Parsed) → graph_of s ≡ good p → content_of s ≡ p.graph
unfolding content_of
content-is s p e = ap (λ (q : Parsed). q.graph) (parsed-is s p e)

-- ---- labels in their encoding

encode-labels_append : (ls ms : List (List ℕ)) → encode_labels (ls ++ ms) ≡ encode_labels ls ++ encode_labels ms
unfolding encode_labels
encode-labels_append [] ms = refl
encode-labels_append (l ∷ ls) ms =
    ap (λ (t : List ℕ). encode (length l) ++ (l ++ t)) (encode-labels_append ls ms)
    ∙ ap (λ (t : List ℕ). encode (length l) ++ t) (sym (append_assoc l (encode_labels ls) (encode_labels ms)))
    ∙ sym (append_assoc (encode (length l)) (l ++ encode_labels ls) (encode_labels ms))

length-one : (l : List ℕ) → length (encode_labels (l ∷ [])) ≡ length (encode (length l)) + length l
unfolding encode_labels
length-one l = simp (length-append, append-nil)

length_more : (ls : List (List ℕ)) (l : List ℕ)
    → length (encode_labels (ls ++ (l ∷ []))) ≡ length (encode_labels ls) + length (encode (length l)) + length l
length_more ls l =
    ap length (encode-labels_append ls (l ∷ []))
    ∙ length-append (encode_labels ls) (encode_labels (l ∷ []))
    ∙ omega (arith, length-one l)

length_cons : (l : List ℕ) (ls : List (List ℕ))
    → length (encode_labels (l ∷ ls)) ≡ length (encode (length l)) + length l + length (encode_labels ls)
unfolding encode_labels
length_cons l ls = simp (length-append, add_assoc)

-- ---- where they start

pub starts_more : (at : ℕ) (ls : List (List ℕ)) (l : List ℕ)
    → starts_of at (ls ++ (l ∷ [])) ≡ starts_of at ls ++ ((at + length (encode_labels ls) + length (encode (length l))) ∷ [])
unfolding starts_of encode_labels
starts_more at [] l = ap (λ (k : ℕ). (k + length (encode (length l))) ∷ []) (sym (add-zero at))
starts_more at (m ∷ ls) l =
    let b : ℕ = at + length (encode (length m)) + length m in
    let k = length_cons m ls in
    let e : b + length (encode_labels ls) ≡ at + length (encode_labels (m ∷ ls)) = omega arith in
    ap (λ (t : List ℕ). (at + length (encode (length m))) ∷ t)
    (starts_more b ls l ∙ ap (λ (j : ℕ). starts_of b ls ++ ((j + length (encode (length l))) ∷ [])) e)

pub starts_at : (at : ℕ) (ls : List (List ℕ)) (i : ℕ) → i < length ls
    → get_or (starts_of at ls) i 0 ≡ at + length (encode_labels (take i ls)) + length (encode (length (get_or ls i [])))
unfolding starts_of encode_labels
starts_at at [] i h = absurd (omega arith)
starts_at at (l ∷ ls) zero h = ap (λ (k : ℕ). k + length (encode (length l))) (sym (add-zero at))
starts_at at (l ∷ ls) (suc i) h =
    let b : ℕ = at + length (encode (length l)) + length l in
    let k = length_cons l (take i ls) in
    let e : b + length (encode_labels (take i ls)) ≡ at + length (encode_labels (l ∷ take i ls)) = omega arith in
    starts_at b ls i (omega arith) ∙ ap (λ (j : ℕ). j + length (encode (length (get_or ls i [])))) e

pub length-starts : (at : ℕ) (ls : List (List ℕ)) → length (starts_of at ls) ≡ length ls
unfolding starts_of
length-starts at [] = refl
length-starts at (l ∷ ls) = ap suc (length-starts (at + length (encode (length l)) + length l) ls)

-- a list stands at a place of the file
pub record Lies (s : List ℕ) (at : ℕ) (l : List ℕ) : Type 0 where
  pub after : List ℕ
  pub bytes : drop at s ≡ l ++ after

pub lies_part : (s : List ℕ) (at : ℕ) (l : List ℕ) → Lies s at l → take (length l) (drop at s) ≡ l
lies_part s at l h = ap (take (length l)) h.bytes ∙ take-append_seam l h.after

pub lies_within : (s : List ℕ) (at : ℕ) (l : List ℕ) → Lies s at l → 0 < length l → at + length l ≤ length s
lies_within s at l h k = omega (arith, simp (length-append, length-drop) at (ap length h.bytes))

lies-later : (s : List ℕ) (at : ℕ) (a b : List ℕ) → drop at s ≡ a ++ b → drop (at + length a) s ≡ b
lies-later s at a b e = sym (drop-drop (length a) at s) ∙ ap (drop (length a)) e ∙ drop-append_seam a b

pub label_lies : (s : List ℕ) (at : ℕ) (ls : List (List ℕ)) (rest : List ℕ) → drop at s ≡ encode_labels ls ++ rest
    → (i : ℕ) → i < length ls → Lies s (get_or (starts_of at ls) i 0) (get_or ls i [])
unfolding starts_of encode_labels
label_lies s at [] rest e i h = absurd (omega arith)
label_lies s at (l ∷ ls) rest e zero h = record {
  after = encode_labels ls ++ rest;
  bytes = lies-later s at (encode (length l)) (l ++ (encode_labels ls ++ rest)) (e ∙ simp append_assoc);
}
label_lies s at (l ∷ ls) rest e (suc i) h =
    let f = lies-later s at (encode (length l)) (l ++ (encode_labels ls ++ rest)) (e ∙ simp append_assoc) in
    label_lies s (at + length (encode (length l)) + length l) ls rest
    (lies-later s (at + length (encode (length l))) l (encode_labels ls ++ rest) f) i (omega arith)

-- ---- the tables, filled

-- i labels are done: they stand in front of the tables, and the others start at the place `at`
pub record Placing (s : List ℕ) (at₀ : ℕ) (labels : List (List ℕ)) (starts₀ lengths₀ starts lengths : List ℕ) (i at : ℕ) : Type 0 where
  pub done : List (List ℕ)
  pub todo : List (List ℕ)
  pub rest : List ℕ
  pub whole : done ++ todo ≡ labels
  pub count : length done ≡ i
  pub place : at ≡ at₀ + length (encode_labels done)
  pub bytes : drop at s ≡ encode_labels todo ++ rest
  pub starts-are : starts ≡ starts_of at₀ done ++ drop i starts₀
  pub lengths-are : lengths ≡ map length done ++ drop i lengths₀

length-map : (ls : List (List ℕ)) → length (map length ls) ≡ length ls
length-map [] = refl
length-map (l ∷ ls) = ap suc (length-map ls)

map_more : (ls : List (List ℕ)) (l : List ℕ) → map length (ls ++ (l ∷ [])) ≡ map length ls ++ (length l ∷ [])
map_more [] l = refl
map_more (m ∷ ls) l = ap (λ (t : List ℕ). length m ∷ t) (map_more ls l)

pub placing_none : (s : List ℕ) (at : ℕ) (labels : List (List ℕ)) (starts lengths rest : List ℕ) → drop at s ≡ encode_labels labels ++ rest
    → Placing s at labels starts lengths starts lengths 0 at
unfolding starts_of encode_labels
placing_none s at labels starts lengths rest e = record {
  done = [];
  todo = labels;
  rest = rest;
  whole = refl;
  count = refl;
  place = sym (add-zero at);
  bytes = e;
  starts-are = refl;
  lengths-are = refl;
}

-- the label that is next, as the file has it
pub record NextLabel (s : List ℕ) (todo : List (List ℕ)) (rest : List ℕ) (at : ℕ) : Type 0 where
  pub label : List ℕ
  pub others : List (List ℕ)
  pub todo_is : todo ≡ label ∷ others
  pub reads : number_at s at ≡ good (record { content = length label; next = at + length (encode (length label)) })
  pub later : drop (at + length (encode (length label)) + length label) s ≡ encode_labels others ++ rest
  pub within : at + length (encode (length label)) + length label ≤ length s

next_label : (s : List ℕ) (todo : List (List ℕ)) (rest : List ℕ) (at : ℕ) → length s ≤ most_file_bytes → 0 < length todo
    → drop at s ≡ encode_labels todo ++ rest → NextLabel s todo rest at
unfolding encode_labels
next_label s [] rest at k h e = absurd (omega arith)
next_label s (l ∷ ls) rest at k h e =
    let f : drop at s ≡ encode (length l) ++ (l ++ (encode_labels ls ++ rest)) = e ∙ simp append_assoc in
    let n = simp (length-append, length-drop) at (ap length f) in
    let g = number_suffix s at (length l) (l ++ (encode_labels ls ++ rest)) (omega arith) f in
    record {
      label = l;
      others = ls;
      todo_is = refl;
      reads = g.0;
      later = lies-later s (at + length (encode (length l))) l (encode_labels ls ++ rest) g.1;
      within = omega (arith, encode-some (length l));
    }

module _ {s : List ℕ} {at₀ : ℕ} {labels : List (List ℕ)} {starts₀ lengths₀ starts lengths : List ℕ} {i at : ℕ}
    (p : Placing s at₀ labels starts₀ lengths₀ starts lengths i at) (short : length s ≤ most_file_bytes) where
  pub placing_next : i < length labels → NextLabel s p.todo p.rest at
  placing_next h =
      next_label s p.todo p.rest at short (omega (arith, p.count, simp length-append at (ap length p.whole))) p.bytes

  pub placing_more : (start len : ℕ) (t : NextLabel s p.todo p.rest at) → i < length starts₀ → i < length lengths₀
      → start ≡ at + length (encode (length t.label))
      → len ≡ length t.label
      → Placing s at₀ labels starts₀ lengths₀ (set starts i start) (set lengths i len) (i + 1) (start + len)
  placing_more start len t j k e f =
      let l : List ℕ = t.label in
      let done : List (List ℕ) = p.done in
      let m = length_more done l in
      let q : start ≡ at₀ + length (encode_labels done) + length (encode (length l)) = omega (arith, p.place) in
      record {
        done = done ++ (l ∷ []);
        todo = t.others;
        rest = p.rest;
        whole = append_snoc done l t.others ∙ ap (λ (x : List (List ℕ)). done ++ x) (sym t.todo_is) ∙ p.whole;
        count = length-append done (l ∷ []) ∙ omega (arith, p.count);
        place = omega (arith, p.place);
        bytes = ap₂ (λ (x y : ℕ). drop (x + y) s) e f ∙ t.later;
        starts-are =
            ap (λ (x : List ℕ). set x i start) p.starts-are
            ∙ put_one starts₀ (starts_of at₀ done) i start (length-starts at₀ done ∙ p.count) j
            ∙ ap (λ (x : List ℕ). x ++ drop (i + 1) starts₀)
            (ap (λ (x : ℕ). starts_of at₀ done ++ (x ∷ [])) q ∙ sym (starts_more at₀ done l));
        lengths-are =
            ap (λ (x : List ℕ). set x i len) p.lengths-are
            ∙ put_one lengths₀ (map length done) i len (length-map done ∙ p.count) k
            ∙ ap (λ (x : List ℕ). x ++ drop (i + 1) lengths₀)
            (ap (λ (x : ℕ). map length done ++ (x ∷ [])) f ∙ sym (map_more done l));
      }

pub label_told : {s : List ℕ} {todo : List (List ℕ)} {rest : List ℕ} {at : ℕ} (t : NextLabel s todo rest at) {len : ℕ} {c : ℕ}
    → good (record { content = len; next = c }) ≡ number_at s at → (len ≡ length t.label) × (c ≡ at + length (encode (length t.label)))
label_told t e = read_same (e ∙ t.reads)

pub label_there : {s : List ℕ} {todo : List (List ℕ)} {rest : List ℕ} {at : ℕ} (t : NextLabel s todo rest at) {k p : ℕ} → fault k p ≡ number_at s at → ⊥
label_there t e = let r = e ∙ t.reads in let z : ◌≡◌ {A = ℕ} 0 1 = cc in omega arith

none_left : (done todo labels : List (List ℕ)) → done ++ todo ≡ labels → length done ≡ length labels → done ≡ labels
none_left done [] labels e h = sym (append-nil done) ∙ e
none_left done (l ∷ todo) labels e h = absurd (omega (arith, simp length-append at (ap length e)))

pub placing_done : {s : List ℕ} {at₀ : ℕ} {labels : List (List ℕ)} {starts₀ lengths₀ starts lengths : List ℕ} {i at : ℕ}
    → Placing s at₀ labels starts₀ lengths₀ starts lengths i at → i ≡ length labels
    → (starts ≡ front (starts_of at₀ labels) starts₀) × (lengths ≡ front (map length labels) lengths₀)
placing_done {at₀} {labels} {starts₀} {lengths₀} p e =
    let d : p.done ≡ labels = none_left p.done p.todo labels p.whole (p.count ∙ e) in (
      p.starts-are
          ∙ ap₂ (λ (x : List (List ℕ)) (j : ℕ). starts_of at₀ x ++ drop j starts₀) d (e ∙ sym (length-starts at₀ labels)),
      p.lengths-are ∙ ap₂ (λ (x : List (List ℕ)) (j : ℕ). map length x ++ drop j lengths₀) d (e ∙ sym (length-map labels)),
    )

-- ---- an accepted file

-- the labels of the accepted file s stand at the place `at`
pub record LabelsStand (s : List ℕ) (at : ℕ) : Type 0 where
  pub short : length s ≤ most_file_bytes
  pub rest : List ℕ
  pub bytes : drop at s ≡ encode_labels (content_of s).labels ++ rest
  pub some : All (λ l. 1 ≤ length l) (content_of s).labels

pub labels_stand : (s : List ℕ) (at n : ℕ) → Bytes s → LabelsAt s at n → LabelsStand s at
unfolding content_of
labels_stand s at n b h =
    let p = parts s (parsed_of s) h.accepted in
    record {
      short = (short_whole s (parsed_of s) h.accepted).0;
      rest = drop p.front.labels_end s;
      bytes = ap (λ (k : ℕ). drop k s) h.place ∙ p.front.labels_hold.bytes b;
      some = p.front.labels_hold.some;
    }

-- there is a place for each vertex
pub few-vertices : (s : List ℕ) (at n : ℕ) → LabelsAt s at n → n ≤ full_lengths
unfolding content_of
few-vertices s at n h = omega (arith, h.count, (parts s (parsed_of s) h.accepted).front.few_vertices)

pub starts_in_lem : (s : List ℕ) (at : ℕ) → at ≡ (parsed_of s).labels_at → starts_of at (content_of s).labels ≡ starts_in s
unfolding starts_in
starts_in_lem s at e = ap (λ (k : ℕ). starts_of k (content_of s).labels) e

-- ---- what the tables say of a vertex

front_at : (xs d : List ℕ) (i : ℕ) → d ≡ front xs d → i < length xs → (i < length d) × (get_or d i 0 ≡ get_or xs i 0)
front_at xs d i e h = (
  omega (arith, simp (length-append, length-drop) at (ap length e)),
  ap (λ (t : List ℕ). get_or t i 0) e ∙ get_or-append xs (drop (length xs) d) 0 i h,
)

lengths_at : (ls : List (List ℕ)) (i : ℕ) → get_or (map length ls) i 0 ≡ length (get_or ls i [])
lengths_at [] i = refl
lengths_at (l ∷ ls) zero = refl
lengths_at (l ∷ ls) (suc i) = lengths_at ls i

-- the tables find the label of vertex v in the file s
pub record Finds (s starts lengths : List ℕ) (v : ℕ) : Type 0 where
  pub some : 1 ≤ v
  pub in_starts : v - 1 < length starts
  pub in_lengths : v - 1 < length lengths
  pub start : get_or starts (v - 1) 0 ≡ get_or (starts_in s) (v - 1) 0
  pub size : get_or lengths (v - 1) 0 ≡ length (label_of (content_of s) v)
  pub lies : Lies s (get_or starts (v - 1) 0) (label_of (content_of s) v)
  pub within : get_or starts (v - 1) 0 + get_or lengths (v - 1) 0 ≤ length s

pub tables_find : (s : List ℕ) (n : ℕ) (starts lengths : List ℕ) (v : ℕ) → Bytes s → LabelTables s n starts lengths → 1 ≤ v → v ≤ n
    → Finds s starts lengths v
unfolding starts_in
tables_find s n starts lengths v b t h k =
    let ls : List (List ℕ) = (content_of s).labels in
    let at : ℕ = (parsed_of s).labels_at in
    let i : v - 1 < length ls = omega (arith, t.count) in
    let p = front_at (starts_of at ls) starts (v - 1) t.places (rw (length-starts at ls) i) in
    let q = front_at (map length ls) lengths (v - 1) t.sizes (rw (length-map ls) i) in
    let w = labels_stand s at n b (record { accepted = t.accepted; place = refl; count = t.count }) in
    let l = label_lies s at ls w.rest w.bytes (v - 1) i in
    let m = lies_within s (get_or (starts_of at ls) (v - 1) 0) (get_or ls (v - 1) []) l (all_at (λ l. 1 ≤ length l) ls (v - 1) [] w.some i) in
    record {
      some = h;
      in_starts = p.0;
      in_lengths = q.0;
      start = p.1;
      size = q.1 ∙ lengths_at ls (v - 1);
      lies = record { after = l.after; bytes = ap (λ (j : ℕ). drop j s) p.1 ∙ l.bytes };
      within = omega (arith, m, p.1, q.1, lengths_at ls (v - 1));
    }

-- the part of the file that the tables give for vertex v is its label
pub found_part : (s starts lengths : List ℕ) (v : ℕ) → Finds s starts lengths v
    → take (get_or starts (v - 1) 0 + get_or lengths (v - 1) 0 - get_or starts (v - 1) 0) (drop (get_or starts (v - 1) 0) s) ≡ label_of (content_of s) v
found_part s starts lengths v f =
    let e : get_or starts (v - 1) 0 + get_or lengths (v - 1) 0 - get_or starts (v - 1) 0 ≡ length (label_of (content_of s) v) = omega (arith, f.size) in
    rw e (lies_part s (get_or starts (v - 1) 0) (label_of (content_of s) v) f.lies)

-- the same of a vertex of a file that is the same
pub labels_find : (s t : List ℕ) (n : ℕ) (starts lengths : List ℕ) (v : ℕ) → Bytes s × LabelTables s n starts lengths → s ≡ t → 1 ≤ v
    → v ≤ vertex_count (content_of t) → Finds s starts lengths v
labels_find s t n starts lengths v (b, h) e k m = tables_find s n starts lengths v b h k (omega (arith, h.count, ap (λ (u : List ℕ). vertex_count (content_of u)) e))

pub start_found : (s t : List ℕ) (n : ℕ) (starts lengths : List ℕ) (v : ℕ) → LabelTables s n starts lengths → s ≡ t → 1 ≤ v
    → v ≤ vertex_count (content_of t) → get_or starts (v - 1) 0 ≡ get_or (starts_in t) (v - 1) 0
unfolding starts_in
start_found s t n starts lengths v h e k m =
    let ls : List (List ℕ) = (content_of s).labels in
    let at : ℕ = (parsed_of s).labels_at in
    let i : v - 1 < length ls = omega (arith, ap (λ (u : List ℕ). vertex_count (content_of u)) e) in
    (front_at (starts_of at ls) starts (v - 1) h.places (rw (length-starts at ls) i)).1 ∙ ap (λ (u : List ℕ). get_or (starts_of (parsed_of u).labels_at (content_of u).labels) (v - 1) 0) e

-- there is a place for each vertex
pub few_found : (s t : List ℕ) (n : ℕ) (starts lengths : List ℕ) → LabelTables s n starts lengths → s ≡ t → vertex_count (content_of t) ≤ full_lengths
few_found s t n starts lengths h e = omega (arith, h.count, few-vertices s (parsed_of s).labels_at n (record { accepted = h.accepted; place = refl; count = h.count }), ap (λ (u : List ℕ). vertex_count (content_of u)) e)

-- the tables, as they are filled, are those of the file
pub tables-made : (s : List ℕ) (at n : ℕ) (starts lengths starts₀ lengths₀ : List ℕ) → LabelsAt s at n
    → starts ≡ front (starts_in s) starts₀ → lengths ≡ front (lengths_of (content_of s)) lengths₀ → LabelTables s n starts lengths
tables-made s at n starts lengths starts₀ lengths₀ h e f = record {
  accepted = h.accepted;
  count = h.count;
  places = fronted (starts_in s) starts₀ starts e;
  sizes = fronted (lengths_of (content_of s)) lengths₀ lengths f;
}
  where
    fronted : (xs d t : List ℕ) → t ≡ front xs d → t ≡ front xs t
    fronted xs d t e = e ∙ ap (λ (u : List ℕ). xs ++ u) (sym (ap (drop (length xs)) e ∙ drop-append_seam xs (drop (length xs) d)))

-- ---- the loop that fills them

module _ {s : List ℕ} {at n : ℕ} (b : Bytes s) (h : LabelsAt s at n) {starts₀ lengths₀ : List ℕ} where
  pub filling_none : Placing s at (content_of s).labels starts₀ lengths₀ starts₀ lengths₀ 0 at
  filling_none = let k = labels_stand s at n b h in placing_none s at (content_of s).labels starts₀ lengths₀ k.rest k.bytes

  module _ {starts lengths : List ℕ} {i next : ℕ} (p : Placing s at (content_of s).labels starts₀ lengths₀ starts lengths i next) where
    next_is : i < n → NextLabel s p.todo p.rest next
    next_is j = placing_next p (labels_stand s at n b h).short (omega (arith, h.count))

    -- the next label's length is there, and its letters are in the file
    pub filling_stop : i < n → {k q : ℕ} → fault k q ≡ number_at s next → ⊥
    filling_stop j e = label_there (next_is j) e

    pub filling_fits : i < n → {len start : ℕ} → good (record { content = len; next = start }) ≡ number_at s next → start + len ≤ most_file_bytes
    filling_fits j e = let t = label_told (next_is j) e in omega (arith, t, (next_is j).within, (labels_stand s at n b h).short)

    pub filling_more : i < n → i < length starts₀ → i < length lengths₀ → {len start : ℕ} → good (record { content = len; next = start }) ≡ number_at s next
        → Placing s at (content_of s).labels starts₀ lengths₀ (set starts i start) (set lengths i len) (i + 1) (start + len)
    filling_more j k l {len} {start} e =
        let t = label_told (next_is j) e in
        placing_more p (labels_stand s at n b h).short start len (next_is j) k l t.1 t.0

    pub filling-done : i ≡ n → (starts ≡ front (starts_in s) starts₀) × (lengths ≡ front (lengths_of (content_of s)) lengths₀)
    filling-done e =
        let t = placing_done p (omega (arith, h.count)) in
        (t.0 ∙ ap (λ (x : List ℕ). front x starts₀) (starts_in_lem s at h.place), t.1)
