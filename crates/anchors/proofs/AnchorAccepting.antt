-- What was read of an anchor file: its parts, that they keep the rules, where each ends, and that its bytes are their encoding.
-- Assumes nothing.
use Prim.Native.Nat.{ℕ, zero, suc, ◌+◌, ◌≤◌}
use mathlib.Core.Path.{◌≡◌, refl, sym, ap, ap₂, ◌∙◌, subst}
use mathlib.Core.List.{List, ◌∷◌, ◌++◌, append_assoc, append-nil}
use native.Mathlib.Omega.{arith}
use lib.ListN.{length, drop}
use lib.Dec.{leb, eqb}
use borrow.Author.Tests.{leb-true, eqb-true, le-leb}
use Rattle.wire.specs.Cases.{pick}
use Rattle.wire.specs.Found.{good, Part}
use Rattle.wire.specs.Numbers.{encode, number_at}
use Rattle.wire.specs.Refusals.{out_of_range, wrong_kind, left_over}
use Rattle.wire.specs.Sizes.{anchor_kind, most_file_bytes, most_read, most_anchors}
use Rattle.wire.proofs.NumberLaws.{Bytes, number-value, number-within}
use Rattle.wire.proofs.Finding.{refuse-good, on_then, on-number, on-refuse, good-same}
use Rattle.graph.specs.Content.{Graph}
use Rattle.graph.specs.Good.{All, Next}
use Rattle.graph.specs.Encode.{encode_numbers}
use Rattle.graph.specs.Reading.{letters_from}
use Rattle.graph.proofs.Kept.{passed, range_kept}
use Rattle.graph.proofs.Accepting.{letters-read}
use Rattle.anchors.specs.Anchors.{Anchor, numbers_of, read_length, anchor_count}
use Rattle.anchors.specs.AnchorRules.{read_fault, anchor_count_fault, no_anchor}
use Rattle.anchors.specs.AnchorBytes.{encode_each}
use Rattle.anchors.specs.AnchorReading.{Numbers, numbers_at, anchors_from, ParsedAnchors, whole_anchors, anchors_of}
use Rattle.anchors.specs.GoodAnchors.{GoodAnchor, KeyBelow}
use Rattle.anchors.proofs.AnchorOrder.{anchor_kept}
use Rattle.anchors.proofs.AnchorSteps.{numbers-step, numbers-within, AnchorStep, anchors-step, anchors-none}

-- ---- the anchors

-- the bytes of an anchor, number by number
pub numbers_joined : (a : Anchor) (rest : List ℕ)
    → encode_numbers (numbers_of a) ++ rest ≡ encode a.v ++ (encode a.x ++ (encode a.c ++ (encode a.len ++ (encode a.weight ++ rest))))
unfolding encode_numbers
numbers_joined a rest = simp (append_assoc, append-nil)

-- an anchor's bytes are the encoding of its numbers
numbers-bytes : (s : List ℕ) (at : ℕ) (a : Numbers) → Bytes s → numbers_at s at ≡ good a
    → drop at s ≡ encode_numbers (numbers_of a.anchor) ++ drop a.next s
numbers-bytes s at a b e =
    let n = numbers-step s at a e in
    let v = (number-value s at a.anchor.v n.v_end b n.v_is).suffix in
    let x = (number-value s n.v_end a.anchor.x n.x_end b n.x_is).suffix in
    let c = (number-value s n.x_end a.anchor.c n.c_end b n.c_is).suffix in
    let l = (number-value s n.c_end a.anchor.len n.len_end b n.len_is).suffix in
    let w = (number-value s n.len_end a.anchor.weight n.weight_end b n.weight_is).suffix in
    v
    ∙ ap (λ (t : List ℕ). encode a.anchor.v ++ t) (x
    ∙ ap (λ (t : List ℕ). encode a.anchor.x ++ t) (c
    ∙ ap (λ (t : List ℕ). encode a.anchor.c ++ t) (l
    ∙ ap (λ (t : List ℕ). encode a.anchor.len ++ t) (w
    ∙ ap (λ (k : ℕ). encode a.anchor.weight ++ drop k s) (sym n.next)))))
    ∙ sym (numbers_joined a.anchor (drop a.next s))

pub record AnchorsRead (g : Graph) (read : List ℕ) (left : ℕ) (last : Anchor) (s : List ℕ) (at : ℕ) (r : Part (List Anchor)) : Type 0 where
  pub count : length r.content ≡ left
  pub within : r.next ≤ length s
  pub each : All (GoodAnchor g read) r.content
  pub rise : Next KeyBelow (last ∷ r.content)
  pub bytes : Bytes s → drop at s ≡ encode_each r.content ++ drop r.next s

module _ (g : Graph) (read : List ℕ) where
  anchors-more : (left : ℕ) (last : Anchor) (s : List ℕ) (at : ℕ) (r : Part (List Anchor)) (t : AnchorStep g read left last s at r)
      → AnchorsRead g read left t.first.anchor s t.first.next t.rest → AnchorsRead g read (suc left) last s at r
  unfolding All Next encode_each
  anchors-more left last s at r t i =
      let k = anchor_kept g read last t.first.anchor t.kept in
      let q : r ≡ record { content = t.first.anchor ∷ t.rest.content; next = t.rest.next } =
      ap₂ (λ (c : List Anchor) (n : ℕ). record { content = c; next = n }) t.content t.next
      in
      rw q
      (record {
        count = ap suc i.count;
        within = i.within;
        each = (k.0, i.each);
        rise = (k.1, i.rise);
        bytes = λ b. numbers-bytes s at t.first b t.first_is
            ∙ ap (λ (u : List ℕ). encode_numbers (numbers_of t.first.anchor) ++ u) (i.bytes b)
            ∙ sym (append_assoc (encode_numbers (numbers_of t.first.anchor)) (encode_each t.rest.content) (drop t.rest.next s));
      })

  pub anchors-read : (left : ℕ) (last : Anchor) (s : List ℕ) (at : ℕ) (r : Part (List Anchor)) → at ≤ length s
      → anchors_from g read left last s at ≡ good r → AnchorsRead g read left last s at r
  unfolding All Next encode_each
  anchors-read zero last s at r h e =
      rw (anchors-none g read last s at r e)
      (record { count = refl; within = h; each = tt; rise = tt; bytes = λ b. refl })
  anchors-read (suc left) last s at r h e =
      let t = anchors-step g read left last s at r e in
      let w = numbers-within s at t.first t.first_is in
      anchors-more left last s at r t (anchors-read left t.first.anchor s t.first.next t.rest w.2 t.rest_is)

-- ---- the file

-- The parts of what was read of a file, each with the equation of its reading: the kind, r, the read, N, the anchors, and the end.
pub record AnchorParts (g : Graph) (s : List ℕ) (q : ParsedAnchors) : Type 0 where
  -- the kind, and where r stands
  pub length_at : ℕ
  pub kind_is : number_at s 0 ≡ good (record { content = anchor_kind; next = length_at })
  -- r
  pub length_is : number_at s length_at ≡ good (record { content = read_length q.set; next = q.read_at })
  pub some_read : 1 ≤ read_length q.set
  pub few_read : read_length q.set ≤ most_read
  -- the letters of the read
  pub read_is : letters_from (read_length q.set) s q.read_at ≡ good q.set.read
  pub read_within : q.read_at + read_length q.set ≤ length s
  -- N
  pub count_is : number_at s (q.read_at + read_length q.set) ≡ good (record { content = anchor_count q.set; next = q.anchors_at })
  pub few_anchors : anchor_count q.set ≤ most_anchors
  -- the anchors, up to the end of the file
  pub anchors_is : anchors_from g q.set.read (anchor_count q.set) no_anchor s q.anchors_at
      ≡ good (record { content = q.set.anchors; next = length s })
  pub anchors_within : q.anchors_at ≤ length s

-- the parts, from what was found of each
parts_from : (g : Graph) (s : List ℕ) (q : ParsedAnchors) (kind : ℕ) (a : ℕ) (r : ℕ) (b : ℕ) (read : List ℕ) (n : ℕ) (c : ℕ)
    (p : Part (List Anchor))
    → number_at s 0 ≡ good (record { content = kind; next = a })
    → pick (eqb kind anchor_kind) 0 wrong_kind ≡ 0
    → number_at s a ≡ good (record { content = r; next = b })
    → read_fault r ≡ 0
    → letters_from r s b ≡ good read
    → number_at s (b + r) ≡ good (record { content = n; next = c })
    → anchor_count_fault n ≡ 0
    → anchors_from g read n no_anchor s c ≡ good p
    → pick (eqb p.next (length s)) 0 left_over ≡ 0
    → record { set = record { read = read; anchors = p.content }; read_at = b; anchors_at = c } ≡ q
    → AnchorParts g s q
parts_from g s q kind a r b read n c p kind_is is_kind length_is kept_r read_is count_is kept_n anchors_is ends e =
    let w = number-within s a r b length_is in
    let l = letters-read r s b read w.1 read_is in
    let v = number-within s (b + r) n c count_is in
    let i = anchors-read g read n no_anchor s c p v.1 anchors_is in
    let k : kind ≡ anchor_kind = eqb-true kind anchor_kind (passed (eqb kind anchor_kind) wrong_kind (omega arith) is_kind) in
    let f : p.next ≡ length s = eqb-true p.next (length s) (passed (eqb p.next (length s)) left_over (omega arith) ends) in
    let hr = range_kept 1 most_read r kept_r in
    let hn = range_kept 0 most_anchors n kept_n in
    subst (AnchorParts g s) e
    (record {
      length_at = a;
      kind_is = kind_is ∙ ap (λ (j : ℕ). good (record { content = j; next = a })) k;
      length_is = length_is ∙ ap (λ (j : ℕ). good (record { content = j; next = b })) (sym l.count);
      some_read = omega (arith, l.count);
      few_read = omega (arith, l.count);
      read_is = ap (λ (j : ℕ). letters_from j s b) l.count ∙ read_is;
      read_within = omega (arith, l.count, l.within);
      count_is = ap (λ (j : ℕ). number_at s (b + j)) l.count ∙ count_is ∙ ap (λ (j : ℕ). good (record { content = j; next = c })) (sym i.count);
      few_anchors = omega (arith, i.count);
      anchors_is = ap (λ (j : ℕ). anchors_from g read j no_anchor s c) i.count
          ∙ anchors_is
          ∙ ap (λ (j : ℕ). good (record { content = p.content; next = j })) f;
      anchors_within = v.1;
    })

-- The inversion: what was read of a file has the parts of its content.
pub whole_parts : (g : Graph) (s : List ℕ) (q : ParsedAnchors) → whole_anchors g s ≡ good q → AnchorParts g s q
unfolding whole_anchors
whole_parts g s q e =
    on-number s 0 _ q e (λ kind a kind_is e1.
    on-refuse (pick (eqb kind anchor_kind) 0 wrong_kind) 0 _ q e1 (λ is_kind e2.
    on-number s a _ q e2 (λ r b length_is e3.
    on-refuse (read_fault r) a _ q e3 (λ kept_r e4.
    on_then (letters_from r s b) _ q e4 (λ read read_is e5.
    on-number s (b + r) _ q e5 (λ n c count_is e6.
    on-refuse (anchor_count_fault n) (b + r) _ q e6 (λ kept_n e7.
    on_then (anchors_from g read n no_anchor s c) _ q e7 (λ p anchors_is e8.
    on-refuse (pick (eqb p.next (length s)) 0 left_over) p.next _ q e8 (λ ends e9.
    parts_from g s q kind a r b read n c p kind_is is_kind length_is kept_r read_is count_is kept_n anchors_is ends (good-same _ q e9))))))))))

-- an accepted file is not too long
pub not-long : (g : Graph) (s : List ℕ) (q : ParsedAnchors) → anchors_of g s ≡ good q → (length s ≤ most_file_bytes) × (whole_anchors g s ≡ good q)
unfolding anchors_of
not-long g s q e =
    let t = refuse-good (pick (leb (length s) most_file_bytes) 0 out_of_range) most_file_bytes (whole_anchors g s) q e in
    (leb-true (length s) most_file_bytes (passed (leb (length s) most_file_bytes) out_of_range (omega arith) t.0), t.1)

-- and of one that is not, the bytes decide
pub few_bytes : (g : Graph) (s : List ℕ) → length s ≤ most_file_bytes → anchors_of g s ≡ whole_anchors g s
unfolding anchors_of
few_bytes g s h = simp (le-leb (length s) most_file_bytes h)

pub anchor_parts : (g : Graph) (s : List ℕ) (q : ParsedAnchors) → anchors_of g s ≡ good q → AnchorParts g s q
anchor_parts g s q e = whole_parts g s q (not-long g s q e).1
