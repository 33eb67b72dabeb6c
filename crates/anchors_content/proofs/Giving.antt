-- The content that is given, section by section: what the reader finds in its encoding is its first fault, or what stands in the used places.
-- Assumes nothing.
use Prim.Native.Nat.{ℕ, zero, suc, ◌+◌, ◌*◌, ◌^◌, ◌<◌}
use mathlib.Core.Path.{◌≡◌, refl, sym, ap, ◌∙◌, subst}
use mathlib.Core.Logic.{inl, inr}
use mathlib.Core.List.{List, [], ◌∷◌, ◌++◌, append_assoc, append-nil}
use native.Mathlib.Omega.{arith}
use native.Mathlib.Decide.{ℕ_discrete}
use native.Mathlib.Nat.{add-zero}
use lib.ListN.{length, get_or, drop, length-append}
use borrow.Author.Tests.{lt-ltb, eq-eqb, ne_eqb}
use Rattle.graph.specs.Entries.{numbers_in}
use Rattle.wire.specs.Found.{good, fault, refuse, first, refusal_number}
use Rattle.wire.specs.Numbers.{encode}
use Rattle.wire.specs.Sizes.{anchor_kind, most_read, most_anchors}
use Rattle.wire.proofs.NumberLaws.{number_suffix}
use Rattle.wire.proofs.Giving.{Gives, same, gives-good, gives-refuse, gives_then, gives-ends, gives_sure, gives_none, number_is_lem}
use Rattle.graph.specs.Content.{Graph}
use Rattle.graph.specs.Rules.{letter_fault}
use Rattle.graph.specs.Encode.{encode_numbers}
use Rattle.graph.specs.Reading.{letters_from}
use Rattle.graph_content.specs.Faults.{letters_fault}
use Rattle.anchors.specs.Anchors.{Anchor, numbers_of, per_anchor}
use Rattle.anchors.specs.AnchorRules.{read_fault, anchor_count_fault, anchor_fault, fault_place, no_anchor}
use Rattle.anchors.specs.AnchorBytes.{encode_each, encode_anchors}
use Rattle.anchors.specs.AnchorReading.{anchors_from, ParsedAnchors, whole_anchors}
use Rattle.anchors.specs.AnchorEntries.{AnchorsGiven, anchor_in, anchors_in, set_in, anchors_given}
use Rattle.anchors.proofs.AnchorFaults.{ContentNumber, Ruled, range_ruled, letter_ruled, anchor_ruled, number-some}
use Rattle.graph.proofs.Givens.{length-numbers}
use Rattle.graph.proofs.Rereading.{here}
use Rattle.anchors.proofs.AnchorRereading.{Fitting, numbers-back}
use Rattle.anchors.proofs.AnchorGiven.{set-bytes}
use Rattle.anchors.proofs.AnchorWriting.{content-fault}
use Rattle.anchors_content.specs.FirstFaults.{each_fault}

-- the first fault of all the content, section after section
unfoldable pub content_fault : Graph → AnchorsGiven → ℕ
content_fault g c =
    first (read_fault c.r)
    (first (letters_fault c.r c.buffers.letters 0)
    (first (anchor_count_fault c.n)
    (each_fault g (numbers_in c.r 0 c.buffers.letters) c.n 0 no_anchor c.buffers.anchors)))

-- its number is 0 or one of the content's rules
first_ruled : (j k : ℕ) → Ruled j → Ruled k → Ruled (first j k)
first_ruled j k (inl e) h = simp (eq-eqb j 0 e) h
first_ruled j k (inr i) h =
    elim (ℕ_discrete j 0) [
      | yes e ↦ simp (eq-eqb j 0 e) h
      | no n ↦ simp (ne_eqb j 0 n) (inr i)
    ]

letters_ruled : (left : ℕ) (letters : List ℕ) (at : ℕ) → Ruled (letters_fault left letters at)
unfolding letters_fault
letters_ruled zero letters at = inl refl
letters_ruled (suc left) letters at = first_ruled (letter_fault (get_or letters at 0)) _ (letter_ruled (get_or letters at 0)) (letters_ruled left letters (at + 1))

each_ruled : (g : Graph) (read : List ℕ) (left i : ℕ) (last : Anchor) (numbers : List ℕ) → Ruled (each_fault g read left i last numbers)
unfolding each_fault
each_ruled g read zero i last numbers = inl refl
each_ruled g read (suc left) i last numbers =
    first_ruled (anchor_fault g read last (anchor_in numbers i)) _ (anchor_ruled g read last (anchor_in numbers i))
    (each_ruled g read left (i + 1) (anchor_in numbers i) numbers)

content_ruled : (g : Graph) (c : AnchorsGiven) → Ruled (content_fault g c)
unfolding content_fault
content_ruled g c =
    first_ruled (read_fault c.r) _ (range_ruled 1 most_read c.r)
    (first_ruled (letters_fault c.r c.buffers.letters 0) _ (letters_ruled c.r c.buffers.letters 0)
    (first_ruled (anchor_count_fault c.n) _ (range_ruled 0 most_anchors c.n)
    (each_ruled g (numbers_in c.r 0 c.buffers.letters) c.n 0 no_anchor c.buffers.anchors)))

-- ---- the letters of the read

letters_give : (left i : ℕ) (letters s : List ℕ) (at : ℕ) (rest : List ℕ) → drop at s ≡ numbers_in left i letters ++ rest
    → Gives same (letters_fault left letters i) (numbers_in left i letters) (letters_from left s at) × (drop (at + left) s ≡ rest)
unfolding letters_fault numbers_in letters_from
letters_give zero i letters s at rest e = (gives-good same [], ap (λ (j : ℕ). drop j s) (add-zero at) ∙ e)
letters_give (suc left) i letters s at rest e =
    let b : ℕ = get_or letters i 0 in
    let t = here s at b (numbers_in left (i + 1) letters ++ rest) e in
    let r = letters_give left (i + 1) letters s (at + 1) rest t.2 in
    let n : at + suc left ≡ at + 1 + left = omega arith in (
      simp (lt-ltb at (length s) t.0, t.1)
          (gives-refuse (letter_fault b) _ at _ (gives-ends same _ _ (letters_from left s (at + 1)) _ r.0 refl)),
      ap (λ (j : ℕ). drop j s) n ∙ r.1,
    )

-- ---- the anchors, whose numbers fit 32 bits

module _ (g : Graph) (read numbers : List ℕ) (fits : (j : ℕ) → get_or numbers j 0 < 2 ^ 32) where
  fitting : (i : ℕ) → Fitting (anchor_in numbers i)
  fitting i =
      let p : ℕ = per_anchor * i in
      (fits p, fits (p + 1), fits (p + 2), fits (p + 3), fits (p + 4))

  each_give : (left i : ℕ) (last : Anchor) (s : List ℕ) (at : ℕ) (rest : List ℕ) → drop at s ≡ encode_each (anchors_in left i numbers) ++ rest
      → Gives same (each_fault g read left i last numbers)
      (record { content = anchors_in left i numbers; next = at + length (encode_each (anchors_in left i numbers)) })
      (anchors_from g read left last s at)
  unfolding each_fault anchors_in encode_each anchors_from
  each_give zero i last s at rest e = gives_none at []
  each_give (suc left) i last s at rest e =
      let a : Anchor = anchor_in numbers i in
      let b : List ℕ = encode_numbers (numbers_of a) in
      let more : List ℕ = encode_each (anchors_in left (i + 1) numbers) in
      let n = numbers-back s at a (more ++ rest) (fitting i) (e ∙ append_assoc b more rest) in
      let r = each_give left (i + 1) a s (at + length b) rest n.2 in
      let m : at + length b + length more ≡ at + length (b ++ more) = omega (arith, length-append b more) in
      simp n.1
      (gives-refuse (anchor_fault g read last a) _ (fault_place (anchor_fault g read last a) at n.0) _
      (gives-ends same _ _ (anchors_from g read left a s (at + length b)) _ r
      (ap (λ (j : ℕ). good (record { content = a ∷ anchors_in left (i + 1) numbers; next = j })) m)))

-- ---- the whole

module _ (g : Graph) (c : AnchorsGiven) (r-fits : c.r < 2 ^ 32) (n-fits : c.n < 2 ^ 32) (fits : (j : ℕ) → get_or c.buffers.anchors j 0 < 2 ^ 32) where
  -- what the reader finds in the encoding of the used places
  whole_gives : Gives (λ (q : ParsedAnchors). q.set) (content_fault g c) (set_in c) (whole_anchors g (encode_anchors (set_in c)))
  unfolding whole_anchors content_fault
  whole_gives =
      let s : List ℕ = encode_anchors (set_in c) in
      let read : List ℕ = numbers_in c.r 0 c.buffers.letters in
      let each : List Anchor = anchors_in c.n 0 c.buffers.anchors in
      let kind = number_suffix s 0 anchor_kind _ (omega arith) (set-bytes c) in
      let p : ℕ = 0 + length (encode anchor_kind) in
      let len = number_suffix s p c.r _ r-fits kind.1 in
      let b : ℕ = p + length (encode c.r) in
      let l = letters_give c.r 0 c.buffers.letters s b _ len.1 in
      let count = number_suffix s (b + c.r) c.n (encode_each each) n-fits l.1 in
      let at : ℕ = b + c.r + length (encode c.n) in
      let e = each_give g read c.buffers.anchors fits c.n 0 no_anchor s at [] (count.1 ∙ sym (append-nil (encode_each each))) in
      let end : at + length (encode_each each) ≡ length s =
      omega (arith, simp (length-append, length-numbers c.r 0 c.buffers.letters) at (ap length (set-bytes c))) in
      gives_sure s 0 anchor_kind _ _ _ (omega arith) (set-bytes c)
      (gives_sure s p c.r _ _ _ r-fits kind.1
      (gives-refuse (read_fault c.r) _ p _
      (gives_then _ _ (letters_from c.r s b) _ l.0
      (gives_sure s (b + c.r) c.n _ _ _ n-fits l.1
      (gives-refuse (anchor_count_fault c.n) _ (b + c.r) _
      (gives-ends (λ (q : ParsedAnchors). q.set) (record { set = set_in c; read_at = b; anchors_at = at }) _ (anchors_from g read c.n no_anchor s at) _ e
      (simp (eq-eqb (at + length (encode_each each)) (length s) end))))))))

  -- The content that is given is the one in the used places, or its first fault.
  pub content-given : anchors_given g c ≡ refuse (content_fault g c) 0 (good (set_in c))
  unfolding anchors_given
  content-given = whole_gives.found

  -- and its number is that of the first fault
  pub content-told : refusal_number (anchors_given g c) ≡ content_fault g c
  content-told = ap refusal_number content-given ∙ number_is_lem (content_fault g c) (set_in c)

  -- "4 to 9, 11 and 12": no other number is given for content
  pub content-number : (k place : ℕ) → anchors_given g c ≡ fault k place → ContentNumber k
  content-number k place e =
      let n : k ≡ content_fault g c = sym (ap refusal_number e) ∙ content-told in
      some (content_fault g c) n (content_ruled g c)
    where
      some : (f : ℕ) → k ≡ f → Ruled f → ContentNumber k
      some f n (inl z) = absurd (omega (arith, number-some k (content-fault g c k place e).known))
      some f n (inr h) = subst ContentNumber (sym n) h
