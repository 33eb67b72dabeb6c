-- The check of an anchor file over an accepted graph, section by section: what each number, rule or part that was read makes of it.
-- Assumes nothing.
use Prim.Native.Nat.{ℕ, ◌+◌, ◌-◌, ◌≤◌, ◌<◌}
use mathlib.Core.Path.{◌≡◌, refl, sym, ap, ap₂, ◌∙◌}
use mathlib.Core.List.{List}
use mathlib.Core.Bool.{Bool, true, false}
use native.Mathlib.Omega.{arith}
use native.Mathlib.Decide.{ℕ_discrete}
use lib.ListN.{length, take, drop}
use lib.Seq.{take-append_seam}
use lib.Dec.{eqb}
use borrow.Author.Tests.{le-leb, lt-leb, eq-eqb, ne_eqb}
use Rattle.wire.specs.Cases.{pick}
use Rattle.wire.specs.Found.{Found, good, fault, Part, and_then, refuse}
use Rattle.wire.specs.Numbers.{on_number, number, number_at}
use Rattle.wire.specs.Refusals.{wrong_kind, out_of_range, left_over}
use Rattle.wire.specs.Sizes.{anchor_kind, most_file_bytes, most_read, most_anchors}
use Rattle.wire.proofs.NumberLaws.{number-within}
use Rattle.graph_parts.specs.Answers.{count_at, letters_answer, answered}
use Rattle.graph.specs.Content.{Graph}
use Rattle.graph.specs.Reading.{letters_from}
use Rattle.graph.proofs.Accepting.{LettersRead, letters-read}
use Rattle.graph_parts.proofs.Passing.{count-on, count-value, answered-good, answered-fault}
use Rattle.graph_parts.proofs.Lettering.{letters-good, letters-fault}
use Rattle.anchors.proofs.AnchorAccepting.{anchors-read}
use Rattle.anchors_check.specs.CheckedAnchors.{checked_anchors_of}
use Rattle.anchors_head.specs.Head.{after_kind, head_of}
use Rattle.anchors.specs.Anchors.{Anchor}
use Rattle.anchors.specs.AnchorRules.{read_fault, anchor_count_fault, no_anchor}
use Rattle.anchors.specs.AnchorReading.{ParsedAnchors, anchors_from, whole_anchors, anchors_of}

-- ---- the definition, stage by stage

-- after the anchors: nothing is left over
abbrev end_on : List ℕ → List ℕ → ℕ → ℕ → Part (List Anchor) → Found ParsedAnchors
end_on s read b c anchors =
    refuse (pick (eqb anchors.next (length s)) 0 left_over) anchors.next
    (good (record { set = record { read = read; anchors = anchors.content }; read_at = b; anchors_at = c }))

-- after N: the anchors
abbrev pub anchors_on : Graph → List ℕ → List ℕ → ℕ → ℕ → ℕ → Found ParsedAnchors
anchors_on g s read b n c = and_then (anchors_from g read n no_anchor s c) (end_on s read b c)

-- after r: the letters, then N
abbrev pub letters_on : Graph → List ℕ → ℕ → ℕ → Found ParsedAnchors
letters_on g s r b =
    and_then (letters_from r s b) (λ read.
    number s (b + r) (λ n c. refuse (anchor_count_fault n) (b + r) (anchors_on g s read b n c)))

-- after the kind: r
abbrev kind_on : Graph → List ℕ → ℕ → ℕ → Found ParsedAnchors
kind_on g s kind a =
    refuse (pick (eqb kind anchor_kind) 0 wrong_kind) 0
    (number s a (λ r b. refuse (read_fault r) a (letters_on g s r b)))

module _ (g : Graph) (s : List ℕ) where
  pub over-long : most_file_bytes < length s → anchors_of g s ≡ fault out_of_range most_file_bytes
  unfolding anchors_of
  over-long h = simp (lt-leb (length s) most_file_bytes h)

  -- after the first number
  on_kind : (n : Found (Part ℕ)) → on_number n (kind_on g s) ≡ on_number (after_kind s n) (letters_on g s)
  on_kind (good k) =
      elim (ℕ_discrete k.content anchor_kind) [
        | yes e ↦ simp (eq-eqb k.content anchor_kind e) (count-on 1 most_read s k.next (letters_on g s))
        | no n ↦ simp (ne_eqb k.content anchor_kind n)
      ]
  on_kind (fault k p) = refl

  -- the file's head, then the letters
  pub over-head : length s ≤ most_file_bytes → anchors_of g s ≡ on_number (head_of s) (letters_on g s)
  unfolding anchors_of whole_anchors head_of
  over-head h = simp (le-leb (length s) most_file_bytes h) (on_kind (number_at s 0))

  pub over-letters : (r b : ℕ) {read : List ℕ} → letters_from r s b ≡ good read
      → letters_on g s r b ≡ on_number (count_at 0 most_anchors s (b + r)) (anchors_on g s read b)
  over-letters r b {read} e =
      ap (λ (x : Found (List ℕ)). and_then x (λ l. number s (b + r) (λ n c. refuse (anchor_count_fault n) (b + r) (anchors_on g s l b n c)))) e
      ∙ count-on 0 most_anchors s (b + r) (anchors_on g s read b)

  pub over_bad : (r b : ℕ) {k p : ℕ} → letters_from r s b ≡ fault k p → letters_on g s r b ≡ fault k p
  over_bad r b e = rw e

  pub over-stop : (read : List ℕ) (b n c : ℕ) {k p : ℕ} → anchors_from g read n no_anchor s c ≡ fault k p → anchors_on g s read b n c ≡ fault k p
  over-stop read b n c e = rw e

  pub over-left : (read : List ℕ) (b n c : ℕ) {p : Part (List Anchor)} → anchors_from g read n no_anchor s c ≡ good p → (p.next ≡ length s → ⊥)
      → anchors_on g s read b n c ≡ fault left_over p.next
  over-left read b n c {p} e h =
      ap (λ (x : Found (Part (List Anchor))). and_then x (end_on s read b c)) e ∙ simp (ne_eqb p.next (length s) h)

  pub over_done : (read : List ℕ) (b n c : ℕ) {p : Part (List Anchor)} → anchors_from g read n no_anchor s c ≡ good p → p.next ≡ length s
      → anchors_on g s read b n c ≡ good (record { set = record { read = read; anchors = p.content }; read_at = b; anchors_at = c })
  over_done read b n c {p} e h =
      ap (λ (x : Found (Part (List Anchor))). and_then x (end_on s read b c)) e ∙ simp (eq-eqb p.next (length s) h)

-- ---- the read's letters

-- the letters that were read are that part of the file
pub letters_part : (r : ℕ) (s : List ℕ) (at : ℕ) (l : List ℕ) → LettersRead r s at l → take r (drop at s) ≡ l
letters_part r s at l h =
    ap (λ (k : ℕ). take k (drop at s)) (sym h.count) ∙ ap (take (length l)) h.bytes ∙ take-append_seam l (drop (at + r) s)

-- the place after a count is within the file
count_next : (low high : ℕ) (s : List ℕ) (at : ℕ) {x : ℕ} {c : ℕ} → count_at low high s at ≡ good (record { content = x; next = c }) → c ≤ length s
count_next low high s at {x} {c} e = (number-within s at x c (count-value low high s at e).0).1

-- the place after the head is within the file
head-next : (s : List ℕ) (n : Found (Part ℕ)) {r : ℕ} {b : ℕ} → after_kind s n ≡ good (record { content = r; next = b }) → b ≤ length s
head-next s (good k) e =
    count_next 1 most_read s k.next (pick-value (eqb k.content anchor_kind) (count_at 1 most_read s k.next) wrong_kind 0 e)
  where
    pick-value : (b : Bool) (n : Found (Part ℕ)) (k p : ℕ) {x : ℕ} {c : ℕ} → pick b n (fault k p) ≡ good (record { content = x; next = c }) → n ≡ good (record { content = x; next = c })
    pick-value true n k p e = e
    pick-value false n k p e = let z : ◌≡◌ {A = ℕ} 0 1 = cc in absurd (omega arith)
head-next s (fault k p) e = let z : ◌≡◌ {A = ℕ} 0 1 = cc in absurd (omega arith)

-- the r letters of the read, after the head
pub letters-read-after : (s : List ℕ) {r : ℕ} {b : ℕ} → head_of s ≡ good (record { content = r; next = b }) → (l : List ℕ) → letters_from r s b ≡ good l
    → LettersRead r s b l
unfolding head_of
letters-read-after s {r} {b} e l f = letters-read r s b l (head-next s (number_at s 0) e) f

-- ---- the sections that are read, one after the other

module _ (g : Graph) (s : List ℕ) (short : length s ≤ most_file_bytes) where
  pub stop-head : {k p : ℕ} → head_of s ≡ fault k p → anchors_of g s ≡ fault k p
  stop-head e = over-head g s short ∙ ap (λ (n : Found (Part ℕ)). on_number n (letters_on g s)) e

  module _ {r b : ℕ} (head : head_of s ≡ good (record { content = r; next = b })) where
    after-head : anchors_of g s ≡ letters_on g s r b
    after-head = over-head g s short ∙ ap (λ (n : Found (Part ℕ)). on_number n (letters_on g s)) head

    pub stop-letters : {k p : ℕ} → letters_answer r (b + r) (letters_from r s b) ≡ fault k p → anchors_of g s ≡ fault k p
    stop-letters e = after-head ∙ over_bad g s r b (letters-fault r (b + r) (letters_from r s b) e)

    module _ {x c : ℕ} (letters : letters_answer r (b + r) (letters_from r s b) ≡ good (record { content = x; next = c })) where
      -- the read is that part of the file
      pub read-is : (letters_from r s b ≡ good (take (c - b) (drop b s))) × (length (take (c - b) (drop b s)) ≡ r) × (b + r ≡ c) × (c ≤ length s)
      read-is =
          let t = letters-good r (b + r) (letters_from r s b) letters in
          let h = letters-read-after s head t.0 t.1 in
          let n : c - b ≡ r = omega (arith, t.2) in
          let e : take (c - b) (drop b s) ≡ t.0 = ap (λ (k : ℕ). take k (drop b s)) n ∙ letters_part r s b t.0 h in
          (t.1 ∙ ap (λ (l : List ℕ). good l) (sym e), ap length e ∙ h.count, t.2, omega (arith, t.2, h.within))

      after-letters : anchors_of g s ≡ on_number (count_at 0 most_anchors s c) (anchors_on g s (take (c - b) (drop b s)) b)
      after-letters =
          after-head ∙ over-letters g s r b read-is.0
          ∙ ap (λ (j : ℕ). on_number (count_at 0 most_anchors s j) (anchors_on g s (take (c - b) (drop b s)) b)) read-is.2

      pub stop-count : {k p : ℕ} → count_at 0 most_anchors s c ≡ fault k p → anchors_of g s ≡ fault k p
      stop-count e = after-letters ∙ ap (λ (n : Found (Part ℕ)). on_number n (anchors_on g s (take (c - b) (drop b s)) b)) e

      module _ {n d : ℕ} (count : count_at 0 most_anchors s c ≡ good (record { content = n; next = d })) where
        after-count : anchors_of g s ≡ anchors_on g s (take (c - b) (drop b s)) b n d
        after-count = after-letters ∙ ap (λ (n : Found (Part ℕ)). on_number n (anchors_on g s (take (c - b) (drop b s)) b)) count

        pub stop-each : {k p : ℕ} → answered n (anchors_from g (take (c - b) (drop b s)) n no_anchor s d) ≡ fault k p → anchors_of g s ≡ fault k p
        stop-each e = after-count ∙ over-stop g s (take (c - b) (drop b s)) b n d (answered-fault n _ e)

        module _ {m e : ℕ} (each : answered n (anchors_from g (take (c - b) (drop b s)) n no_anchor s d) ≡ good (record { content = m; next = e })) where
          pub stop-left : (e ≡ length s → ⊥) → anchors_of g s ≡ fault left_over e
          stop-left h =
              let t = answered-good n _ each in
              after-count ∙ over-left g s (take (c - b) (drop b s)) b n d t.1 (λ z. h (sym t.2 ∙ z)) ∙ ap (λ (k : ℕ). fault left_over k) t.2

          pub all-read : e ≡ length s → checked_anchors_of (anchors_of g s) ≡ good (record { r = r; read = b; n = n; anchors = d })
          all-read h =
              let t = answered-good n _ each in
              ap checked_anchors_of (after-count ∙ over_done g s (take (c - b) (drop b s)) b n d t.1 (t.2 ∙ h))
              ∙ ap₂ (λ (i j : ℕ). good (record { r = i; read = b; n = j; anchors = d })) read-is.1
              (anchors-read g _ n no_anchor s d _ (count_next 0 most_anchors s c count) t.1).count
