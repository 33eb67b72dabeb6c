-- What reading an anchor file over an accepted graph finds: its content, or the first fault. s is the file, `at` a place in it.
use Rattle.std.specs.Prelude.{ℕ, zero, suc, ◌+◌, List, [], ◌∷◌, length, leb, eqb}
use Rattle.wire.specs.Cases.{pick}
use Rattle.wire.specs.Found.{Found, good, Part, and_then, refuse}
use Rattle.wire.specs.Numbers.{number}
use Rattle.wire.specs.Refusals.{wrong_kind, out_of_range, left_over}
use Rattle.wire.specs.Sizes.{anchor_kind, most_file_bytes}
use Rattle.graph.specs.Content.{Graph}
use Rattle.graph.specs.Reading.{letters_from}
use Rattle.anchors.specs.Anchors.{Anchor, AnchorSet}
use Rattle.anchors.specs.AnchorRules.{read_fault, anchor_count_fault, anchor_fault, fault_place, no_anchor}

-- one anchor's numbers, and where the weight starts
pub record Numbers : Type 0 where
  pub anchor : Anchor
  pub weight_at : ℕ
  pub next : ℕ

-- "An anchor's five numbers are read"
unfoldable pub numbers_at : List ℕ → ℕ → Found Numbers
numbers_at s at =
    number s at (λ v p.
    number s p (λ x q.
    number s q (λ c r.
    number s r (λ len t.
    number s t (λ weight u.
    good (record { anchor = record { v = v; x = x; c = c; len = len; weight = weight }; weight_at = t; next = u }))))))

-- the anchors, `left` of them, after the anchor `last`: ".. then 6, 11, 4 (place: the weight's first byte), 12, 7"
unfoldable pub anchors_from : Graph → List ℕ → ℕ → Anchor → List ℕ → ℕ → Found (Part (List Anchor))
anchors_from g read zero last s at = good (record { content = []; next = at })
anchors_from g read (suc left) last s at =
    and_then (numbers_at s at) (λ a.
    refuse (anchor_fault g read last a.anchor) (fault_place (anchor_fault g read last a.anchor) at a.weight_at)
    (and_then (anchors_from g read left a.anchor s a.next) (λ r.
    good (record { content = a.anchor ∷ r.content; next = r.next }))))

-- an accepted file: its content, and where the read's letters and the anchors start
pub record ParsedAnchors : Type 0 where
  pub set : AnchorSet
  pub read_at : ℕ
  pub anchors_at : ℕ

-- what reading an anchor file's bytes s over the graph g finds, however many they are: "byte by byte from the front"
unfoldable pub whole_anchors : Graph → List ℕ → Found ParsedAnchors
whole_anchors g s =
    number s 0 (λ kind a.
    refuse (pick (eqb kind anchor_kind) 0 wrong_kind) 0
    (number s a (λ r b.
    refuse (read_fault r) a
    (and_then (letters_from r s b) (λ read.
    number s (b + r) (λ n c.
    refuse (anchor_count_fault n) (b + r)
    (and_then (anchors_from g read n no_anchor s c) (λ anchors.
    refuse (pick (eqb anchors.next (length s)) 0 left_over) anchors.next
    (good (record { set = record { read = read; anchors = anchors.content }; read_at = b; anchors_at = c }))))))))))

-- what reading the anchor file s over the graph g finds: "file too long; then byte by byte from the front"
unfoldable pub anchors_of : Graph → List ℕ → Found ParsedAnchors
anchors_of g s = refuse (pick (leb (length s) most_file_bytes) 0 out_of_range) most_file_bytes (whole_anchors g s)
