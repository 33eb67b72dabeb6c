-- The rules of the anchor file, each as the refusal number that it gives, 0 for none. The reader and the writer go by these alone.
use Rattle.std.specs.Prelude.{ℕ, zero, suc, ◌+◌, ◌-◌, List, [], Bool, true, ◌&&◌, ◌||◌, length, get_or, ltb, leb, eqb}
use Rattle.wire.specs.Cases.{pick}
use Rattle.wire.specs.Letters.{agree}
use Rattle.wire.specs.Refusals.{out_of_range, no_vertex, not_rising, outside, letters_differ}
use Rattle.wire.specs.Sizes.{most_read, most_anchors, most_weight}
use Rattle.graph.specs.Content.{Graph, vertex_count}
use Rattle.graph.specs.Rules.{range_fault, is_vertex}
use Rattle.anchors.specs.Anchors.{Anchor, y}

-- "r, N | 1 to 32,768, 0 to 2,048"
abbrev pub read_fault : ℕ → ℕ
read_fault r = range_fault 1 most_read r

abbrev pub anchor_count_fault : ℕ → ℕ
anchor_count_fault n = range_fault 0 most_anchors n

-- the label of vertex v, "All numbering is from 1"
abbrev pub label_of : Graph → ℕ → List ℕ
label_of g v = get_or g.labels (v - 1) []

-- "anchor outside label or read, or x, c or length 0": it is inside a label of `letters` letters and a read of r, by true sums
abbrev pub is_inside : ℕ → ℕ → Anchor → Bool
is_inside letters r a =
    ◌&&◌ (leb 1 a.x)
    (◌&&◌ (leb 1 a.c)
    (◌&&◌ (leb 1 a.len) (◌&&◌ (leb (a.x + a.len) (letters + 1)) (leb (a.c + a.len) (r + 1)))))

-- k letters of l from place i on agree with those of r from place j on
unfoldable pub agree_from : ℕ → List ℕ → ℕ → List ℕ → ℕ → Bool
agree_from zero l i r j = true
agree_from (suc k) l i r j = ◌&&◌ (agree (get_or l i 0) (get_or r j 0)) (agree_from k l (i + 1) r (j + 1))

-- "Label letters x..y of v equal read letters c..d."
unfoldable pub letters_agree : List ℕ → List ℕ → Anchor → Bool
letters_agree label read a = agree_from a.len label (a.x - 1) read (a.c - 1)

-- one anchor's own fault, apart from its order: "An anchor's five numbers are read, then 6, 11, 4 (place: the weight's first byte), 12, 7."
unfoldable pub own_fault : Graph → List ℕ → Anchor → ℕ
own_fault g read a =
    pick (is_vertex (vertex_count g) a.v)
    (pick (is_inside (length (label_of g a.v)) (length read) a)
    (pick (eqb (range_fault 1 most_weight a.weight) 0) (pick (letters_agree (label_of g a.v) read a) 0 letters_differ) out_of_range)
    outside)
    no_vertex

-- "Anchors rise strictly by (v, x, y, c)": the order key of a is below that of b
unfoldable pub key_below : Anchor → Anchor → Bool
key_below a b =
    ◌||◌ (ltb a.v b.v)
    (◌&&◌ (eqb a.v b.v)
    (◌||◌ (ltb a.x b.x)
    (◌&&◌ (eqb a.x b.x)
    (◌||◌ (ltb (y a) (y b)) (◌&&◌ (eqb (y a) (y b)) (ltb a.c b.c))))))

-- no anchor: it stands before the first one, and is below every anchor
abbrev pub no_anchor : Anchor
no_anchor = record { v = 0; x = 0; c = 0; len = 0; weight = 0 }

-- "edges, anchors or a path not strictly rising"
abbrev pub order_fault : Anchor → Anchor → ℕ
order_fault last a = pick (key_below last a) 0 not_rising

-- an anchor's fault: its own, then its order
abbrev pub anchor_fault : Graph → List ℕ → Anchor → Anchor → ℕ
anchor_fault g read last a = pick (eqb (own_fault g read a) 0) (order_fault last a) (own_fault g read a)

-- "anchor's first byte"; for 4, "the weight's first byte"
abbrev pub fault_place : ℕ → ℕ → ℕ → ℕ
fault_place k first weight_at = pick (eqb k out_of_range) weight_at first
