-- The anchors of an accepted file are the numbers that the fill takes from it.
-- Assumes nothing.
use Prim.Native.Nat.{ℕ, zero, suc, ◌*◌}
use mathlib.Core.Path.{◌≡◌, ap, ◌∙◌}
use mathlib.Core.List.{List}
use native.Mathlib.Omega.{arith}
use Rattle.wire.specs.Found.{good, Part}
use Rattle.graph.specs.Content.{Graph}
use Rattle.graph_fill.specs.Filling.{items, numbers_in}
use Rattle.graph_fill.proofs.Decoding.{number_is_lem}
use Rattle.anchors.specs.Anchors.{Anchor, per_anchor, anchor_numbers}
use Rattle.anchors.specs.AnchorReading.{anchors_from}
use Rattle.anchors.proofs.AnchorSteps.{numbers-step, anchors-step, anchors-none}

pub anchors-are : (g : Graph) (read : List ℕ) (n : ℕ) (last : Anchor) (s : List ℕ) (at : ℕ) (r : Part (List Anchor))
    → anchors_from g read n last s at ≡ good r → anchor_numbers r.content ≡ (numbers_in s (per_anchor * n) at).content
unfolding items anchor_numbers
anchors-are g read zero last s at r e = rw (anchors-none g read last s at r e)
anchors-are g read (suc n) last s at r e =
    let t = anchors-step g read n last s at r e in
    let m = numbers-step s at t.first t.first_is in
    let v = number_is_lem s at _ m.v_end m.v_is in
    let x = number_is_lem s m.v_end _ m.x_end m.x_is in
    let c = number_is_lem s m.x_end _ m.c_end m.c_is in
    let l = number_is_lem s m.c_end _ m.len_end m.len_is in
    let w = number_is_lem s m.len_end _ m.weight_end m.weight_is in
    let q : anchor_numbers t.rest.content ≡ (numbers_in s (per_anchor * n) m.weight_end).content =
    anchors-are g read n t.first.anchor s t.first.next t.rest t.rest_is
    ∙ ap (λ (k : ℕ). (numbers_in s (per_anchor * n) k).content) m.next in
    let k : per_anchor * suc n ≡ suc (suc (suc (suc (suc (per_anchor * n))))) = omega arith in
    rw (t.content, k, v, x, c, l, w, q)
