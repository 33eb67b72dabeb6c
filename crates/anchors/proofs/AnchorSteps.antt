-- What was found of the anchors was found of the first one and of the rest: the steps of the definitions of reading.
-- Assumes nothing.
use Prim.Native.Nat.{ℕ, suc, ◌≤◌, ◌<◌}
use mathlib.Core.Path.{◌≡◌, refl, sym, ap, subst}
use mathlib.Core.List.{List, [], ◌∷◌}
use native.Mathlib.Omega.{arith}
use lib.ListN.{length}
use Rattle.wire.specs.Found.{good, Part}
use Rattle.wire.specs.Numbers.{number_at}
use Rattle.wire.proofs.NumberLaws.{number-within}
use Rattle.wire.proofs.Finding.{then_good, refuse-good, on-number, good-same}
use Rattle.graph.specs.Content.{Graph}
use Rattle.anchors.specs.Anchors.{Anchor}
use Rattle.anchors.specs.AnchorRules.{anchor_fault, fault_place}
use Rattle.anchors.specs.AnchorReading.{Numbers, numbers_at, anchors_from}

-- the five numbers of an anchor, one after the other
pub record NumbersStep (s : List ℕ) (at : ℕ) (a : Numbers) : Type 0 where
  pub v_end : ℕ
  pub x_end : ℕ
  pub c_end : ℕ
  pub len_end : ℕ
  pub weight_end : ℕ
  pub v_is : number_at s at ≡ good (record { content = a.anchor.v; next = v_end })
  pub x_is : number_at s v_end ≡ good (record { content = a.anchor.x; next = x_end })
  pub c_is : number_at s x_end ≡ good (record { content = a.anchor.c; next = c_end })
  pub len_is : number_at s c_end ≡ good (record { content = a.anchor.len; next = len_end })
  pub weight_is : number_at s len_end ≡ good (record { content = a.anchor.weight; next = weight_end })
  pub weight_at : a.weight_at ≡ len_end
  pub next : a.next ≡ weight_end

-- the steps, from what was found of each number
numbers-from : (s : List ℕ) (at : ℕ) (a : Numbers) (v x c len weight : ℕ) (p q r t u : ℕ)
    → number_at s at ≡ good (record { content = v; next = p })
    → number_at s p ≡ good (record { content = x; next = q })
    → number_at s q ≡ good (record { content = c; next = r })
    → number_at s r ≡ good (record { content = len; next = t })
    → number_at s t ≡ good (record { content = weight; next = u })
    → record { anchor = record { v = v; x = x; c = c; len = len; weight = weight }; weight_at = t; next = u } ≡ a
    → NumbersStep s at a
numbers-from s at a v x c len weight p q r t u v_is x_is c_is len_is weight_is e =
    subst (NumbersStep s at) e
    (record {
      v_end = p;
      x_end = q;
      c_end = r;
      len_end = t;
      weight_end = u;
      v_is = v_is;
      x_is = x_is;
      c_is = c_is;
      len_is = len_is;
      weight_is = weight_is;
      weight_at = refl;
      next = refl;
    })

pub numbers-step : (s : List ℕ) (at : ℕ) (a : Numbers) → numbers_at s at ≡ good a → NumbersStep s at a
unfolding numbers_at
numbers-step s at a e =
    on-number s at _ a e (λ v p v_is e1.
    on-number s p _ a e1 (λ x q x_is e2.
    on-number s q _ a e2 (λ c r c_is e3.
    on-number s r _ a e3 (λ len t len_is e4.
    on-number s t _ a e4 (λ weight u weight_is e5.
    numbers-from s at a v x c len weight p q r t u v_is x_is c_is len_is weight_is (good-same _ a e5))))))

-- an anchor takes at least a byte, and lies within the file
pub numbers-within : (s : List ℕ) (at : ℕ) (a : Numbers) → numbers_at s at ≡ good a → (at < a.weight_at) × (a.weight_at < a.next) × (a.next ≤ length s)
numbers-within s at a e =
    let n = numbers-step s at a e in
    let v = number-within s at a.anchor.v n.v_end n.v_is in
    let x = number-within s n.v_end a.anchor.x n.x_end n.x_is in
    let c = number-within s n.x_end a.anchor.c n.c_end n.c_is in
    let l = number-within s n.c_end a.anchor.len n.len_end n.len_is in
    let w = number-within s n.len_end a.anchor.weight n.weight_end n.weight_is in
    let p = n.weight_at in
    let q = n.next in
    (omega arith, omega arith, omega arith)

-- one anchor, and the anchors after it
pub record AnchorStep (g : Graph) (read : List ℕ) (left : ℕ) (last : Anchor) (s : List ℕ) (at : ℕ) (r : Part (List Anchor)) : Type 0 where
  pub first : Numbers
  pub first_is : numbers_at s at ≡ good first
  pub kept : anchor_fault g read last first.anchor ≡ 0
  pub rest : Part (List Anchor)
  pub rest_is : anchors_from g read left first.anchor s first.next ≡ good rest
  pub content : r.content ≡ first.anchor ∷ rest.content
  pub next : r.next ≡ rest.next

module _ (g : Graph) (read : List ℕ) where
  pub anchors-step : (left : ℕ) (last : Anchor) (s : List ℕ) (at : ℕ) (r : Part (List Anchor)) → anchors_from g read (suc left) last s at ≡ good r
      → AnchorStep g read left last s at r
  unfolding anchors_from
  anchors-step left last s at r e =
      let a = then_good (numbers_at s at) _ r e in
      let f : ℕ = anchor_fault g read last a.0.anchor in
      let b = refuse-good f (fault_place f at a.0.weight_at) _ r a.2 in
      let c = then_good (anchors_from g read left a.0.anchor s a.0.next) _ r b.1 in
      let q : record { content = a.0.anchor ∷ c.0.content; next = c.0.next } ≡ r = good-same _ r c.2 in
      record {
        first = a.0;
        first_is = a.1;
        kept = b.0;
        rest = c.0;
        rest_is = c.1;
        content = ap (λ (p : Part (List Anchor)). p.content) (sym q);
        next = ap (λ (p : Part (List Anchor)). p.next) (sym q);
      }

  -- no anchor left
  pub anchors-none : (last : Anchor) (s : List ℕ) (at : ℕ) (r : Part (List Anchor)) → anchors_from g read 0 last s at ≡ good r
      → r ≡ record { content = []; next = at }
  unfolding anchors_from
  anchors-none last s at r e = cc
