-- The tests of an anchor's rules, in terms of numbers and of letters: a test that is passed says that the rule holds, and one of a rule that
-- holds is passed.
-- Assumes nothing.
use Prim.Native.Nat.{ℕ, zero, suc, ◌+◌, ◌-◌, ◌≤◌, ◌<◌}
use mathlib.Core.Path.{◌≡◌, refl, sym, ap₂, ◌∙◌}
use mathlib.Core.Logic.{◌⊎◌, inl, inr}
use mathlib.Core.List.{List}
use mathlib.Core.Bool.{true, ◌&&◌, ◌||◌}
use native.Mathlib.Omega.{arith}
use lib.ListN.{length, get_or}
use lib.Dec.{ltb, leb, eqb}
use borrow.Author.Tests.{ltb-true, leb-true, eqb-true, lt-ltb, le-leb, eq-eqb}
use Rattle.wire.specs.Letters.{agree}
use Rattle.wire.specs.Sizes.{most_weight}
use Rattle.graph.specs.Content.{Graph}
use Rattle.graph.specs.Rules.{range_fault}
use Rattle.graph.proofs.Kept.{both, either, or_right, range_kept, range_free}
use Rattle.anchors.specs.Anchors.{Anchor, y, d}
use Rattle.anchors.specs.AnchorRules.{label_of, is_inside, agree_from, letters_agree, key_below, no_anchor}
use Rattle.anchors.specs.GoodAnchors.{KeyBelow}

-- ---- letters

-- the same places
moved : (l : List ℕ) (i a : ℕ) (r : List ℕ) (j b : ℕ) → i ≡ a → j ≡ b → agree (get_or l i 0) (get_or r j 0) ≡ true → agree (get_or l a 0) (get_or r b 0) ≡ true
moved l i a r j b e f h = sym (ap₂ (λ (m n : ℕ). agree (get_or l m 0) (get_or r n 0)) e f) ∙ h

pub agree-each : (k : ℕ) (l : List ℕ) (i : ℕ) (r : List ℕ) (j : ℕ) → agree_from k l i r j ≡ true
    → (n : ℕ) → n < k → agree (get_or l (i + n) 0) (get_or r (j + n) 0) ≡ true
unfolding agree_from
agree-each zero l i r j e n h = absurd (omega arith)
agree-each (suc k) l i r j e zero h = moved l i (i + 0) r j (j + 0) (omega arith) (omega arith) (both (agree (get_or l i 0) (get_or r j 0)) _ e).0
agree-each (suc k) l i r j e (suc n) h =
    moved l (i + 1 + n) (i + suc n) r (j + 1 + n) (j + suc n) (omega arith) (omega arith)
    (agree-each k l (i + 1) r (j + 1) (both (agree (get_or l i 0) (get_or r j 0)) _ e).1 n (omega arith))

pub each-agree : (k : ℕ) (l : List ℕ) (i : ℕ) (r : List ℕ) (j : ℕ)
    → ((n : ℕ) → n < k → agree (get_or l (i + n) 0) (get_or r (j + n) 0) ≡ true) → agree_from k l i r j ≡ true
unfolding agree_from
each-agree zero l i r j f = refl
each-agree (suc k) l i r j f =
    simp (moved l (i + 0) i r (j + 0) j (omega arith) (omega arith) (f 0 (omega arith)))
    (each-agree k l (i + 1) r (j + 1) (λ n h.
    moved l (i + suc n) (i + 1 + n) r (j + suc n) (j + 1 + n) (omega arith) (omega arith) (f (suc n) (omega arith))))

-- ---- the order

pub key_is : (a b : Anchor) → key_below a b ≡ true → KeyBelow a b
unfolding key_below
key_is a b h =
    elim (either (ltb a.v b.v) _ h) [
      | inl k ↦ inl (ltb-true a.v b.v k)
      | inr k ↦
          let t = both (eqb a.v b.v) _ k in
          inr (eqb-true a.v b.v t.0, at_x t.1)
    ]
  where
    at_c : ◌||◌ (ltb (y a) (y b)) (◌&&◌ (eqb (y a) (y b)) (ltb a.c b.c)) ≡ true → (y a < y b) ⊎ ((y a ≡ y b) × (a.c < b.c))
    at_c k =
        elim (either (ltb (y a) (y b)) _ k) [
          | inl i ↦ inl (ltb-true (y a) (y b) i)
          | inr i ↦ let t = both (eqb (y a) (y b)) _ i in inr (eqb-true (y a) (y b) t.0, ltb-true a.c b.c t.1)
        ]

    at_x : ◌||◌ (ltb a.x b.x) (◌&&◌ (eqb a.x b.x) (◌||◌ (ltb (y a) (y b)) (◌&&◌ (eqb (y a) (y b)) (ltb a.c b.c)))) ≡ true
        → (a.x < b.x) ⊎ ((a.x ≡ b.x) × ((y a < y b) ⊎ ((y a ≡ y b) × (a.c < b.c))))
    at_x k =
        elim (either (ltb a.x b.x) _ k) [
          | inl i ↦ inl (ltb-true a.x b.x i)
          | inr i ↦ let t = both (eqb a.x b.x) _ i in inr (eqb-true a.x b.x t.0, at_c t.1)
        ]

pub is_key : (a b : Anchor) → KeyBelow a b → key_below a b ≡ true
unfolding key_below
is_key a b (inl h) = simp (lt-ltb a.v b.v h)
is_key a b (inr (e, inl h)) = or_right (ltb a.v b.v) _ (simp (eq-eqb a.v b.v e, lt-ltb a.x b.x h))
is_key a b (inr (e, inr (f, inl h))) =
    or_right (ltb a.v b.v) _
    (simp (eq-eqb a.v b.v e) (or_right (ltb a.x b.x) _ (simp (eq-eqb a.x b.x f, lt-ltb (y a) (y b) h))))
is_key a b (inr (e, inr (f, inr (g, h)))) =
    or_right (ltb a.v b.v) _
    (simp (eq-eqb a.v b.v e)
    (or_right (ltb a.x b.x) _
    (simp (eq-eqb a.x b.x f) (or_right (ltb (y a) (y b)) _ (simp (eq-eqb (y a) (y b) g, lt-ltb a.c b.c h))))))

-- no anchor is below every anchor whose vertex is one
pub none_below : (a : Anchor) → 1 ≤ a.v → KeyBelow no_anchor a
none_below a h = inl (omega arith)

-- ---- an anchor by itself

-- x, c and length are 1 or more, and the anchor is inside its label and the read
pub record Inside (g : Graph) (read : List ℕ) (a : Anchor) : Type 0 where
  pub some_x : 1 ≤ a.x
  pub some_c : 1 ≤ a.c
  pub some_length : 1 ≤ a.len
  pub in_label : y a ≤ length (label_of g a.v)
  pub in_read : d a ≤ length read

-- "weight | 1 to 65,535"
abbrev pub Weighted : Anchor → Type 0
Weighted a = (1 ≤ a.weight) × (a.weight ≤ most_weight)

-- "Label letters x..y of v equal read letters c..d."
abbrev pub SameLetters : Graph → List ℕ → Anchor → Type 0
SameLetters g read a = (i : ℕ) → i < a.len → agree (get_or (label_of g a.v) (a.x - 1 + i) 0) (get_or read (a.c - 1 + i) 0) ≡ true

pub inside_is : (g : Graph) (read : List ℕ) (a : Anchor) → is_inside (length (label_of g a.v)) (length read) a ≡ true → Inside g read a
inside_is g read a e =
    let l : ℕ = length (label_of g a.v) in
    let i1 = both (leb 1 a.x) _ e in
    let i2 = both (leb 1 a.c) _ i1.1 in
    let i3 = both (leb 1 a.len) _ i2.1 in
    let i4 = both (leb (a.x + a.len) (l + 1)) _ i3.1 in
    let h1 = leb-true 1 a.x i1.0 in
    let h2 = leb-true 1 a.c i2.0 in
    let h3 = leb-true 1 a.len i3.0 in
    let h4 = leb-true (a.x + a.len) (l + 1) i4.0 in
    let h5 = leb-true (a.c + a.len) (length read + 1) i4.1 in
    record { some_x = h1; some_c = h2; some_length = h3; in_label = omega arith; in_read = omega arith }

pub is-inside : (g : Graph) (read : List ℕ) (a : Anchor) → Inside g read a → is_inside (length (label_of g a.v)) (length read) a ≡ true
is-inside g read a h =
    let l : ℕ = length (label_of g a.v) in
    simp (
      le-leb 1 a.x h.some_x,
      le-leb 1 a.c h.some_c,
      le-leb 1 a.len h.some_length,
      le-leb (a.x + a.len) (l + 1) (omega (arith, h.in_label, h.some_length)),
      le-leb (a.c + a.len) (length read + 1) (omega (arith, h.in_read, h.some_length)),
    )

pub weight_is_lem : (a : Anchor) → eqb (range_fault 1 most_weight a.weight) 0 ≡ true → Weighted a
weight_is_lem a e = range_kept 1 most_weight a.weight (eqb-true (range_fault 1 most_weight a.weight) 0 e)

pub is-weight : (a : Anchor) → Weighted a → eqb (range_fault 1 most_weight a.weight) 0 ≡ true
is-weight a h = eq-eqb (range_fault 1 most_weight a.weight) 0 (range_free 1 most_weight a.weight h.0 h.1)

pub letters-are : (g : Graph) (read : List ℕ) (a : Anchor) → letters_agree (label_of g a.v) read a ≡ true → SameLetters g read a
unfolding letters_agree
letters-are g read a e = agree-each a.len (label_of g a.v) (a.x - 1) read (a.c - 1) e

pub are-letters : (g : Graph) (read : List ℕ) (a : Anchor) → SameLetters g read a → letters_agree (label_of g a.v) read a ≡ true
unfolding letters_agree
are-letters g read a h = each-agree a.len (label_of g a.v) (a.x - 1) read (a.c - 1) h
