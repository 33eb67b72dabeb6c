-- One anchor: the comparison of its letters, pair by pair, and in the parts where they stand.
-- Assumes nothing.
use Prim.Native.Nat.{ℕ, zero, suc, ◌+◌, ◌-◌, ◌≤◌}
use mathlib.Core.Path.{◌≡◌, refl, ◌∙◌}
use mathlib.Core.Bool.{true}
use mathlib.Core.List.{List, [], ◌∷◌}
use native.Mathlib.Omega.{arith}
use native.Mathlib.Nat.{add-zero}
use native.Mathlib.Numerals.{add-one}
use lib.ListN.{length, get_or, take, drop, length-take, length-drop}
use lib.Seq.{get_or-drop, get_or-take}
use lib.Dec.{leb}
use borrow.Author.Tests.{leb-true}
use Rattle.graph.proofs.Kept.{both}
use Rattle.std.specs.List.{zip, list_all}
use Rattle.wire.specs.Letters.{agree}
use Rattle.anchors.specs.Anchors.{Anchor}
use Rattle.anchors.specs.AnchorRules.{agree_from, is_inside, letters_agree}

-- a byte of each more in front
agree_later : (k x y : ℕ) (l r : List ℕ) (i j : ℕ) → agree_from k (x ∷ l) (suc i) (y ∷ r) (suc j) ≡ agree_from k l i r j
unfolding agree_from
agree_later zero x y l r i j = refl
agree_later (suc k) x y l r i j = simp (add-one, agree_later k x y l r (suc i) (suc j))

-- the pairs of two parts of one length
pub agree_pairs : (l r : List ℕ) → length l ≡ length r → list_all (λ (p : ℕ × ℕ). agree p.0 p.1) (zip l r) ≡ agree_from (length l) l 0 r 0
unfolding agree_from
agree_pairs [] r e = refl
agree_pairs (x ∷ l) [] e = absurd (omega arith)
agree_pairs (x ∷ l) (y ∷ r) e = simp (agree_pairs l r (omega arith), agree_later (length l) x y l r 0 0)

-- the letters of two parts agree as those of the wholes do
pub agree_parts : (k : ℕ) (s t : List ℕ) (a m i b n j : ℕ) → i + k ≤ m → j + k ≤ n
    → agree_from k (take m (drop a s)) i (take n (drop b t)) j ≡ agree_from k s (a + i) t (b + j)
unfolding agree_from
agree_parts zero s t a m i b n j h g = refl
agree_parts (suc k) s t a m i b n j h g =
    let p : get_or (take m (drop a s)) i 0 ≡ get_or s (a + i) 0 = rw (get_or-take m (drop a s) i 0 (omega arith), get_or-drop) in
    let q : get_or (take n (drop b t)) j 0 ≡ get_or t (b + j) 0 = rw (get_or-take n (drop b t) j 0 (omega arith), get_or-drop) in
    let e : a + (i + 1) ≡ a + i + 1 = omega arith in
    let f : b + (j + 1) ≡ b + j + 1 = omega arith in
    let o = agree_parts k s t a m (i + 1) b n (j + 1) (omega arith) (omega arith) in
    simp (p, q, o, e, f)

-- what the test of an anchor inside a label and a read says
abbrev pub InsideParts : ℕ → ℕ → Anchor → Type 0
InsideParts l r a = (1 ≤ a.x) × (1 ≤ a.c) × (1 ≤ a.len) × (a.x + a.len ≤ l + 1) × (a.c + a.len ≤ r + 1)

pub inside_leads : (l r : ℕ) (a : Anchor) → is_inside l r a ≡ true → InsideParts l r a
inside_leads l r a e =
    let i1 = both (leb 1 a.x) _ e in
    let i2 = both (leb 1 a.c) _ i1.1 in
    let i3 = both (leb 1 a.len) _ i2.1 in
    let i4 = both (leb (a.x + a.len) (l + 1)) _ i3.1 in (
      leb-true 1 a.x i1.0,
      leb-true 1 a.c i2.0,
      leb-true 1 a.len i3.0,
      leb-true (a.x + a.len) (l + 1) i4.0,
      leb-true (a.c + a.len) (r + 1) i4.1,
    )

-- the letters of an anchor inside a label and a read agree where its parts do
pub match_parts : (label read : List ℕ) (a : Anchor) → a.x - 1 + a.len ≤ length label → a.c - 1 + a.len ≤ length read
    → agree_from (length (take (a.x - 1 + a.len - (a.x - 1)) (drop (a.x - 1) label))) (take (a.x - 1 + a.len - (a.x - 1)) (drop (a.x - 1) label)) 0
    (take (a.c - 1 + a.len - (a.c - 1)) (drop (a.c - 1) read)) 0
    ≡ letters_agree label read a
unfolding letters_agree
match_parts label read a h i =
    let e : a.x - 1 + a.len - (a.x - 1) ≡ a.len = omega arith in
    let f : a.c - 1 + a.len - (a.c - 1) ≡ a.len = omega arith in
    let g : length (take a.len (drop (a.x - 1) label)) ≡ a.len = omega (arith, length-take a.len (drop (a.x - 1) label), length-drop (a.x - 1) label) in
    let k = agree_parts a.len label read (a.x - 1) a.len 0 (a.c - 1) a.len 0 (omega arith) (omega arith) in
    simp (e, f, g) (k ∙ simp add-zero)
