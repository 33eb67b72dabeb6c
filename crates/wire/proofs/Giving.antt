-- What is read of bytes that were written, whatever the content: the number of its first fault, or the content. A number that was written is read back, or is
-- too great and refused; and a finding is followed rule after rule and section after section.
-- Assumes nothing.
use Prim.Native.Nat.{ℕ, zero, suc, ◌+◌, ◌/◌, ◌%◌, ◌^◌, ◌≤◌, ◌<◌}
use mathlib.Core.Path.{◌≡◌, refl, sym, ap, ◌∙◌, subst}
use mathlib.Core.List.{List, ◌++◌, append_assoc}
use mathlib.Core.Bool.{Bool, true}
use native.Mathlib.Omega.{arith}
use native.Mathlib.Nat.{add-zero}
use native.Mathlib.Decide.{ℕ_discrete}
use lib.ListN.{length, drop}
use lib.Seq.{drop-drop, drop-append_seam}
use lib.Dec.{ltb}
use borrow.Author.Tests.{eq-eqb, ne_eqb, lt-ltb, le-ltb}
use Rattle.wire.specs.Cases.{pick}
use Rattle.wire.specs.Found.{Found, good, fault, Part, and_then, refuse, first, refusal_number, as_content}
use Rattle.wire.specs.Numbers.{number, encode_in, encode, number_in, number_at}
use Rattle.wire.specs.Refusals.{bad_number}
use Rattle.wire.proofs.Finding.{refuse-good, good-same}
use Rattle.wire.proofs.Reading.{great_in, next_in}
use Rattle.wire.proofs.Encoding.{split, more_in}
use Rattle.wire.proofs.Reading.{read_same}
use Rattle.wire.proofs.NumberLaws.{number_suffix}

-- ---- a number that is too great

-- x has a fifth group above 15, or more groups
abbrev Great : ℕ → ℕ → Type 0
Great zero x = 16 ≤ x
Great (suc l) x = Great l (x / 128)

great_some : (l x : ℕ) → Great l x → 16 ≤ x
great_some zero x h = h
great_some (suc l) x h = omega (arith, great_some l (x / 128) h)

great_read : (l x : ℕ) (rest : List ℕ) (end start at w acc : ℕ) → Great l x → number_in l (encode_in l x ++ rest) end start at w acc ≡ fault bad_number start
unfolding encode_in
great_read zero x rest end start at w acc h = great_in x rest end start at w acc (omega arith)
great_read (suc l) x rest end start at w acc h =
    let g : 16 ≤ x / 128 = great_some l (x / 128) h in
    ap (λ (t : List ℕ). number_in (suc l) (t ++ rest) end start at w acc) (more_in l x (omega arith))
    ∙ next_in (x % 128 + 128) (encode_in l (x / 128) ++ rest) end start at w acc l (omega arith)
    ∙ great_read l (x / 128) rest end start (at + 1) _ _ h

-- a number of 2^32 or more, written and read, is refused at its first byte
pub number_great : (s : List ℕ) (at x : ℕ) (rest : List ℕ) → 2 ^ 32 ≤ x → drop at s ≡ encode x ++ rest → number_at s at ≡ fault bad_number at
unfolding number_at encode
number_great s at x rest h e =
    ap (λ (t : List ℕ). number_in 4 t (length s) at at 1 0) e ∙ great_read 4 x rest (length s) at at 1 0 (omega arith)

-- its refusal number
abbrev pub number_fault : ℕ → ℕ
number_fault x = pick (ltb x (2 ^ 32)) 0 bad_number

pub number_free : (x : ℕ) → x < 2 ^ 32 → number_fault x ≡ 0
number_free x h = simp (lt-ltb x (2 ^ 32) h)

-- a number that was written and read: it is the same one, and what follows is left
pub value_written : (s : List ℕ) (at x : ℕ) (rest : List ℕ) (y : ℕ) (c : ℕ) → drop at s ≡ encode x ++ rest → number_at s at ≡ good (record { content = y; next = c })
    → (y ≡ x) × (drop c s ≡ rest)
value_written s at x rest y c d e =
    split (2 ^ 32) x
    (λ h.
    let k = sym (number_great s at x rest h d) ∙ e in
    let z : ◌≡◌ {A = ℕ} 0 1 = cc in
    absurd (omega arith))
    (λ h.
    let t = number_suffix s at x rest h d in
    let k = read_same (sym t.0 ∙ e) in
    (sym k.0, ap (λ (j : ℕ). drop j s) (sym k.1) ∙ t.1))

-- ---- what was found, with its place forgotten

-- a finding is the content b, or a fault of the number k where that is not 0
pub record Gives {A B : Type 0} (f : A → B) (k : ℕ) (b : B) (x : Found A) : Type 0 where
  pub found : as_content f x ≡ refuse k 0 (good b)

-- nothing is done to what was found
abbrev pub same : {A : Type 0} → A → A
same a = a

pub gives-good : {A B : Type 0} (f : A → B) (a : A) → Gives f 0 (f a) (good a)
gives-good f a = record { found = refl }

pub gives-refuse : {A B : Type 0} {f : A → B} {b : B} (j k place : ℕ) (x : Found A) → Gives f k b x → Gives f (first j k) b (refuse j place x)
gives-refuse j k place x h =
    elim (ℕ_discrete j 0) [
      | yes e ↦ record { found = simp (eq-eqb j 0 e) h.found }
      | no n ↦ record { found = simp (ne_eqb j 0 n) }
    ]

-- a test that is passed
pub gives_test : {A B : Type 0} {f : A → B} {b : B} (j k place : ℕ) (x : Found A) → j ≡ 0 → Gives f k b x → Gives f k b (refuse j place x)
gives_test j k place x e h = record { found = simp (eq-eqb j 0 e) h.found }

pub gives-pick : {A B : Type 0} {f : A → B} {k : ℕ} {b : B} (t : Bool) (x y : Found A) → t ≡ true → Gives f k b x → Gives f k b (pick t x y)
gives-pick t x y e h = record { found = simp e h.found }

pub gives_then : {A B C : Type 0} {f : B → C} {c : C} {a : A} (j k : ℕ) (x : Found A) (go : A → Found B) → Gives same j a x → Gives f k c (go a)
    → Gives f (first j k) c (and_then x go)
gives_then {f} {c} {a} j k (good d) go h i =
    let t = refuse-good j 0 (good a) d (sym h.found) in
    let q : a ≡ d = good-same a d t.1 in
    record { found = simp (eq-eqb j 0 t.0) (subst (λ (y : _). as_content f (go y) ≡ refuse k 0 (good c)) q i.found) }
gives_then {f} {c} {a} j k (fault l place) go h i =
    elim (ℕ_discrete j 0) [
      | yes e ↦
          let t = simp (eq-eqb j 0 e) at h.found in
          let z : ◌≡◌ {A = ℕ} 0 1 = cc in
          absurd (omega arith)
      | no n ↦
          let t = simp (ne_eqb j 0 n) at h.found in
          let q : l ≡ j = cc in
          record { found = simp (ne_eqb j 0 n) (ap (λ (i : ℕ). fault i 0) q) }
    ]

first-last : (j : ℕ) → first j 0 ≡ j
first-last j =
    elim (ℕ_discrete j 0) [
      | yes e ↦ simp (eq-eqb j 0 e) (sym e)
      | no n ↦ simp (ne_eqb j 0 n)
    ]

-- the last part, and what is made of it
pub gives-last : {A B C : Type 0} {a : A} (f : B → C) (g : A → B) (j : ℕ) (x : Found A) → Gives same j a x
    → Gives f j (f (g a)) (and_then x (λ r. good (g r)))
gives-last {a} f g j x h =
    subst (λ (k : ℕ). Gives f k (f (g a)) (and_then x (λ r. good (g r)))) (first-last j) (gives_then j 0 x (λ r. good (g r)) h (gives-good f (g a)))

-- a section and nothing after it
pub gives-ends : {A B C : Type 0} {a : A} (f : B → C) (b : B) (j : ℕ) (x : Found A) (go : A → Found B) → Gives same j a x → go a ≡ good b
    → Gives f j (f b) (and_then x go)
gives-ends {a} f b j x go h e =
    subst (λ (k : ℕ). Gives f k (f b) (and_then x go)) (first-last j) (gives_then j 0 x go h (record { found = ap (as_content f) e }))

pub gives-number : {A B : Type 0} {f : A → B} {b : B} (s : List ℕ) (at x k : ℕ) (rest : List ℕ) (go : ℕ → ℕ → Found A) → drop at s ≡ encode x ++ rest
    → Gives f k b (go x (at + length (encode x))) → Gives f (first (number_fault x) k) b (number s at go)
gives-number s at x k rest go e h =
    split (2 ^ 32) x
    (λ g. record { found = simp (number_great s at x rest g e, le-ltb x (2 ^ 32) g) })
    (λ g. record { found = simp ((number_suffix s at x rest g e).0, lt-ltb x (2 ^ 32) g) h.found })

-- no entry left
pub gives_none : {A : Type 0} (at : ℕ) (c : A) → Gives {A = Part A} {B = Part A} same 0 (record { content = c; next = at + 0 }) (good (record { content = c; next = at }))
gives_none at c = record { found = ap (λ (n : ℕ). good (record { content = c; next = n })) (sym (add-zero at)) }

-- what follows a part
pub after : (s : List ℕ) (at : ℕ) (part rest : List ℕ) → drop at s ≡ part ++ rest → drop (at + length part) s ≡ rest
after s at part rest e = sym (drop-drop (length part) at s) ∙ ap (drop (length part)) e ∙ drop-append_seam part rest

-- what follows the first of three parts, and what follows the second
pub two : (s : List ℕ) (at : ℕ) (a b rest : List ℕ) → drop at s ≡ (a ++ b) ++ rest
    → (drop at s ≡ a ++ (b ++ rest)) × (drop (at + length a) s ≡ b ++ rest)
two s at a b rest e = let f = e ∙ append_assoc a b rest in (f, after s at a (b ++ rest) f)

-- a number that is known to fit
pub gives_sure : {A B : Type 0} {f : A → B} {b : B} (s : List ℕ) (at x k : ℕ) (rest : List ℕ) (go : ℕ → ℕ → Found A) → x < 2 ^ 32
    → drop at s ≡ encode x ++ rest → Gives f k b (go x (at + length (encode x))) → Gives f k b (number s at go)
gives_sure s at x k rest go g e h = record { found = simp (number_suffix s at x rest g e).0 h.found }

-- the last rule
pub gives_end : {A B : Type 0} {f : A → B} {b : B} (j place : ℕ) (x : Found A) → Gives f 0 b x → Gives f j b (refuse j place x)
gives_end {f} {b} j place x h = subst (λ (k : ℕ). Gives f k b (refuse j place x)) (first-last j) (gives-refuse j 0 place x h)

-- a finding's refusal number
pub number_is_lem : {A : Type 0} (k : ℕ) (a : A) → refusal_number (refuse k 0 (good a)) ≡ k
number_is_lem k a =
    elim (ℕ_discrete k 0) [
      | yes e ↦ simp (eq-eqb k 0 e) (sym e)
      | no n ↦ simp (ne_eqb k 0 n)
    ]
