-- The part of a text after some marks, byte by byte. Assumes nothing.
use Prim.Native.Nat.{ℕ, ◌+◌, ◌-◌, ◌≤◌, ◌<◌}
use mathlib.Core.Path.{◌≡◌, refl, sym, ap, ◌∙◌}
use mathlib.Core.List.{List, [], ◌∷◌}
use native.Mathlib.Numerals.{add-one}
use native.Mathlib.Omega.{arith}
use lib.ListN.{length, get_or, take, drop}
use lib.Seq.{drop-cons}
use borrow.Author.Tests.{eq-eqb, ne_eqb}
use Rattle.texts.specs.Parts.{part_from, part_of}

front_ends : (left n : ℕ) (here : List ℕ) (y : ℕ) (ys : List ℕ) → y ≡ 124 → left ≡ 0 → part_from left here n (y ∷ ys) ≡ take n here
unfolding part_from
front_ends left n here y ys e z = simp (eq-eqb y 124 e, eq-eqb left 0 z)

front_mark : (left n : ℕ) (here : List ℕ) (y : ℕ) (ys : List ℕ) → y ≡ 124 → (left ≡ 0 → ⊥) → part_from left here n (y ∷ ys) ≡ part_from (left - 1) ys 0 ys
unfolding part_from
front_mark left n here y ys e z = simp (eq-eqb y 124 e, ne_eqb left 0 z)

front_passed : (left n : ℕ) (here : List ℕ) (y : ℕ) (ys : List ℕ) → (y ≡ 124 → ⊥) → part_from left here n (y ∷ ys) ≡ part_from left here (n + 1) ys
unfolding part_from
front_passed left n here y ys h = simp (ne_eqb y 124 h)

-- what is left from the place i on
left_at : (left n : ℕ) (here xs : List ℕ) (i : ℕ) → i < length xs → part_from left here n (drop i xs) ≡ part_from left here n (get_or xs i 0 ∷ drop (i + 1) xs)
left_at left n here xs i h =
    ap (part_from left here n) (drop-cons xs i 0 h)
    ∙ ap (λ (j : ℕ). part_from left here n (get_or xs i 0 ∷ drop j xs)) (sym (add-one i))

-- the part after k marks is the one after `left` marks more, from the place i on, where the part that is passed starts at `start`
pub record Parting (k : ℕ) (xs : List ℕ) (left start i : ℕ) : Type 0 where
  pub begun : start ≤ i
  pub within : i ≤ length xs
  pub same : part_of k xs ≡ part_from left (drop start xs) (i - start) (drop i xs)

-- before the first byte
pub parting_first : (k : ℕ) (xs : List ℕ) → Parting k xs k 0 0
parting_first k xs = record { begun = omega arith; within = omega arith; same = refl }

-- the byte at i is no mark
pub parting_passed : (k : ℕ) (xs : List ℕ) (left start i l s : ℕ) → Parting k xs left start i → i < length xs → (get_or xs i 0 ≡ 124 → ⊥) → l ≡ left → s ≡ start → Parting k xs l s (i + 1)
parting_passed k xs left start i l s p h e ql qs =
    let count : (i - start) + 1 ≡ (i + 1) - start = omega (arith, p.begun) in
    record {
      begun = omega (arith, p.begun);
      within = omega arith;
      same = p.same
          ∙ left_at left (i - start) (drop start xs) xs i h
          ∙ front_passed left (i - start) (drop start xs) (get_or xs i 0) (drop (i + 1) xs) e
          ∙ ap (λ (n : ℕ). part_from left (drop start xs) n (drop (i + 1) xs)) count
          ∙ ap (λ (a : ℕ). part_from a (drop start xs) ((i + 1) - start) (drop (i + 1) xs)) (sym ql)
          ∙ ap (λ (a : ℕ). part_from l (drop a xs) ((i + 1) - a) (drop (i + 1) xs)) (sym qs);
    }

-- the byte at i is a mark, and not the last to pass
pub parting_mark : (k : ℕ) (xs : List ℕ) (left start i l s : ℕ) → Parting k xs left start i → i < length xs → get_or xs i 0 ≡ 124 → (left ≡ 0 → ⊥) → l ≡ left - 1 → s ≡ i + 1 → Parting k xs l s (i + 1)
parting_mark k xs left start i l s p h e z ql qs =
    let none : 0 ≡ (i + 1) - (i + 1) = omega arith in
    record {
      begun = omega arith;
      within = omega arith;
      same = p.same
          ∙ left_at left (i - start) (drop start xs) xs i h
          ∙ front_mark left (i - start) (drop start xs) (get_or xs i 0) (drop (i + 1) xs) e z
          ∙ ap (λ (n : ℕ). part_from (left - 1) (drop (i + 1) xs) n (drop (i + 1) xs)) none
          ∙ ap (λ (a : ℕ). part_from a (drop (i + 1) xs) ((i + 1) - (i + 1)) (drop (i + 1) xs)) (sym ql)
          ∙ ap (λ (a : ℕ). part_from l (drop a xs) ((i + 1) - a) (drop (i + 1) xs)) (sym qs);
    }

-- it is the mark that ends the part
pub parting_ends : (k : ℕ) (xs : List ℕ) (left start i : ℕ) → Parting k xs left start i → i < length xs → get_or xs i 0 ≡ 124 → left ≡ 0 → part_of k xs ≡ take (i - start) (drop start xs)
parting_ends k xs left start i p h e z =
    p.same ∙ left_at left (i - start) (drop start xs) xs i h ∙ front_ends left (i - start) (drop start xs) (get_or xs i 0) (drop (i + 1) xs) e z

no_more : (left n : ℕ) (here xs : List ℕ) → part_from left here n (drop (length xs) xs) ≡ []
unfolding part_from
no_more left n here [] = refl
no_more left n here (y ∷ ys) = no_more left n here ys

-- no mark ends it
pub parting_none : (k : ℕ) (xs : List ℕ) (left start i : ℕ) → Parting k xs left start i → length xs ≤ i → part_of k xs ≡ []
parting_none k xs left start i p h =
    let last : i ≡ length xs = omega (arith, p.within) in
    p.same ∙ ap (λ (j : ℕ). part_from left (drop start xs) (i - start) (drop j xs)) last ∙ no_more left (i - start) (drop start xs) xs
