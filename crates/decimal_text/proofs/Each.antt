-- The bytes of each item, one after the other: what is left of them at a place, and what stands written when each is laid after the last.
-- Assumes nothing.
use Prim.Native.Nat.{ℕ, suc, ◌+◌, ◌-◌, ◌≤◌, ◌<◌}
use mathlib.Core.Path.{◌≡◌, refl, sym, ap, ◌∙◌}
use mathlib.Core.List.{List, [], ◌∷◌, ◌++◌, map, append_assoc}
use native.Mathlib.Numerals.{add-one}
use lib.ListN.{length, get_or, drop, drop_of_length-le}
use lib.Seq.{drop-cons}
use denote.Ref.{Bor}
use borrow.Rule.Slice.PartMut.{mid_of, put_mid}
use Rattle.wire.specs.Lent.{front}
use Rattle.graph_bytes.proofs.Along.{Along, along_as, along-fits, along_lent, along-more}
use Rattle.decimal_text.specs.Words.{line_end, each, said, told, parts_in}

each-cons : {A : Type 0} (f : A → List ℕ) (x : A) (xs : List A) → each f (x ∷ xs) ≡ f x ++ each f xs
unfolding each
each-cons f x xs = refl

-- from place i on: the bytes of the item there, and those after it
pub each_next : {A : Type 0} (f : A → List ℕ) (d : A) (xs : List A) (i : ℕ) → i < length xs → each f (drop i xs) ≡ f (get_or xs i d) ++ each f (drop (i + 1) xs)
each_next f d xs i h =
    ap (each f) (drop-cons xs i d h)
    ∙ each-cons f (get_or xs i d) (drop (suc i) xs)
    ∙ ap (λ (k : ℕ). f (get_or xs i d) ++ each f (drop k xs)) (sym (add-one i))

-- past the end: none
pub each_end : {A : Type 0} (f : A → List ℕ) (xs : List A) (i : ℕ) → length xs ≤ i → each f (drop i xs) ≡ []
unfolding each
each_end f xs i h = ap (each f) (drop_of_length-le xs h)

-- bytes `whole` that begin with those of each item and end with `last`, written up to item i
module _ {A : Type 0} (f : A → List ℕ) (d : A) (xs : List A) (last : List ℕ) {whole old out : List ℕ} {at : ℕ} (i : ℕ) (h : i < length xs)
    (a : Along whole (each f (drop i xs) ++ last) old out at) where
  next : Along whole (f (get_or xs i d) ++ (each f (drop (i + 1) xs) ++ last)) old out at
  next = along_as _ (ap (λ (t : List ℕ). t ++ last) (each_next f d xs i h) ∙ append_assoc (f (get_or xs i d)) (each f (drop (i + 1) xs)) last) a

  -- there is room for the item's bytes
  pub each-fits : at + length (f (get_or xs i d)) ≤ length out
  each-fits = along-fits whole (f (get_or xs i d)) (each f (drop (i + 1) xs) ++ last) old out at next

  pub each_lent : length (f (get_or xs i d)) ≤ length (mid_of at (length out - at) out)
  each_lent = along_lent whole (f (get_or xs i d)) (each f (drop (i + 1) xs) ++ last) old out at next

  -- and they are written
  pub each_more : (part : List ℕ) (n : ℕ) → n ≡ length (f (get_or xs i d)) → part ≡ front (f (get_or xs i d)) (mid_of at (length out - at) out)
      → Along whole (each f (drop (i + 1) xs) ++ last) old (put_mid at (length out - at) out part) (at + n)
  each_more part n e p = along-more whole (f (get_or xs i d)) (each f (drop (i + 1) xs) ++ last) old out part at n next e p

-- past the last item: what comes last
pub each_past : {A : Type 0} (f : A → List ℕ) (xs : List A) (last : List ℕ) {whole old out : List ℕ} {at : ℕ} (i : ℕ) → length xs ≤ i
    → Along whole (each f (drop i xs) ++ last) old out at → Along whole last old out at
each_past f xs last i h a = along_as last (ap (λ (t : List ℕ). t ++ last) (each_end f xs i h)) a

-- ---- a line's words and numbers, where they lie

each_map : {A B : Type 0} (f : B → List ℕ) (g : A → B) (xs : List A) → each f (map g xs) ≡ each (λ x. f (g x)) xs
unfolding each
each_map f g [] = refl
each_map f g (x ∷ xs) = ap (λ (t : List ℕ). f (g x) ++ t) (each_map f g xs)

abbrev pub said_in : Bor (List ℕ) × ℕ → List ℕ
said_in p = said p.0.now p.1

-- no word, and no number
abbrev pub no_part : Bor (List ℕ) × ℕ
no_part = (record { ref_ptr = (0, 0); now = [] }, 0)

-- the line is what is said of each, and its end
pub told_parts : (parts : List (Bor (List ℕ) × ℕ)) → told (parts_in parts) ≡ each said_in parts ++ line_end
told_parts parts = ap (λ (t : List ℕ). t ++ line_end) (each_map (λ (p : List ℕ × ℕ). said p.0 p.1) (λ (p : Bor (List ℕ) × ℕ). (p.0.now, p.1)) parts)
