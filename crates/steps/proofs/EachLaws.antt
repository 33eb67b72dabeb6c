-- One number of each anchor: its places, and the loops that write them.
-- Assumes nothing.
use Prim.Native.Nat.{ℕ, zero, suc, ◌+◌, ◌≤◌, ◌<◌}
use mathlib.Core.Path.{◌≡◌, refl, sym, ap, ◌∙◌}
use mathlib.Core.Logic.{◌⊎◌, inl, inr}
use mathlib.Core.List.{List, [], ◌∷◌, ◌++◌, append-nil}
use native.Mathlib.Nat.{eq-or-lt_of_le, le_of_suc-le-suc}
use native.Mathlib.Omega.{arith}
use native.Mathlib.Numerals.{add-one}
use lib.ListN.{length, get_or, set, drop, length-append, length-drop, drop_of_length-le, get_or-append}
use lib.Seq.{drop-cons, set_at, append_snoc, get_or-append-add}
use Rattle.wire.specs.Lent.{front}
use Rattle.anchors.specs.Anchors.{Anchor}
use Rattle.anchors.specs.AnchorEntries.{anchor_in}
use Rattle.steps.specs.Filling.{each_of}

module _ (f : Anchor → ℕ) (numbers : List ℕ) where
  pub each-length : (k : ℕ) → length (each_of f numbers k) ≡ k
  unfolding each_of
  each-length zero = refl
  each-length (suc k) = simp length-append (omega (arith, each-length k))

  pub each_at : (k j : ℕ) → j < k → get_or (each_of f numbers k) j 0 ≡ f (anchor_in numbers j)
  unfolding each_of
  each_at zero j l = absurd (omega arith)
  each_at (suc k) j l = go (λ h. each_at k j h) (eq-or-lt_of_le (le_of_suc-le-suc l))
    where
      go : (j < k → get_or (each_of f numbers k) j 0 ≡ f (anchor_in numbers j)) → (j ≡ k) ⊎ (j < k) → get_or (each_of f numbers k ++ (f (anchor_in numbers k) ∷ [])) j 0 ≡ f (anchor_in numbers j)
      go ih (inl e) =
          let q : j ≡ length (each_of f numbers k) + 0 = omega (arith, each-length k) in
          ap (λ (i : ℕ). get_or (each_of f numbers k ++ (f (anchor_in numbers k) ∷ [])) i 0) q
          ∙ get_or-append-add (each_of f numbers k) (f (anchor_in numbers k) ∷ []) 0 0
          ∙ ap (λ (i : ℕ). f (anchor_in numbers i)) (sym e)
      go ih (inr h) = get_or-append (each_of f numbers k) (f (anchor_in numbers k) ∷ []) 0 j (omega (arith, each-length k)) ∙ ih h

  -- a loop that writes them at the front of a list: at its start, a turn, and its end
  pub each_none : (old : List ℕ) → old ≡ front (each_of f numbers 0) old
  unfolding each_of
  each_none old = refl

  pub each_turn : (k : ℕ) (old now : List ℕ) (x : ℕ) → k < length old → now ≡ front (each_of f numbers k) old → x ≡ f (anchor_in numbers k)
      → set now k x ≡ front (each_of f numbers (k + 1)) old
  unfolding each_of
  each_turn k old now x l e h =
      let n = each-length k in
      let q : length (each_of f numbers k ++ (f (anchor_in numbers k) ∷ [])) ≡ suc k = simp length-append (omega arith) in
      ap (λ (t : List ℕ). set t k x) (e ∙ ap (λ (m : ℕ). each_of f numbers k ++ drop m old) n ∙ ap (λ (t : List ℕ). each_of f numbers k ++ t) (drop-cons old k 0 l))
      ∙ set_at (each_of f numbers k) (get_or old k 0) (drop (suc k) old) x k n
      ∙ ap (λ (z : ℕ). each_of f numbers k ++ z ∷ drop (suc k) old) h
      ∙ sym (append_snoc (each_of f numbers k) (f (anchor_in numbers k)) (drop (suc k) old))
      ∙ ap (λ (m : ℕ). (each_of f numbers k ++ (f (anchor_in numbers k) ∷ [])) ++ drop m old) (sym q)
      ∙ ap (λ (m : ℕ). front (each_of f numbers m) old) (sym (add-one k))

  pub each_long : (k : ℕ) (old now : List ℕ) → k ≤ length old → now ≡ front (each_of f numbers k) old → length now ≡ length old
  each_long k old now l e = ap length e ∙ simp (length-append, length-drop) (omega (arith, each-length k))

  -- a list of just k places is all of them
  pub each_whole : (k : ℕ) (old now : List ℕ) → length old ≡ k → now ≡ front (each_of f numbers k) old → now ≡ each_of f numbers k
  each_whole k old now l e =
      let n = each-length k in
      e ∙ ap (λ (t : List ℕ). each_of f numbers k ++ t) (drop_of_length-le old {i = length (each_of f numbers k)} (omega arith)) ∙ append-nil (each_of f numbers k)

  -- each stands at its place
  pub each-front : (k j : ℕ) (old now : List ℕ) → now ≡ front (each_of f numbers k) old → j < k → get_or now j 0 ≡ f (anchor_in numbers j)
  each-front k j old now e l =
      ap (λ (t : List ℕ). get_or t j 0) e
      ∙ get_or-append (each_of f numbers k) (drop (length (each_of f numbers k)) old) 0 j (omega (arith, each-length k))
      ∙ each_at k j l
