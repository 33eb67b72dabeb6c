-- The bytes of each number, one after the other: how long they are, and what they depend on.
-- Assumes nothing.
use Prim.Native.Nat.{ℕ, suc, ◌+◌, ◌*◌, ◌≤◌, ◌<◌}
use mathlib.Core.Path.{◌≡◌, refl, ap, ◌∙◌}
use mathlib.Core.List.{List, [], ◌∷◌, ◌++◌}
use native.Mathlib.Omega.{arith}
use lib.ListN.{length, get_or, length-append}
use Rattle.decimal_text.specs.Words.{each}

-- at most m bytes for each
pub each_most : (f : ℕ → List ℕ) (m : ℕ) (ns : List ℕ) → ((i : ℕ) → i < length ns → length (f (get_or ns i 0)) ≤ m) → length (each f ns) ≤ m * length ns
unfolding each
each_most f m [] h = omega arith
each_most f m (n ∷ ns) h =
    let first = h 0 (omega arith) in
    let others = each_most f m ns (λ i k. h (suc i) (omega arith)) in
    let both = length-append (f n) (each f ns) in
    let e : m * suc (length ns) ≡ m + m * length ns = omega arith in
    omega arith

-- bytes that are the same for each number
pub each_same : (f g : ℕ → List ℕ) (ns : List ℕ) → ((i : ℕ) → i < length ns → f (get_or ns i 0) ≡ g (get_or ns i 0)) → each f ns ≡ each g ns
unfolding each
each_same f g [] h = refl
each_same f g (n ∷ ns) h =
    ap (λ (t : List ℕ). t ++ each f ns) (h 0 (omega arith))
    ∙ ap (λ (t : List ℕ). g n ++ t) (each_same f g ns (λ i k. h (suc i) (omega arith)))
