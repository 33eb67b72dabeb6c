-- Lists packed one after the other: one list more, and how long they are together.
-- Assumes nothing.
use Prim.Native.Nat.{ℕ, ◌*◌, ◌≤◌}
use mathlib.Core.Path.{◌≡◌, refl, sym, ap, ◌∙◌}
use mathlib.Core.List.{List, [], ◌∷◌, ◌++◌, map, flatten, append_assoc, append-nil}
use native.Mathlib.Omega.{arith}
use lib.ListN.{length, length-append}
use Rattle.wire.specs.Lent.{padded}
use Rattle.wire.specs.Sizes.{path_room}
use Rattle.wire.proofs.Laying.{length-padded}
use Rattle.graph.specs.Content.{path_numbers}
use Rattle.graph.specs.Good.{All}

pub flatten-more : (ls : List (List ℕ)) (l : List ℕ) → flatten (ls ++ (l ∷ [])) ≡ flatten ls ++ l
unfolding flatten
flatten-more [] l = append-nil l
flatten-more (x ∷ ls) l = ap (λ (t : List ℕ). x ++ t) (flatten-more ls l) ∙ sym (append_assoc x (flatten ls) l)

pub lengths-more : (ls : List (List ℕ)) (l : List ℕ) → map length (ls ++ (l ∷ [])) ≡ map length ls ++ (length l ∷ [])
lengths-more [] l = refl
lengths-more (x ∷ ls) l = ap (λ (t : List ℕ). length x ∷ t) (lengths-more ls l)

pub rooms-more : (ps : List (List ℕ)) (p : List ℕ) → path_numbers (ps ++ (p ∷ [])) ≡ path_numbers ps ++ padded path_room p
unfolding path_numbers flatten
rooms-more [] p = append-nil (padded path_room p)
rooms-more (x ∷ ps) p =
    ap (λ (t : List ℕ). padded path_room x ++ t) (rooms-more ps p) ∙ sym (append_assoc (padded path_room x) (path_numbers ps) (padded path_room p))

-- paths that have room take as many rooms
pub length-rooms : (ps : List (List ℕ)) → All (λ p. length p ≤ path_room) ps → length (path_numbers ps) ≡ path_room * length ps
unfolding path_numbers flatten All
length-rooms [] f = refl
length-rooms (p ∷ ps) f =
    let l = length-padded path_room p f.0 in
    let r : length (path_numbers ps) ≡ path_room * length ps = length-rooms ps f.1 in
    simp (length-append, l) (omega (arith, r))
