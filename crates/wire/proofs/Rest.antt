-- Writing into the lent-on rest of a slice, `&mut out[a..]`: what the borrow checker says of the whole when the part is back, as `front`.
-- Assumes nothing.
use Prim.Native.Nat.{ℕ, ◌-◌, ◌≤◌}
use mathlib.Core.Path.{◌≡◌, ap, ◌∙◌}
use mathlib.Core.List.{List, ◌++◌, append_assoc, append-nil}
use native.Mathlib.Omega.{arith}
use native.Mathlib.Nat.{le_of_eq}
use lib.ListN.{length, take, drop, length-append, length-drop, drop_of_length-le}
use lib.Seq.{take_all, take-append_seam, drop-append_seam, drop-drop}
use borrow.Rule.Slice.PartMut.{mid_of, put_mid}
use Rattle.wire.specs.Lent.{front}

pub rest_part : (a : ℕ) (xs : List ℕ) → mid_of a (length xs - a) xs ≡ drop a xs
rest_part a xs = take_all (length xs - a) (drop a xs) (le_of_eq (length-drop a xs))

pub rest_back : (a : ℕ) (xs ys : List ℕ) → put_mid a (length xs - a) xs ys ≡ take a xs ++ ys
rest_back a xs ys = rw (drop_of_length-le (drop a xs) (le_of_eq (length-drop a xs)), append-nil ys)

pub front_length : (es d : List ℕ) → length es ≤ length d → length (front es d) ≡ length d
front_length es d h = simp (length-append, length-drop) (omega arith)

front-front : (d es fs : List ℕ) → take (length es) (front es d) ++ front fs (drop (length es) (front es d)) ≡ front (es ++ fs) d
front-front d es fs = simp (take-append_seam, drop-append_seam, drop-drop, length-append, append_assoc)

-- es at the front of d, and then fs at the front of the rest, is es ++ fs at the front of d
pub put_rest : (d es fs d1 d2 : List ℕ) (a : ℕ) → a ≡ length es → d1 ≡ front es d → d2 ≡ front fs (mid_of a (length d1 - a) d1)
    → put_mid a (length d1 - a) d1 d2 ≡ front (es ++ fs) d
put_rest d es fs d1 d2 a e p q =
    rest_back a d1 d2
    ∙ ap (λ (t : List ℕ). take a d1 ++ t) (q ∙ ap (λ (t : List ℕ). front fs t) (rest_part a d1))
    ∙ ap (λ (n : ℕ). take n d1 ++ front fs (drop n d1)) e
    ∙ ap (λ (t : List ℕ). take (length es) t ++ front fs (drop (length es) t)) p
    ∙ front-front d es fs
