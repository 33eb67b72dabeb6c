-- A buffer that is written from its front.
-- Assumes nothing.
use Prim.Native.Nat.{ℕ, suc, ◌-◌, ◌<◌, ◌≤◌}
use mathlib.Core.Path.{◌≡◌, ◌∙◌}
use mathlib.Core.List.{List, [], ◌∷◌, ◌++◌, append_assoc, append-nil}
use native.Mathlib.Omega.{arith}
use native.Mathlib.Numerals.{add-one}
use lib.ListN.{length, take, drop, replicate, set, length-append, length-drop, length-take, drop_of_length-le}
use lib.Seq.{length-take-le, set_at, take_at, drop-cons, append_snoc, take-append_seam, drop-append_seam, drop-drop}
use borrow.Rule.Slice.PartMut.{mid_of, put_mid}
use Rattle.wire.specs.Lent.{padded, laid, front}
use Rattle.wire.proofs.Rest.{rest_part, rest_back}

-- one value more, written behind what stands at the front
pub front-more : (es fs out old : List ℕ) (i v : ℕ) → length es ≡ i → i < length old → out ≡ front es old → fs ≡ es ++ (v ∷ []) → set out i v ≡ front fs old
front-more es fs out old i v l h e f =
    let n : length (es ++ (v ∷ [])) ≡ suc (length es) = simp length-append (add-one (length es)) in
    rw (e, f, n, drop-cons old (length es) 0 (omega arith), set_at es _ _ v i l, append_snoc)

-- a list that fills the whole buffer
pub front-whole : (es old : List ℕ) → length old ≤ length es → front es old ≡ es
front-whole es old h = rw (drop_of_length-le old h, append-nil es)

-- a part that was lent on behind what stands at the front, and is back as ys
pub part-back : (es ys out old : List ℕ) (a k : ℕ) → a ≡ length es → length ys ≡ k → out ≡ front es old → put_mid a k out ys ≡ front (es ++ ys) old
part-back es ys out old a k e l o = rw (o, e, ← l) (simp (take-append_seam, drop-append_seam, drop-drop, length-append, append_assoc))

-- the used places were written, and 0 in the rest, which was lent on and is back as zs
pub rest-zeroed : (used room zs : List ℕ) (n : ℕ) → length used ≡ n → n ≤ length room
    → zs ≡ replicate (length (mid_of n (length (used ++ drop n room) - n) (used ++ drop n room))) 0
    → put_mid n (length (used ++ drop n room) - n) (used ++ drop n room) zs ≡ padded (length room) used
unfolding padded
rest-zeroed used room zs n l h z =
    let all = used ++ drop n room in
    let long : length all ≡ length room = simp (length-append, length-drop) (omega arith) in
    let left : length (mid_of n (length all - n) all) ≡ length room - length used = rw rest_part (rw (length-drop, long, l)) in
    rest_back n all zs ∙ rw (take_at used (drop n room) n l, z, left)

-- a buffer up to its full size was lent on, and is back as the padded used places
pub laid-back : (full : ℕ) (used old ys : List ℕ) → full ≤ length old → ys ≡ padded (length (take full old)) used → ys ++ drop full old ≡ laid full used old
unfolding laid
laid-back full used old ys h e = rw (e, length-take-le full old h)

-- the first n places of a buffer were lent on, and each of them was written
pub part-written : (used all part : List ℕ) (n : ℕ) → n ≤ length all → length used ≡ n → part ≡ front used (take n all) → part ++ drop n all ≡ front used all
part-written used all part n h l e =
    let f : part ≡ used = e ∙ front-whole used (take n all) (omega (arith, length-take {A = ℕ})) in
    rw (f, l)
