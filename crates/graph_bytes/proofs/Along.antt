-- Bytes written one part after the other into the lent-on rest of an output: what stands there, and what is still to be written.
-- Assumes nothing.
use Prim.Native.Nat.{ℕ, ◌+◌, ◌-◌, ◌≤◌, ◌<◌, ◌^◌}
use mathlib.Core.Path.{◌≡◌, refl, sym, ap, ◌∙◌}
use mathlib.Core.List.{List, [], ◌++◌, append_assoc, append-nil}
use native.Mathlib.Omega.{arith}
use lib.ListN.{length, length-append, length-drop}
use borrow.Rule.Slice.PartMut.{mid_of, put_mid}
use mir.Syntax.{w64}
use mir.Val.{Fits}
use Rattle.wire.specs.Lent.{front}
use Rattle.wire.proofs.Rest.{put_rest, front_length, rest_part}

-- of the bytes `whole`, those before the place `at` stand at the front of the output, which was `old`, and `rest` is still to be written
pub record Along (whole rest old out : List ℕ) (at : ℕ) : Type 0 where
  pub done : List ℕ
  pub count : at ≡ length done
  pub joined : done ++ rest ≡ whole
  pub same : out ≡ front done old
  pub room : length whole ≤ length old

pub along-none : (whole old : List ℕ) → length whole ≤ length old → Along whole whole old old 0
along-none whole old h = record { done = []; count = refl; joined = refl; same = refl; room = h }

-- the first part, at the front of the output
pub along-first : (whole fs rest old out : List ℕ) (n : ℕ) → whole ≡ fs ++ rest → length whole ≤ length old → n ≡ length fs → out ≡ front fs old
    → Along whole rest old out n
along-first whole fs rest old out n e h p q = record { done = fs; count = p; joined = sym e; same = q; room = h }

module _ {whole rest old out : List ℕ} {at : ℕ} (a : Along whole rest old out at) where
  -- the whole is what is written and what is left
  pub along_parts : length whole ≡ at + length rest
  along_parts = omega (arith, simp length-append at (ap length a.joined), a.count)

  pub along-long : length out ≡ length old
  along-long = ap length a.same ∙ front_length a.done old (omega (arith, along_parts, a.count, a.room))

  -- there is room for what is left
  pub along-room : at + length rest ≤ length out
  along-room = omega (arith, along_parts, along-long, a.room)

  -- the place where what is left begins is in the output
  pub along-within : at ≤ length out
  along-within = let h = along-room in omega arith

-- there is room for the first part of what is left
pub along-fits : (whole fs rest old out : List ℕ) (at : ℕ) → Along whole (fs ++ rest) old out at → at + length fs ≤ length out
along-fits whole fs rest old out at a = omega (arith, simp length-append at (along-room a))

-- the rest of the output, as it is lent on, has room for the first part of what is left
pub along_lent : (whole fs rest old out : List ℕ) (at : ℕ) → Along whole (fs ++ rest) old out at → length fs ≤ length (mid_of at (length out - at) out)
along_lent whole fs rest old out at a = let h = along-fits whole fs rest old out at a in rw (rest_part, length-drop) (omega arith)

-- the place after the first part of what is left fits a number
pub along-place : (whole fs rest old out : List ℕ) (at n : ℕ) → Along whole (fs ++ rest) old out at → n ≡ length fs → length old < 2 ^ 64
    → Fits w64 (at + n)
along-place whole fs rest old out at n a e w =
    let h = along-fits whole fs rest old out at a in
    let l = along-long a in
    omega arith

-- what is left, told in other words
pub along_as : {whole rest old out : List ℕ} {at : ℕ} (next : List ℕ) → rest ≡ next → Along whole rest old out at → Along whole next old out at
along_as next e a = record {
  done = a.done;
  count = a.count;
  joined = ap (λ (t : List ℕ). a.done ++ t) (sym e) ∙ a.joined;
  same = a.same;
  room = a.room;
}

-- the part fs is written at the front of the rest of the output
pub along-more : (whole fs rest old out part : List ℕ) (at n : ℕ) → Along whole (fs ++ rest) old out at
    → n ≡ length fs → part ≡ front fs (mid_of at (length out - at) out)
    → Along whole rest old (put_mid at (length out - at) out part) (at + n)
along-more whole fs rest old out part at n a e p = record {
  done = a.done ++ fs;
  count = omega (arith, length-append a.done fs, a.count);
  joined = append_assoc a.done fs rest ∙ a.joined;
  same = put_rest old a.done fs out part at a.count a.same p;
  room = a.room;
}

-- nothing is left: the whole stands at the front
pub along-done : (whole rest old out : List ℕ) (at : ℕ) → Along whole rest old out at → rest ≡ []
    → (at ≡ length whole) × (out ≡ front whole old)
along-done whole rest old out at a e =
    let w : a.done ≡ whole = sym (append-nil a.done) ∙ ap (λ (t : List ℕ). a.done ++ t) (sym e) ∙ a.joined in
    (a.count ∙ ap length w, a.same ∙ ap (λ (t : List ℕ). front t old) w)
