-- The last byte of a line, and a space before a number, written by a store.
-- Assumes nothing.
use Prim.Native.Nat.{ℕ, ◌+◌, ◌-◌, ◌<◌}
use mathlib.Core.Path.{◌≡◌, refl, sym, ap, ◌∙◌}
use mathlib.Core.List.{List, [], ◌∷◌, ◌++◌, append-nil}
use native.Mathlib.Omega.{arith}
use lib.ListN.{length, drop, set}
use borrow.Rule.Slice.PartMut.{mid_of, put_mid}
use Rattle.wire.specs.Lent.{front}
use Rattle.wire.proofs.Putting.{put_one}
use Rattle.wire.proofs.Rest.{put_rest}
use Rattle.graph_bytes.proofs.Along.{Along, along_parts, along_as, along-more, along-done}

-- one byte is left, and it is written
pub along_byte : (whole old out : List ℕ) (at b : ℕ) → Along whole (b ∷ []) old out at → (at + 1 ≡ length whole) × (set out at b ≡ front whole old)
along_byte whole old out at b a =
    let n : at + 1 ≡ length whole = omega (arith, along_parts a) in (
      n,
      ap (λ (t : List ℕ). set t at b) (a.same ∙ ap (λ (k : ℕ). a.done ++ drop k old) (sym a.count))
          ∙ put_one old a.done at b (sym a.count) (omega (arith, a.room))
          ∙ ap (λ (t : List ℕ). t ++ drop (at + 1) old) a.joined
          ∙ ap (λ (k : ℕ). whole ++ drop k old) n,
    )

-- the first byte by a store, and the others into the rest
pub after_byte : (b : ℕ) (fs d part : List ℕ) → 0 < length d → part ≡ front fs (mid_of 1 (length (set d 0 b) - 1) (set d 0 b))
    → put_mid 1 (length (set d 0 b) - 1) (set d 0 b) part ≡ front (b ∷ fs) d
after_byte b fs d part h p = put_rest d (b ∷ []) fs (set d 0 b) part 1 refl (put_one d [] 0 b refl h) p

-- the last part, into the rest
pub along-last : (whole fs old out part : List ℕ) (at n : ℕ) → Along whole fs old out at → n ≡ length fs → part ≡ front fs (mid_of at (length out - at) out)
    → (at + n ≡ length whole) × (put_mid at (length out - at) out part ≡ front whole old)
along-last whole fs old out part at n a e p =
    along-done whole [] old _ _ (along-more whole fs [] old out part at n (along_as (fs ++ []) (sym (append-nil fs)) a) e p) refl
