-- A number as it stands in a file: its encoding, and what reading at a place finds.
use Rattle.std.specs.Prelude.{ℕ, zero, suc, ◌+◌, ◌-◌, ◌*◌, ◌/◌, ◌%◌, List, [], ◌∷◌, ◌&&◌, length, drop, ltb, eqb}
use Rattle.wire.specs.Cases.{pick}
use Rattle.wire.specs.Refusals.{bytes_end, bad_number}
use Rattle.wire.specs.Found.{Found, good, fault, Part}

-- "A number is written in groups of seven bits, lowest group first, the top bit set in every byte but the last." At most l groups follow.
unfoldable pub encode_in : ℕ → ℕ → List ℕ
encode_in zero x = x ∷ []
encode_in (suc l) x = pick (ltb x 128) (x ∷ []) ((x % 128 + 128) ∷ encode_in l (x / 128))

-- "It is at most 4,294,967,295, takes at most five bytes, and is written in the fewest bytes."
unfoldable pub encode : ℕ → List ℕ
unfolding encode_in
encode x = encode_in 4 x

-- b is the last group, of weight w, at the place `at`: "a last byte 0 of several" is refused at the number's first byte, `start`
unfoldable pub ended : ℕ → ℕ → ℕ → ℕ → ℕ → Found (Part ℕ)
ended b start at w acc =
    pick (◌&&◌ (eqb b 0) (ltb start at)) (fault bad_number start) (good (record { content = b * w + acc; next = at + 1 }))

-- The bytes s from the place `at` on, in a file of `end` bytes, within a number that begins at `start`: this group has weight w, those
-- before it make acc, and at most l groups may follow it. "2 comes as soon as seen (a fifth byte above 15, or a last byte 0 of several),
-- 1 if the bytes end first"; the place of 1 is the file's length, that of 2 the number's first byte.
unfoldable pub number_in : ℕ → List ℕ → ℕ → ℕ → ℕ → ℕ → ℕ → Found (Part ℕ)
unfolding ended
number_in l [] end start at w acc = fault bytes_end end
number_in zero (b ∷ s) end start at w acc = pick (ltb 15 b) (fault bad_number start) (ended b start at w acc)
number_in (suc l) (b ∷ s) end start at w acc =
    pick (ltb b 128) (ended b start at w acc) (number_in l s end start (at + 1) (w * 128) ((b - 128) * w + acc))

-- what reading the number at the place `at` of the file s finds
unfoldable pub number_at : List ℕ → ℕ → Found (Part ℕ)
unfolding number_in
number_at s at = number_in 4 (drop at s) (length s) at at 1 0

-- goes on with a number's value and the place after it
abbrev pub on_number : {B : Type 0} → Found (Part ℕ) → (ℕ → ℕ → Found B) → Found B
on_number (good x) go = go x.content x.next
on_number (fault k place) go = fault k place

-- goes on with the number at a place of the file s
abbrev pub number : {B : Type 0} → List ℕ → ℕ → (ℕ → ℕ → Found B) → Found B
number s at go = on_number (number_at s at) go
