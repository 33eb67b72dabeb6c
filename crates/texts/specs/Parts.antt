-- The parts of a text, each ended by the mark `|`, which is 124.
use Rattle.std.specs.Prelude.{ℕ, ◌+◌, ◌-◌, List, [], ◌∷◌, cond, eqb, take}

-- the part after `left` marks more, where n bytes of the part that starts with `here` are passed and `rest` follows them; no bytes where no mark ends it
unfoldable pub part_from : ℕ → List ℕ → ℕ → List ℕ → List ℕ
part_from left here n [] = []
part_from left here n (y ∷ ys) = cond (eqb y 124) (cond (eqb left 0) (take n here) (part_from (left - 1) ys 0 ys)) (part_from left here (n + 1) ys)

-- the part of a text after k marks
abbrev pub part_of : ℕ → List ℕ → List ℕ
part_of k text = part_from k text 0 text
