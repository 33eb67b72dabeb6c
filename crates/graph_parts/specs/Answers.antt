-- What the checks of a file's parts answer, in the form of a number that is read: how many there are with the next place, or the fault.
use Rattle.std.specs.Prelude.{ℕ, ◌+◌, length, eqb}
use mathlib.Core.List.{List, flatten}
use Rattle.wire.specs.Cases.{pick}
use Rattle.wire.specs.Found.{Found, good, fault, Part}
use Rattle.wire.specs.Numbers.{number_at}
use Rattle.graph.specs.Rules.{range_fault}

-- a number with a range: "a count, length or weight out of range" is refused at "the number's first byte"
abbrev pub ranged : ℕ → ℕ → ℕ → Found (Part ℕ) → Found (Part ℕ)
ranged low high at (good p) = pick (eqb (range_fault low high p.content) 0) (good p) (fault (range_fault low high p.content) at)
ranged low high at (fault k place) = fault k place

-- what reading a count of the range low to high finds
unfoldable pub count_at : ℕ → ℕ → List ℕ → ℕ → Found (Part ℕ)
count_at low high s at = ranged low high at (number_at s at)

-- a part of the file with x entries
abbrev pub answered : {A : Type 0} → ℕ → Found (Part A) → Found (Part ℕ)
answered x (good p) = good (record { content = x; next = p.next })
answered x (fault k place) = fault k place

-- a label of x letters, with the place after it
abbrev pub letters_answer : ℕ → ℕ → Found (List ℕ) → Found (Part ℕ)
letters_answer x next (good l) = good (record { content = x; next = next })
letters_answer x next (fault k place) = fault k place

-- the letters of all labels, after labels of `sum` letters together
abbrev pub labels_answer : ℕ → Found (Part (List (List ℕ))) → Found (Part ℕ)
labels_answer sum (good p) = good (record { content = sum + length (flatten p.content); next = p.next })
labels_answer sum (fault k place) = fault k place
