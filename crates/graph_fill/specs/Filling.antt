-- What the fills take from an accepted section: items one after the other, with no rule left to look at.
use Rattle.std.specs.Prelude.{ℕ, zero, suc, ◌+◌, List, [], ◌∷◌, take, drop}
use Rattle.wire.specs.Numbers.{number_at}
use Rattle.wire.specs.Found.{Found, good, fault, Part}

-- `count` items from a place on, each of which begins where the last one ended; `one` gives the item at a place
unfoldable pub items : {A : Type 0} → (ℕ → Part A) → ℕ → ℕ → Part (List A)
items one zero at = record { content = []; next = at }
items one (suc count) at = record {
  content = (one at).content ∷ (items one count (one at).next).content;
  next = (items one count (one at).next).next;
}

-- the number that was read at a place; where there is none, as nowhere in an accepted section, 0 that takes no byte
abbrev pub taken : Found (Part ℕ) → ℕ → Part ℕ
taken (good r) at = r
taken (fault k place) at = record { content = 0; next = at }

-- the number at a place of the file s
unfoldable pub one_number : List ℕ → ℕ → Part ℕ
one_number s at = taken (number_at s at) at

-- "its label length and letters": the letters
unfoldable pub one_label : List ℕ → ℕ → Part (List ℕ)
one_label s at = record {
  content = take (one_number s at).content (drop (one_number s at).next s);
  next = (one_number s at).next + (one_number s at).content;
}

-- "its vertex count and its vertices": the vertices
unfoldable pub one_path : List ℕ → ℕ → Part (List ℕ)
one_path s at = items (one_number s) (one_number s at).content (one_number s at).next

-- the sections of a file: labels, the numbers of edges, paths, each from its place on
abbrev pub labels_in : List ℕ → ℕ → ℕ → Part (List (List ℕ))
labels_in s n at = items (one_label s) n at

abbrev pub numbers_in : List ℕ → ℕ → ℕ → Part (List ℕ)
numbers_in s count at = items (one_number s) count at

abbrev pub paths_in : List ℕ → ℕ → ℕ → Part (List (List ℕ))
paths_in s k at = items (one_path s) k at
