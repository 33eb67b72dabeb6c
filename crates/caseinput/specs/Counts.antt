-- How many entries of a list are meant.
use Rattle.std.specs.Prelude.{ℕ, ◌≤◌, ◌≡◌, List, length, take}

-- n entries, the first of xs
abbrev pub IsPrefixLen : {A : Type 0} → ℕ → List A → Type 0
IsPrefixLen n xs = (n ≤ length xs) × (n ≡ length (take n xs))
