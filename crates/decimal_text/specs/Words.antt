-- Words with numbers after them, byte by byte; single spaces, and one LF at the end of every line (R20).
use Rattle.std.specs.Prelude.{ℕ, List, [], ◌∷◌, ◌++◌, map}
use denote.Ref.{Bor}
use Rattle.decimal_text.specs.Decimal.{decimal}

-- a space, and LF
abbrev pub space : ℕ
space = 32

abbrev pub line_end : List ℕ
line_end = 10 ∷ []

-- the bytes f of each item, one after the other
unfoldable pub each : {A : Type 0} → (A → List ℕ) → List A → List ℕ
each f [] = []
each f (x ∷ rest) = f x ++ each f rest

-- a word and a number after it
abbrev pub said : List ℕ → ℕ → List ℕ
said word n = word ++ decimal n

-- a line of words, each with its number
abbrev pub told : List (List ℕ × ℕ) → List ℕ
told parts = each (λ p. said p.0 p.1) parts ++ line_end

-- such a line's words and numbers, where they lie
abbrev pub parts_in : List (Bor (List ℕ) × ℕ) → List (List ℕ × ℕ)
parts_in parts = map (λ p. (p.0.now, p.1)) parts
