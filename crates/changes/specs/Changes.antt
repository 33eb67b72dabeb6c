-- The changes that a text writes, and a list with them made.
use Rattle.std.specs.Prelude.{ℕ, ◌+◌, ◌-◌, ◌*◌, ◌%◌, ◌^◌, List, [], ◌∷◌, Bool, ◌&&◌, ◌==◌, nat_le, set, if◌then◌else◌}
use Rattle.changes.specs.declared.Change.{Change}

-- a byte is a digit
abbrev pub is_digit : ℕ → Bool
is_digit b = nat_le 48 b && nat_le b 57

-- a change with one byte of its text more: a digit of its number, modulo 2^32; `=`, 61, after its place; `;`, 59, at its end; else the letter of its list
unfoldable pub taken : Change → ℕ → Change
taken s b =
    if is_digit b then record { list = s.list; at = s.at; value = (s.value * 10 + (b - 48)) % 2 ^ 32 } else
    if b == 61 then record { list = s.list; at = s.value; value = 0 } else
    if b == 59 then s else record { list = b; at = 0; value = 0 }

-- the changes that a text ends, where its first byte goes on with s
unfoldable pub changes_from : Change → List ℕ → List Change
changes_from s [] = []
changes_from s (b ∷ bs) = if b == 59 then taken s b ∷ changes_from (taken s b) bs else changes_from (taken s b) bs

-- the changes of a text
abbrev pub changes_in : List ℕ → List Change
changes_in text = changes_from (record { list = 0; at = 0; value = 0 }) text

-- a list with those changes made that are of it, where their places are there; each number stands for an entry
unfoldable pub made : {A : Type 0} → (ℕ → A) → ℕ → List Change → List A → List A
made entry list [] xs = xs
made entry list (c ∷ cs) xs = made entry list cs (if c.list == list then set xs c.at (entry c.value) else xs)
