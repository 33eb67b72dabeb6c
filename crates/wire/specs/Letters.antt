-- Letters: what a letter is, and when two letters agree.
use Rattle.std.specs.Prelude.{ℕ, Option, Some, None, is_some, Bool, ◌&&◌, eqb}
use Rattle.wire.specs.Cases.{pick}
use Rattle.wire.specs.declared.letters.Letter.{Letter}
use Rattle.wire.specs.declared.letters.Letter.TheVariants.{A, C, G, T}

-- "Letters are the bytes A C G T": the letter that a byte is, if it is one
unfoldable pub letter_of : ℕ → Option Letter
letter_of b = pick (eqb b 65) (Some A) (pick (eqb b 67) (Some C) (pick (eqb b 71) (Some G) (pick (eqb b 84) (Some T) None)))

-- whether a byte is a letter; if not, the refusal is "not a letter"
unfoldable pub is_letter : ℕ → Bool
unfolding letter_of
is_letter b = is_some (letter_of b)

-- whether two bytes are letters that agree: "Label letters x..y of v equal read letters c..d."
unfoldable pub agree : ℕ → ℕ → Bool
unfolding is_letter
agree a b = ◌&&◌ (eqb a b) (is_letter a)
