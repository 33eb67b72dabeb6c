-- How many bytes a line of words and numbers takes: every number has at most ten digits.
-- Assumes nothing.
use Prim.Native.Nat.{ℕ, ◌≤◌, ◌<◌}
use mathlib.Core.List.{List, [], ◌∷◌}
use native.Mathlib.Omega.{arith}
use lib.ListN.{length, length-append}
use Rattle.decimal_text.specs.Words.{each, told}
use Rattle.decimal_text.proofs.Digits.{ten_digits, decimal_most}
use Rattle.listing_lines.specs.Lines.{line_room}

-- a line of three words of at most eight letters
pub told_most : (u v w : List ℕ) (a b c : ℕ) → length u ≤ 8 → length v ≤ 8 → length w ≤ 8 → a < ten_digits → b < ten_digits → c < ten_digits
    → length (told ((u, a) ∷ (v, b) ∷ (w, c) ∷ [])) ≤ line_room
unfolding each
told_most u v w a b c hu hv hw ha hb hc =
    simp length-append (omega (arith, decimal_most a ha, decimal_most b hb, decimal_most c hc))

-- and one of one
pub one_most : (u : List ℕ) (a : ℕ) → length u ≤ 8 → a < ten_digits → length (told ((u, a) ∷ [])) ≤ line_room
unfolding each
one_most u a hu ha = simp length-append (omega (arith, decimal_most a ha))
