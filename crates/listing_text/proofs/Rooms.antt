-- How many bytes the lines of anchors take: every number has at most ten digits.
-- Assumes nothing.
use Prim.Native.Nat.{ℕ, ◌+◌, ◌-◌, ◌*◌, ◌^◌, ◌≤◌, ◌<◌}
use mathlib.Core.List.{List, ◌++◌}
use native.Mathlib.Omega.{arith}
use lib.ListN.{length, get_or, length-append}
use mir.Syntax.{w32}
use mir.Val.{Fits}
use Rattle.wire.specs.Sizes.{full_chain}
use Rattle.anchors.specs.Anchors.{Anchor, y, d, per_anchor}
use Rattle.anchors.specs.AnchorEntries.{anchor_in}
use Rattle.rounds.specs.Table.{entry}
use Rattle.listing_lines.specs.Lines.{anchors_word, score_word, rounds_word, found_line, line_room}
use Rattle.listing_text.specs.Lines.{anchor_line, line_in, lines_in, listing_room}
use Rattle.decimal_text.specs.Words.{each}
use Rattle.decimal_text.proofs.Digits.{ten_digits, decimal_most}
use Rattle.listing_lines.proofs.Rooms.{told_most}
use Rattle.listing_text.proofs.Each.{each_most}

-- an anchor's line
pub line_most : (j : ℕ) (a : Anchor) (score : ℕ) → j < ten_digits → a.v < ten_digits → a.x < ten_digits → y a < ten_digits → a.c < ten_digits → d a < ten_digits
    → score < ten_digits → length (anchor_line j a score) ≤ line_room
unfolding anchor_line each
line_most j a score hj hv hx hy hc hd hs =
    simp length-append (omega (
      arith,
      decimal_most j hj,
      decimal_most a.v hv,
      decimal_most a.x hx,
      decimal_most (y a) hy,
      decimal_most a.c hc,
      decimal_most (d a) hd,
      decimal_most score hs,
    ))

-- the lines of anchors whose numbers have 32 bits
pub lines_most : (numbers scores js : List ℕ) → ((i : ℕ) → get_or numbers i 0 < 2 ^ 32) → ((i : ℕ) → get_or scores i 0 < 2 ^ 32) → ((i : ℕ) → get_or js i 0 < 2 ^ 32)
    → length (lines_in numbers scores js) ≤ line_room * length js
lines_most numbers scores js hn hs hj =
    each_most (line_in numbers scores) line_room js (λ i k.
    let j = get_or js i 0 in
    let at = per_anchor * (j - 1) in
    line_most j (anchor_in numbers (j - 1)) (entry j scores) (omega (arith, hj i)) (omega (arith, hn at)) (omega (arith, hn (at + 1)))
    (omega (arith, hn (at + 1), hn (at + 3))) (omega (arith, hn (at + 2))) (omega (arith, hn (at + 2), hn (at + 3))) (omega (arith, hs (j - 1))))

-- the first line and the lines of a chain's anchors
pub listing_most : (count score rounds : ℕ) (numbers scores chain : List ℕ) → count < 2 ^ 32 → score < 2 ^ 32 → rounds < 2 ^ 32
    → ((i : ℕ) → Fits w32 (get_or numbers i 0)) → ((i : ℕ) → Fits w32 (get_or scores i 0)) → ((i : ℕ) → Fits w32 (get_or chain i 0))
    → length chain ≤ full_chain → length (found_line count score rounds ++ lines_in numbers scores chain) ≤ listing_room
listing_most count score rounds numbers scores chain hc hs hr n s j h =
    let one = told_most anchors_word score_word rounds_word count score rounds (omega arith) (omega arith) (omega arith) (omega arith) (omega arith) (omega arith) in
    let more = lines_most numbers scores chain (λ i. (n i).fits) (λ i. (s i).fits) (λ i. (j i).fits) in
    omega (arith, one, more, length-append (found_line count score rounds) (lines_in numbers scores chain))
