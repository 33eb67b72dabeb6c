-- The listing of document 01's chapter "Listing", byte for byte, the lines of refusals and of missing files, and numbers in base ten. Assumes nothing.
use Prim.Native.Nat.{ℕ}
use mathlib.Core.Path.{◌≡◌, refl}
use mathlib.Core.List.{List, [], ◌∷◌, ◌++◌}
use Rattle.chain.specs.WorkedAnchors.{acttca, acttca_result}
use Rattle.decimal_text.specs.Decimal.{decimal_in, decimal}
use Rattle.decimal_text.specs.Words.{each}
use Rattle.listing_lines.specs.Lines.{refused_line, Printed}
use Rattle.listing_text.specs.Lines.{anchor_line}
use Rattle.listing_result.specs.Showing.{listing_of}
use Rattle.loaded.specs.Files.{File, missing, read}
use Rattle.listing.specs.Printing.{Output}

-- G1's anchors, with the result that `acttca_works` (chain) proves: `anchors 3 score 6 rounds 2`, `1 1 1 2 1 2 2`, `2 3 1 2 3 4 4`, `3 4 1 2 5 6 6`
pub first_listing : listing_of acttca.anchors acttca_result
    ≡ (97 ∷ 110 ∷ 99 ∷ 104 ∷ 111 ∷ 114 ∷ 115 ∷ 32 ∷ 51 ∷ 32 ∷ 115 ∷ 99 ∷ 111 ∷ 114 ∷ 101 ∷ 32 ∷ 54 ∷ 32 ∷ 114 ∷ 111 ∷ 117 ∷ 110 ∷ 100 ∷ 115 ∷ 32 ∷ 50 ∷ 10 ∷ [])
    ++ ((49 ∷ 32 ∷ 49 ∷ 32 ∷ 49 ∷ 32 ∷ 50 ∷ 32 ∷ 49 ∷ 32 ∷ 50 ∷ 32 ∷ 50 ∷ 10 ∷ [])
    ++ ((50 ∷ 32 ∷ 51 ∷ 32 ∷ 49 ∷ 32 ∷ 50 ∷ 32 ∷ 51 ∷ 32 ∷ 52 ∷ 32 ∷ 52 ∷ 10 ∷ [])
    ++ (51 ∷ 32 ∷ 52 ∷ 32 ∷ 49 ∷ 32 ∷ 50 ∷ 32 ∷ 53 ∷ 32 ∷ 54 ∷ 32 ∷ 54 ∷ 10 ∷ [])))
unfolding listing_of each anchor_line decimal_in decimal
first_listing = refl

-- `refused 4 file 1 place 65536`
pub long-refused : refused_line 4 1 65536 ≡ 114 ∷ 101 ∷ 102 ∷ 117 ∷ 115 ∷ 101 ∷ 100 ∷ 32 ∷ 52 ∷ 32 ∷ 102 ∷ 105 ∷ 108 ∷ 101 ∷ 32 ∷ 49 ∷ 32 ∷ 112 ∷ 108 ∷ 97 ∷ 99 ∷ 101 ∷ 32 ∷ 54 ∷ 53 ∷ 53 ∷ 51 ∷ 54 ∷ 10 ∷ []
unfolding each decimal_in decimal
long-refused = refl

-- `no file 1` and `no file 2`
abbrev pub no_file1 : List ℕ
no_file1 = 110 ∷ 111 ∷ 32 ∷ 102 ∷ 105 ∷ 108 ∷ 101 ∷ 32 ∷ 49 ∷ 10 ∷ []

abbrev pub no_file2 : List ℕ
no_file2 = 110 ∷ 111 ∷ 32 ∷ 102 ∷ 105 ∷ 108 ∷ 101 ∷ 32 ∷ 50 ∷ 10 ∷ []

-- no graph file: the first, whatever the anchor file is (R21)
pub graph-missing : (anchors : File) (old after : List ℕ) (r : ℕ) → Output missing anchors old after r → Printed no_file1 old after r
unfolding each decimal_in decimal
graph-missing anchors old after r h = h

-- no anchor file: the second, also where the graph file is at fault (R21)
pub anchors-missing : (graph old after : List ℕ) (r : ℕ) → Output (read graph) missing old after r → Printed no_file2 old after r
unfolding each decimal_in decimal
anchors-missing graph old after r h = h

-- `0`
pub zero_digits : decimal 0 ≡ 48 ∷ []
unfolding decimal_in decimal
zero_digits = refl
