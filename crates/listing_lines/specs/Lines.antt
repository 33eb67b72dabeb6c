-- The listing's lines of words and numbers, byte by byte. Document 01, chapter "Listing".
use Rattle.std.specs.Prelude.{ℕ, ◌≡◌, List, [], ◌∷◌, length}
use Rattle.wire.specs.Lent.{front}
use Rattle.decimal_text.specs.Words.{told}

-- ---- words

-- `anchors `, ` score ` and ` rounds `
abbrev pub anchors_word : List ℕ
anchors_word = 97 ∷ 110 ∷ 99 ∷ 104 ∷ 111 ∷ 114 ∷ 115 ∷ 32 ∷ []

abbrev pub score_word : List ℕ
score_word = 32 ∷ 115 ∷ 99 ∷ 111 ∷ 114 ∷ 101 ∷ 32 ∷ []

abbrev pub rounds_word : List ℕ
rounds_word = 32 ∷ 114 ∷ 111 ∷ 117 ∷ 110 ∷ 100 ∷ 115 ∷ 32 ∷ []

-- `refused `, ` file ` and ` place `
abbrev pub refused_word : List ℕ
refused_word = 114 ∷ 101 ∷ 102 ∷ 117 ∷ 115 ∷ 101 ∷ 100 ∷ 32 ∷ []

abbrev pub file_word : List ℕ
file_word = 32 ∷ 102 ∷ 105 ∷ 108 ∷ 101 ∷ 32 ∷ []

abbrev pub place_word : List ℕ
place_word = 32 ∷ 112 ∷ 108 ∷ 97 ∷ 99 ∷ 101 ∷ 32 ∷ []

-- `no file `
abbrev pub no_file_word : List ℕ
no_file_word = 110 ∷ 111 ∷ 32 ∷ 102 ∷ 105 ∷ 108 ∷ 101 ∷ 32 ∷ []

-- ---- lines

-- "Its first line gives N, the greatest score and the rounds": `anchors 3 score 6 rounds 2`
abbrev pub found_line : ℕ → ℕ → ℕ → List ℕ
found_line n score rounds = told ((anchors_word, n) ∷ (score_word, score) ∷ (rounds_word, rounds) ∷ [])

-- "A refusal prints `refused NUMBER file FILE place PLACE`"
abbrev pub refused_line : ℕ → ℕ → ℕ → List ℕ
refused_line k file place = told ((refused_word, k) ∷ (file_word, file) ∷ (place_word, place) ∷ [])

-- "a file that cannot be opened or read, `no file 1` or `no file 2`"
abbrev pub no_file_line : ℕ → List ℕ
no_file_line file = told ((no_file_word, file) ∷ [])

-- ---- what is laid

-- the bytes `text` are at the front of the output, which was `old`, and r is how many they are
pub record Printed (text old after : List ℕ) (r : ℕ) : Type 0 where
  pub count : r ≡ length text
  pub bytes : after ≡ front text old

-- a line's most bytes
abbrev pub line_room : ℕ
line_room = 80
