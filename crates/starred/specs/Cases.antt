-- "Checked by hand. Marked * are proved.": the marked cases, in document 01's order, and what each of them says of the definitions.
use Rattle.std.specs.Prelude.{ℕ, ◌≡◌, List, [], ◌∷◌, ◌++◌, length}
use Rattle.wire.specs.Numbers.{encode, number_at}
use Rattle.wire.specs.Found.{good, fault}
use Rattle.graph.specs.Content.{Graph}
use Rattle.graph.specs.Good.{All}
use Rattle.graph.specs.Reading.{Parsed, graph_of}
use Rattle.anchors.specs.Anchors.{AnchorSet}
use Rattle.cover.specs.CoverDistance.{IsCover}
use Rattle.cover.specs.TableEntries.{Tables, IsTables}
use Rattle.cover.specs.Worked.{g1, g1_tables, g2, g2_tables}
use Rattle.chain.specs.WorkedAnchors.{ccgcc, acc, aaa, alone, looped, Works}

-- a case, by its words
pub data Case : Type 0 where
  -- the number is these bytes
  number_is : ℕ → List ℕ → Case
  -- these bytes are refused as a number, with this refusal number
  number_refused : List ℕ → ℕ → Case
  -- this graph file is accepted
  graph_accepted : List ℕ → Case
  -- this graph file is refused, with this number and place
  graph_refused : List ℕ → ℕ → ℕ → Case
  -- this graph file, with any one byte more, is refused, with this number and place
  graph_more_refused : List ℕ → ℕ → ℕ → Case
  -- the graph has these tables
  tables_are : Graph → Tables → Case
  -- the cover distance from one vertex to another
  cover_is : Graph → ℕ → ℕ → ℕ → Case
  -- the anchors over the graph have this score, this chain and these rounds of the sweep
  chain_is : Graph → AnchorSet → ℕ → List ℕ → ℕ → Case

-- what a case says of the definitions
abbrev pub Holds : Case → Type 0
Holds (number_is k bytes) = (encode k ≡ bytes) × (number_at bytes 0 ≡ good (record { content = k; next = length bytes }))
Holds (number_refused bytes k) = number_at bytes 0 ≡ fault k 0
Holds (graph_accepted bytes) = (p : Parsed) × (graph_of bytes ≡ good p)
Holds (graph_refused bytes k place) = graph_of bytes ≡ fault k place
Holds (graph_more_refused bytes k place) = (b : ℕ) → graph_of (bytes ++ (b ∷ [])) ≡ fault k place
Holds (tables_are g t) = IsTables g t
Holds (cover_is g u v s) = IsCover g u v s
Holds (chain_is g a score chain rounds) = (scores : List ℕ) × Works g a (record { scores = scores; chain = chain; score = score; rounds = rounds })

-- THE STARRED CASES
abbrev pub starred : List Case
starred =
    -- "* 127 is 7F; 128 is 80 01; * 80 00 refused 2; FF FF FF FF 0F accepted as a number, * FF FF FF FF 10 refused 2."
    number_is 127 (0x7f ∷ [])
    ∷ number_is 128 (0x80 ∷ 0x01 ∷ [])
    ∷ number_refused (0x80 ∷ 0x00 ∷ []) 2
    ∷ number_is 4294967295 (0xff ∷ 0xff ∷ 0xff ∷ 0xff ∷ 0x0f ∷ [])
    ∷ number_refused (0xff ∷ 0xff ∷ 0xff ∷ 0xff ∷ 0x10 ∷ []) 2
    -- "* Empty graph file: 1, place 0."
    ∷ graph_refused [] 1 0
    -- "* 01 01 01 41 00 01 01 01 accepted; one byte less: 1, place 7; one more: 10, place 8."
    ∷ graph_accepted (0x01 ∷ 0x01 ∷ 0x01 ∷ 0x41 ∷ 0x00 ∷ 0x01 ∷ 0x01 ∷ 0x01 ∷ [])
    ∷ graph_refused (0x01 ∷ 0x01 ∷ 0x01 ∷ 0x41 ∷ 0x00 ∷ 0x01 ∷ 0x01 ∷ []) 1 7
    ∷ graph_more_refused (0x01 ∷ 0x01 ∷ 0x01 ∷ 0x41 ∷ 0x00 ∷ 0x01 ∷ 0x01 ∷ 0x01 ∷ []) 10 8
    -- "* 01 02 01 41 01 43 00 01 01 01: 9, place 10."
    ∷ graph_refused (0x01 ∷ 0x02 ∷ 0x01 ∷ 0x41 ∷ 0x01 ∷ 0x43 ∷ 0x00 ∷ 0x01 ∷ 0x01 ∷ 0x01 ∷ []) 9 10
    -- "* G1: reach rows for vertices 1 to 4: 1 1; 2 1; 1 2; 3 3. Distances: 0 0; 0 2; 2 0; 0 0."
    ∷ tables_are g1 g1_tables
    -- "* Reach 1 3 3, distance 0 1 0; closed walks 0 3 3."
    ∷ tables_are g2 g2_tables
    -- "* G2, read CCGCC, anchors (v x c length weight) 2 1 1 2 2; 2 1 4 2 2; 3 1 3 1 1: score 5, chain 1 3 2, three rounds."
    ∷ chain_is g2 ccgcc 5 (1 ∷ 3 ∷ 2 ∷ []) 3
    -- "* G2, read ACC, anchors 1 1 1 1 1; 2 1 2 2 2: cover distance 4, score 2, chain 2."
    ∷ cover_is g2 1 2 4
    ∷ chain_is g2 acc 2 (2 ∷ []) 1
    -- "* One vertex A, read AAA, three anchors of weight 1: score 1, chain 1; with an edge to itself, score 3, chain 1 2 3."
    ∷ chain_is alone aaa 1 (1 ∷ []) 1
    ∷ chain_is looped aaa 3 (1 ∷ 2 ∷ 3 ∷ []) 2
    ∷ []

-- every starred case holds
abbrev pub AllStarred : Type 0
AllStarred = All Holds starred
