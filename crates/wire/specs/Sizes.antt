-- The ranges of document 01's table "Quantity, Range", and the full sizes of lent buffers, chapter "The two files".
use Rattle.std.specs.Prelude.{ℕ}

-- "Graph file: 1; n; .." and "Anchor file: 2; r; ..": the first number says the kind
abbrev pub graph_kind : ℕ
graph_kind = 1

abbrev pub anchor_kind : ℕ
anchor_kind = 2

-- "file bytes | at most 65,536"
abbrev pub most_file_bytes : ℕ
most_file_bytes = 65536

-- "n | 1 to 1,024"
abbrev pub most_vertices : ℕ
most_vertices = 1024

-- "label length | 1 up; all labels together at most 32,768"
abbrev pub most_letters : ℕ
most_letters = 32768

-- "m | 0 to 4,096"
abbrev pub most_edges : ℕ
most_edges = 4096

-- "K, vertices of a path | 1 to 16, 1 to n"
abbrev pub most_paths : ℕ
most_paths = 16

-- "r, N | 1 to 32,768, 0 to 2,048"
abbrev pub most_read : ℕ
most_read = 32768

abbrev pub most_anchors : ℕ
most_anchors = 2048

-- "weight | 1 to 65,535"
abbrev pub most_weight : ℕ
most_weight = 65535

-- "Lent buffers have full sizes: letters 32,768; lengths 1,024; edges 8,192 numbers; paths 16,384 with 16 counts; anchors 10,240 numbers;
-- reach and distance tables 16,384 each; closed walks 1,024; scores and chain 2,048."
abbrev pub full_letters : ℕ
full_letters = 32768

abbrev pub full_lengths : ℕ
full_lengths = 1024

abbrev pub full_edges : ℕ
full_edges = 8192

abbrev pub full_paths : ℕ
full_paths = 16384

abbrev pub full_counts : ℕ
full_counts = 16

abbrev pub full_anchors : ℕ
full_anchors = 10240

abbrev pub full_table : ℕ
full_table = 16384

abbrev pub full_closed : ℕ
full_closed = 1024

abbrev pub full_scores : ℕ
full_scores = 2048

abbrev pub full_chain : ℕ
full_chain = 2048

-- "Path i starts at place 1,024(i − 1)"
abbrev pub path_room : ℕ
path_room = 1024

-- "cell (v, i) is at place 16(v − 1) + i − 1"
abbrev pub table_row : ℕ
table_row = 16
