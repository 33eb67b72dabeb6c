-- What the entry has from the reader: room, the reply, and the content of an accepted file. Assumes nothing.
use Prim.Native.Nat.{ℕ, ◌≤◌}
use mathlib.Core.Path.{◌≡◌, ap}
use mathlib.Core.List.{List}
use mathlib.Core.Bool.{true}
use lib.ListN.{length}
use lib.Dec.{leb}
use borrow.Author.Tests.{leb-true, le-leb}
use Rattle.wire.specs.Sizes.{full_letters, full_lengths, full_edges, full_paths, full_counts, full_table, full_closed}
use Rattle.wire.proofs.NumberLaws.{Bytes}
use Rattle.graph.specs.Content.{path_count}
use Rattle.graph.specs.Entries.{Buffers, roomy, read_reply}
use Rattle.graph.proofs.Kept.{both}
use Rattle.graph.proofs.Exactly.{accepted_keeps}
use Rattle.graph_read.specs.declared.GraphAnswer.{GraphAnswer}
use Rattle.graph_read.proofs.Replying.{Full}
use Rattle.graph_read.proofs.Outcome.{Accepts}
use Rattle.cover.specs.TableEntries.{TableBuffers, roomy_tables, tables_reply}
use Rattle.table_rounds.specs.Held.{Holds}
use Rattle.tables_make.proofs.Meaning.{holds_on}
use Rattle.tables_make.proofs.Holding.{holds-filled}

-- each lent buffer has full size
pub full_tables : (b : TableBuffers) → roomy_tables b ≡ true → (full_table ≤ length b.reach) × (full_table ≤ length b.distance) × (full_closed ≤ length b.closed)
unfolding roomy_tables
full_tables b h =
    let one = both (leb full_table (length b.reach)) _ h in
    let two = both (leb full_table (length b.distance)) _ one.1 in
    (leb-true full_table (length b.reach) one.0, leb-true full_table (length b.distance) two.0, leb-true full_closed (length b.closed) two.1)

-- buffers of full size are roomy
pub full_roomy : (b : Buffers) → Full b → roomy b ≡ true
unfolding roomy
full_roomy b f = simp (
  le-leb full_letters (length b.letters) f.letters,
  le-leb full_lengths (length b.lengths) f.lengths,
  le-leb full_edges (length b.edges) f.edges,
  le-leb full_paths (length b.paths) f.paths,
  le-leb full_counts (length b.counts) f.counts,
)

-- where there is room, the entry replies as the reader does
pub same-reply : (file : List ℕ) (b : TableBuffers) (l : Buffers) → roomy_tables b ≡ true → roomy l ≡ true → tables_reply file b ≡ read_reply file l
unfolding tables_reply read_reply
same-reply file b l p q = rw (p, q)

-- an accepted file's content is in the buffers, by the numbers of the reader's answer
pub accepted-holds : (file : List ℕ) (l after : Buffers) (r : GraphAnswer) → Bytes file → Full l → (A : Accepts file l after r) → Holds A.parsed.graph r.vertices r.edges after.lengths after.edges after.paths after.counts
accepted-holds file l after r bytes f A = holds_on r.vertices r.edges (ap (λ (q : GraphAnswer). q.vertices) A.answer) (ap (λ (q : GraphAnswer). q.edges) A.answer)
    (holds-filled A.parsed.graph (accepted_keeps file A.parsed bytes A.found).rules l after f.lengths f.edges f.paths f.counts A.content)

pub accepted-paths : (file : List ℕ) (l after : Buffers) (r : GraphAnswer) (A : Accepts file l after r) → r.paths ≡ path_count A.parsed.graph
accepted-paths file l after r A = ap (λ (q : GraphAnswer). q.paths) A.answer
