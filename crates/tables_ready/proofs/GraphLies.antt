-- What the reader of the graph file and the making of its tables leave. Assumes nothing.
use Prim.Native.Nat.{ℕ, ◌*◌, ◌≤◌}
use mathlib.Core.Path.{◌≡◌, sym, ap, ◌∙◌}
use mathlib.Core.List.{List, ◌++◌}
use mathlib.Core.Bool.{true}
use lib.ListN.{length, take, drop}
use Rattle.wire.specs.Found.{good, accepted}
use native.Mathlib.Omega.{arith}
use Rattle.wire.specs.Sizes.{table_row, most_vertices}
use Rattle.wire.proofs.NumberLaws.{Bytes}
use Rattle.graph.specs.Content.{Graph, path_count}
use Rattle.graph.specs.Reading.{Parsed, graph_of}
use Rattle.graph.specs.Entries.{Buffers, roomy, read_reply}
use Rattle.graph_read.specs.Answer as reader
use Rattle.graph_read.specs.declared.GraphAnswer.{GraphAnswer}
use Rattle.graph_read.proofs.Replying.{Full}
use Rattle.graph_read.proofs.Outcome.{Accepts}
use Rattle.tables.proofs.Accepted.{full_roomy, accepted-holds, accepted-paths}
use Rattle.table_rounds.specs.Held.{Holds}
use Rattle.placing_over.specs.Lying.{TablesLie}
use Rattle.placing_over.proofs.Results.{part_taken}

unfoldable graph_accepts : (graph : List ℕ) (l after : Buffers) (r : GraphAnswer) (p : Parsed) → graph_of graph ≡ good p → roomy l ≡ true → reader.Answered graph l after r
    → Accepts graph l after r
unfolding read_reply
graph_accepts graph l after r p e h A =
    let reply : read_reply graph l ≡ accepted p = rw (h, e) in
    record { parsed = p; found = e; full = h; content = A.buffers ∙ rw reply; answer = A.answer ∙ rw reply }

-- an accepted graph's content lies in the buffers, by the numbers of the reader's answer
module _ (graph : List ℕ) (l after : Buffers) (r : GraphAnswer) (bytes : Bytes graph) (full : Full l) (A : reader.Answered graph l after r) (p : Parsed) (e : graph_of graph ≡ good p) where
  pub graph-held : Holds p.graph r.vertices r.edges after.lengths after.edges after.paths after.counts
  unfolding graph_accepts
  graph-held = accepted-holds graph l after r bytes full (graph_accepts graph l after r p e (full_roomy l full) A)

  pub graph-few : r.vertices ≤ most_vertices
  graph-few = omega (arith, graph-held.good.few_vertices, graph-held.vertices)

  pub graph-paths : path_count p.graph ≡ r.paths
  unfolding graph_accepts
  graph-paths = sym (accepted-paths graph l after r (graph_accepts graph l after r p e (full_roomy l full) A))

-- tables that were made in the front parts of buffers are there
pub tables-front : {g : Graph} {n k : ℕ} {lengths paths : List ℕ} (x y z old_x old_y old_z : List ℕ) → length z ≡ n → TablesLie g n k lengths paths x y z
    → TablesLie g n k lengths paths (take (table_row * n) (x ++ drop (table_row * n) old_x)) (take (table_row * n) (y ++ drop (table_row * n) old_y)) (take n (z ++ drop n old_z))
tables-front {g} {n} {k} {lengths} {paths} x y z old_x old_y old_z l L =
    let lx : length x ≡ table_row * n = L.reach_is.size ∙ ap (λ (v : ℕ). table_row * v) L.vertices in
    let ly : length y ≡ table_row * n = L.distance_is.size ∙ ap (λ (v : ℕ). table_row * v) L.vertices in
    rw (part_taken (table_row * n) x old_x lx, part_taken (table_row * n) y old_y ly, part_taken n z old_z l) L
