use mathlib.Core.Bool.{Bool}
use native.Mathlib.Nat.{le_of_eq}
use Rattle.graph.specs.Entries.{Buffers}
use Rattle.graph_read.proofs.Replying.{Full}
use Rattle.graph_read.proofs.Outcome.{Accepts, number-zero, number-some}
use Rattle.cover.specs.TableEntries.{TableBuffers, roomy_tables, room_for_tables}
use Rattle.wire_lent.proofs.Rooms.{room-long}
use Rattle.tables.proofs.Tabling.{small-answered, refused-answered, accepted-answered}
use Rattle.tables.proofs.Accepted.{full_roomy, same-reply, accepted-holds, accepted-paths}
use lib.ListN.{length}
use Prim.Native.Nat.{ℕ}
use Rattle.tables.specs.Answer.{refusal_of}
use mathlib.Core.Path.{◌≡◌, sym, ap, ◌∙◌}
use native.Mathlib.Omega.{arith}
use Rattle.tables.proofs.tables.Goals as goal

-- what the room test says
room : (b : TableBuffers) {r : Bool} → r ≡ room_for_tables (length b.reach) (length b.distance) (length b.closed) → roomy_tables b ≡ r
unfolding roomy_tables
room b e = sym e

pub returns-then-not-roomy : goal.returns-then-not-roomy
returns-then-not-roomy c =
    let L : TableBuffers = record { reach = c.args.reach.now; distance = c.args.distance.now; closed = c.args.closed.now } in
    small-answered _ L _ (room L c.roomy.ensures ∙ c.if-not-roomy.true) (c.refusal.ensures ∙ ap (λ (k : ℕ). refusal_of k 0 0) c.from.ensures)

pub returns-then-read-ne0 : goal.returns-then-read-ne0
returns-then-read-ne0 c =
    let L : TableBuffers = record { reach = c.args.reach.now; distance = c.args.distance.now; closed = c.args.closed.now } in
    let own : Buffers = record {
      letters = c.zeros-letters.result;
      lengths = c.zeros-lengths.result;
      edges = c.zeros-edges.result;
      paths = c.zeros-paths.result;
      counts = c.zeros-counts.result;
    } in
    let after : Buffers = record {
      letters = c.read_graph-read.new.letters;
      lengths = c.read_graph-read.new.lengths;
      edges = c.read_graph-read.new.edges;
      paths = c.read_graph-read.new.paths;
      counts = c.read_graph-read.new.counts;
    } in
    let full : Full own = record {
      letters = le_of_eq (sym (room-long 32768 c.zeros-letters.ensures));
      lengths = le_of_eq (sym (room-long 1024 c.zeros-lengths.ensures));
      edges = le_of_eq (sym (room-long 8192 c.zeros-edges.ensures));
      paths = le_of_eq (sym (room-long 16384 c.zeros-paths.ensures));
      counts = le_of_eq (sym (room-long 16 c.zeros-counts.ensures));
    } in
    let n = number-some _ own after c.read_graph-read.result c.read_graph-read.ensures c.if-read-ne0.true in
    refused-answered _ L _ _ _ _ (same-reply _ L own (room L c.roomy.ensures ∙ c.if-not-roomy.false) (full_roomy own full) ∙ n.reply) c.refusal-then-read-ne0.ensures

pub invariant_of-content : goal.invariant_of-content
invariant_of-content c =
    let L : TableBuffers = record { reach = c.args.reach.now; distance = c.args.distance.now; closed = c.args.closed.now } in
    let own : Buffers = record {
      letters = c.zeros-letters.result;
      lengths = c.zeros-lengths.result;
      edges = c.zeros-edges.result;
      paths = c.zeros-paths.result;
      counts = c.zeros-counts.result;
    } in
    let after : Buffers = record {
      letters = c.read_graph-read.new.letters;
      lengths = c.read_graph-read.new.lengths;
      edges = c.read_graph-read.new.edges;
      paths = c.read_graph-read.new.paths;
      counts = c.read_graph-read.new.counts;
    } in
    let full : Full own = record {
      letters = le_of_eq (sym (room-long 32768 c.zeros-letters.ensures));
      lengths = le_of_eq (sym (room-long 1024 c.zeros-lengths.ensures));
      edges = le_of_eq (sym (room-long 8192 c.zeros-edges.ensures));
      paths = le_of_eq (sym (room-long 16384 c.zeros-paths.ensures));
      counts = le_of_eq (sym (room-long 16 c.zeros-counts.ensures));
    } in
    let accepted : Accepts c.args.file.now own after c.read_graph-read.result = number-zero _ _ _ _ c.read_graph-read.ensures (omega arith) in
    record { graph = accepted.parsed.graph; holds = accepted-holds _ _ _ _ (λ i. (c.type_inv.file i).fits) full accepted }

pub returns : goal.returns
returns c =
    let L : TableBuffers = record { reach = c.args.reach.now; distance = c.args.distance.now; closed = c.args.closed.now } in
    let own : Buffers = record {
      letters = c.zeros-letters.result;
      lengths = c.zeros-lengths.result;
      edges = c.zeros-edges.result;
      paths = c.zeros-paths.result;
      counts = c.zeros-counts.result;
    } in
    let after : Buffers = record {
      letters = c.read_graph-read.new.letters;
      lengths = c.read_graph-read.new.lengths;
      edges = c.read_graph-read.new.edges;
      paths = c.read_graph-read.new.paths;
      counts = c.read_graph-read.new.counts;
    } in
    let full : Full own = record {
      letters = le_of_eq (sym (room-long 32768 c.zeros-letters.ensures));
      lengths = le_of_eq (sym (room-long 1024 c.zeros-lengths.ensures));
      edges = le_of_eq (sym (room-long 8192 c.zeros-edges.ensures));
      paths = le_of_eq (sym (room-long 16384 c.zeros-paths.ensures));
      counts = le_of_eq (sym (room-long 16 c.zeros-counts.ensures));
    } in
    let accepted : Accepts c.args.file.now own after c.read_graph-read.result = number-zero _ _ _ _ c.read_graph-read.ensures (omega arith) in
    accepted-answered _ L accepted.parsed _ _ (room L c.roomy.ensures ∙ c.if-not-roomy.false) accepted.found (c.lay_tables.ensures accepted.parsed.graph (accepted-holds _ _ _ _ (λ i. (c.type_inv.file i).fits) full accepted) (accepted-paths _ _ _ _ accepted))
