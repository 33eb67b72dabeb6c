use Prim.Native.Nat.{◌*◌}
use mathlib.Core.Path.{sym, ◌∙◌}
use native.Mathlib.Omega.{arith}
use native.Mathlib.Nat.{le_of_eq}
use lib.Seq.{length-take-le}
use Rattle.graph.specs.Entries.{Buffers}
use Rattle.graph_read.proofs.Replying.{Full}
use Rattle.tables_make.specs.Made.{made}
use Rattle.wire_lent.proofs.Rooms.{room-long}
use Rattle.placing_over.proofs.Settings.{tables_lie}
use Rattle.tables_ready.proofs.GraphLies.{graph-held, graph-few, graph-paths, tables-front}
use Rattle.tables_ready.proofs.make_ready.Goals as goal

pub invariant_of-content : goal.invariant_of-content
invariant_of-content c =
    let own : Buffers = record { letters = c.args.letters.now; lengths = c.args.lengths.now; edges = c.zeros-edges.result; paths = c.args.paths.now; counts = c.zeros-counts.result } in
    let full : Full own = record {
      letters = c.requires.full_letters_in_bounds.0;
      lengths = c.requires.full_letters_in_bounds.1;
      edges = le_of_eq (sym (room-long 8192 c.zeros-edges.ensures));
      paths = c.requires.full_letters_in_bounds.2;
      counts = le_of_eq (sym (room-long 16 c.zeros-counts.ensures));
    } in
    record {
      graph = c.requires.some_graph.parsed.graph;
      holds = graph-held _ own _ c.read_graph-g.result (λ i. (c.type_inv.graph i).fits) full c.read_graph-g.ensures c.requires.some_graph.parsed c.requires.some_graph.found;
    }

pub slice_bounds-make_tables-end : goal.slice_bounds-make_tables-end
slice_bounds-make_tables-end c =
    let own : Buffers = record { letters = c.args.letters.now; lengths = c.args.lengths.now; edges = c.zeros-edges.result; paths = c.args.paths.now; counts = c.zeros-counts.result } in
    let full : Full own = record {
      letters = c.requires.full_letters_in_bounds.0;
      lengths = c.requires.full_letters_in_bounds.1;
      edges = le_of_eq (sym (room-long 8192 c.zeros-edges.ensures));
      paths = c.requires.full_letters_in_bounds.2;
      counts = le_of_eq (sym (room-long 16 c.zeros-counts.ensures));
    } in
    let few = graph-few _ own _ c.read_graph-g.result (λ i. (c.type_inv.graph i).fits) full c.read_graph-g.ensures c.requires.some_graph.parsed c.requires.some_graph.found in
    omega (arith, few, c.requires.full_table_in_bounds.0)

pub slice_bounds-make_tables-end-2 : goal.slice_bounds-make_tables-end-2
slice_bounds-make_tables-end-2 c =
    let own : Buffers = record { letters = c.args.letters.now; lengths = c.args.lengths.now; edges = c.zeros-edges.result; paths = c.args.paths.now; counts = c.zeros-counts.result } in
    let full : Full own = record {
      letters = c.requires.full_letters_in_bounds.0;
      lengths = c.requires.full_letters_in_bounds.1;
      edges = le_of_eq (sym (room-long 8192 c.zeros-edges.ensures));
      paths = c.requires.full_letters_in_bounds.2;
      counts = le_of_eq (sym (room-long 16 c.zeros-counts.ensures));
    } in
    let few = graph-few _ own _ c.read_graph-g.result (λ i. (c.type_inv.graph i).fits) full c.read_graph-g.ensures c.requires.some_graph.parsed c.requires.some_graph.found in
    sym (length-take-le (16 * c.read_graph-g.result.vertices) c.args.reach.now (omega (arith, few, c.requires.full_table_in_bounds.0)))

pub slice_bounds-make_tables-end-3 : goal.slice_bounds-make_tables-end-3
slice_bounds-make_tables-end-3 c =
    let own : Buffers = record { letters = c.args.letters.now; lengths = c.args.lengths.now; edges = c.zeros-edges.result; paths = c.args.paths.now; counts = c.zeros-counts.result } in
    let full : Full own = record {
      letters = c.requires.full_letters_in_bounds.0;
      lengths = c.requires.full_letters_in_bounds.1;
      edges = le_of_eq (sym (room-long 8192 c.zeros-edges.ensures));
      paths = c.requires.full_letters_in_bounds.2;
      counts = le_of_eq (sym (room-long 16 c.zeros-counts.ensures));
    } in
    let few = graph-few _ own _ c.read_graph-g.result (λ i. (c.type_inv.graph i).fits) full c.read_graph-g.ensures c.requires.some_graph.parsed c.requires.some_graph.found in
    omega (arith, few, c.requires.full_table_in_bounds.1)

pub slice_bounds-make_tables-end-4 : goal.slice_bounds-make_tables-end-4
slice_bounds-make_tables-end-4 c =
    let own : Buffers = record { letters = c.args.letters.now; lengths = c.args.lengths.now; edges = c.zeros-edges.result; paths = c.args.paths.now; counts = c.zeros-counts.result } in
    let full : Full own = record {
      letters = c.requires.full_letters_in_bounds.0;
      lengths = c.requires.full_letters_in_bounds.1;
      edges = le_of_eq (sym (room-long 8192 c.zeros-edges.ensures));
      paths = c.requires.full_letters_in_bounds.2;
      counts = le_of_eq (sym (room-long 16 c.zeros-counts.ensures));
    } in
    let few = graph-few _ own _ c.read_graph-g.result (λ i. (c.type_inv.graph i).fits) full c.read_graph-g.ensures c.requires.some_graph.parsed c.requires.some_graph.found in
    sym (length-take-le (16 * c.read_graph-g.result.vertices) c.args.distance.now (omega (arith, few, c.requires.full_table_in_bounds.1)))

pub slice_bounds-make_tables-end-5 : goal.slice_bounds-make_tables-end-5
slice_bounds-make_tables-end-5 c =
    let own : Buffers = record { letters = c.args.letters.now; lengths = c.args.lengths.now; edges = c.zeros-edges.result; paths = c.args.paths.now; counts = c.zeros-counts.result } in
    let full : Full own = record {
      letters = c.requires.full_letters_in_bounds.0;
      lengths = c.requires.full_letters_in_bounds.1;
      edges = le_of_eq (sym (room-long 8192 c.zeros-edges.ensures));
      paths = c.requires.full_letters_in_bounds.2;
      counts = le_of_eq (sym (room-long 16 c.zeros-counts.ensures));
    } in
    let few = graph-few _ own _ c.read_graph-g.result (λ i. (c.type_inv.graph i).fits) full c.read_graph-g.ensures c.requires.some_graph.parsed c.requires.some_graph.found in
    omega (arith, few, c.requires.full_table_in_bounds.2)

pub slice_bounds-make_tables-end-6 : goal.slice_bounds-make_tables-end-6
slice_bounds-make_tables-end-6 c =
    let own : Buffers = record { letters = c.args.letters.now; lengths = c.args.lengths.now; edges = c.zeros-edges.result; paths = c.args.paths.now; counts = c.zeros-counts.result } in
    let full : Full own = record {
      letters = c.requires.full_letters_in_bounds.0;
      lengths = c.requires.full_letters_in_bounds.1;
      edges = le_of_eq (sym (room-long 8192 c.zeros-edges.ensures));
      paths = c.requires.full_letters_in_bounds.2;
      counts = le_of_eq (sym (room-long 16 c.zeros-counts.ensures));
    } in
    let few = graph-few _ own _ c.read_graph-g.result (λ i. (c.type_inv.graph i).fits) full c.read_graph-g.ensures c.requires.some_graph.parsed c.requires.some_graph.found in
    sym (length-take-le c.read_graph-g.result.vertices c.args.closed.now (omega (arith, few, c.requires.full_table_in_bounds.2)))

pub make_tables-requires : goal.make_tables-requires
make_tables-requires c =
    let own : Buffers = record { letters = c.args.letters.now; lengths = c.args.lengths.now; edges = c.zeros-edges.result; paths = c.args.paths.now; counts = c.zeros-counts.result } in
    let full : Full own = record {
      letters = c.requires.full_letters_in_bounds.0;
      lengths = c.requires.full_letters_in_bounds.1;
      edges = le_of_eq (sym (room-long 8192 c.zeros-edges.ensures));
      paths = c.requires.full_letters_in_bounds.2;
      counts = le_of_eq (sym (room-long 16 c.zeros-counts.ensures));
    } in
    let few = graph-few _ own _ c.read_graph-g.result (λ i. (c.type_inv.graph i).fits) full c.read_graph-g.ensures c.requires.some_graph.parsed c.requires.some_graph.found in
    let b = c.requires.full_table_in_bounds in
    record {
      reach_len = (
        length-take-le (16 * c.read_graph-g.result.vertices) c.args.reach.now (omega (arith, few, b.0)),
        length-take-le (16 * c.read_graph-g.result.vertices) c.args.distance.now (omega (arith, few, b.1)),
        length-take-le c.read_graph-g.result.vertices c.args.closed.now (omega (arith, few, b.2)),
      );
    }

pub returns : goal.returns
returns c =
    λ p e.
    let own : Buffers = record { letters = c.args.letters.now; lengths = c.args.lengths.now; edges = c.zeros-edges.result; paths = c.args.paths.now; counts = c.zeros-counts.result } in
    let full : Full own = record {
      letters = c.requires.full_letters_in_bounds.0;
      lengths = c.requires.full_letters_in_bounds.1;
      edges = le_of_eq (sym (room-long 8192 c.zeros-edges.ensures));
      paths = c.requires.full_letters_in_bounds.2;
      counts = le_of_eq (sym (room-long 16 c.zeros-counts.ensures));
    } in
    let x = c.make_tables.new.reach in
    let y = c.make_tables.new.distance in
    let z = c.make_tables.new.closed in
    let C = graph-held _ own _ c.read_graph-g.result (λ i. (c.type_inv.graph i).fits) full c.read_graph-g.ensures p e in
    let T = c.make_tables.ensures p.graph C in
    tables-front x y z _ _ _ (T.closed_size ∙ C.vertices)
    (tables_lie C (graph-paths _ own _ c.read_graph-g.result (λ i. (c.type_inv.graph i).fits) full c.read_graph-g.ensures p e) (made x y z c.make_tables.result) T)
