use Rattle.std.proofs.Common.{sym, arith}
use Rattle.graph.proofs.Faulty.{graph-fault}
use Rattle.graph_read.proofs.Replying.{lent, room, fault-found, small-answered, fault-answered, ready, roomy_full, accepted-answered}
use Rattle.graph_read.proofs.read_graph.Goals as goal

pub returns-then-not-roomy : goal.returns-then-not-roomy
returns-then-not-roomy c =
    let a = c.args in
    small-answered _ (lent a.letters.now a.lengths.now a.edges.now a.paths.now a.counts.now) _ (room (lent a.letters.now a.lengths.now a.edges.now a.paths.now a.counts.now) c.roomy.ensures c.if-not-roomy.true) c.refusal.ensures

pub overflow_cast-fault : goal.overflow_cast-fault
overflow_cast-fault c = omega (arith, (graph-fault _ _ _ (fault-found _ _ _ (sym c.in-Err.ensures))).near)

pub fill_labels-requires : goal.fill_labels-requires
fill_labels-requires c =
    let a = c.args in
    let f = ready _ _ (sym c.in-Ok.ensures) in
    let r = roomy_full _ (room (lent a.letters.now a.lengths.now a.edges.now a.paths.now a.counts.now) c.roomy.ensures c.if-not-roomy.false) in
    record { start_value = f.labels_taken; n_le_full_lengths = (f.few_vertices, r.letters, r.lengths) }

pub fill_edges-requires : goal.fill_edges-requires
fill_edges-requires c =
    let a = c.args in
    ((ready _ _ (sym c.in-Ok.ensures)).few_edges, (roomy_full _ (room (lent a.letters.now a.lengths.now a.edges.now a.paths.now a.counts.now) c.roomy.ensures c.if-not-roomy.false)).edges)

pub fill_paths-requires : goal.fill_paths-requires
fill_paths-requires c =
    let a = c.args in
    let f = ready _ _ (sym c.in-Ok.ensures) in
    let r = roomy_full _ (room (lent a.letters.now a.lengths.now a.edges.now a.paths.now a.counts.now) c.roomy.ensures c.if-not-roomy.false) in
    record { all = f.paths_fit; k_le_full_counts = (f.few_paths, r.paths, r.counts) }

pub returns-in-Err : goal.returns-in-Err
returns-in-Err c =
    let a = c.args in
    fault-answered _ (lent a.letters.now a.lengths.now a.edges.now a.paths.now a.counts.now) _ _ _ (room (lent a.letters.now a.lengths.now a.edges.now a.paths.now a.counts.now) c.roomy.ensures c.if-not-roomy.false)
    (fault-found _ _ _ (sym c.in-Err.ensures))
    (rw c.from.ensures at c.refusal-in-Err.ensures)

pub returns-in-Ok : goal.returns-in-Ok
returns-in-Ok c =
    let a = c.args in
    accepted-answered _ (lent a.letters.now a.lengths.now a.edges.now a.paths.now a.counts.now) c.in-Ok.s _ _ _ _ _ _
    (room (lent a.letters.now a.lengths.now a.edges.now a.paths.now a.counts.now) c.roomy.ensures c.if-not-roomy.false)
    (ready _ _ (sym c.in-Ok.ensures))
    c.fill_labels.ensures.0
    c.fill_labels.ensures.1
    c.fill_edges.ensures
    c.fill_paths.ensures.0
    c.fill_paths.ensures.1
    c.acceptance.ensures
