use Prim.Native.Nat.{ℕ}
use mathlib.Core.List.{List}
use Rattle.rounds.specs.Rounds.{Rounds}
use Rattle.rounds.specs.Loop.{Ends}
use Rattle.cover.specs.TableEntries.{IsTables}
use Rattle.table_rounds.specs.Held.{raise_round, near, near_round, Settling}
use Rattle.tables_make.proofs.Meaning.{holds-paths, holds-ends, holds-few, holds-settling, holds_closable, holds-tables}
use mathlib.Core.Path.{sym, ◌∙◌, subst}
use Rattle.tables_make.proofs.make.fill_tables.Goals as goal

pub start_reach-requires-clause-paths_held : goal.start_reach-requires-clause-paths_held
start_reach-requires-clause-paths_held c = rw c.vertices-n.ensures (holds-paths c.requires.content.holds)

pub settle-a-requires-clause-ends : goal.settle-a-requires-clause-ends
settle-a-requires-clause-ends c =
    let e = c.args.edges.now in
    subst (Ends e.n (raise_round e.n e.m e.list)) (sym (rw c.vertices-n.ensures at c.start_reach.ensures)) (holds-ends c.requires.content.holds)

pub start_distance-requires-clause-by_index : goal.start_distance-requires-clause-by_index
start_distance-requires-clause-by_index c =
    let e = c.args.edges.now in
    holds-few c.requires.content.holds (subst (λ (s : List ℕ). Rounds (raise_round e.n e.m e.list) s c.settle-a.result c.settle-a.new.table) (rw c.vertices-n.ensures at c.start_reach.ensures) c.settle-a.ensures)

pub settle-b-requires-clause-ends : goal.settle-b-requires-clause-ends
settle-b-requires-clause-ends c =
    let e = c.args.edges.now in
    let r = subst (λ (s : List ℕ). Rounds (raise_round e.n e.m e.list) s c.settle-a.result c.settle-a.new.table) (rw c.vertices-n.ensures at c.start_reach.ensures) c.settle-a.ensures in
    (subst (Settling e.n c.args.lengths.now (near e.m c.args.lengths.now e.list c.settle-a.new.table)) (sym (rw c.vertices-n.ensures at c.start_distance.ensures)) (holds-settling c.requires.content.holds r)).ends

pub settle-b-requires-clause-fits : goal.settle-b-requires-clause-fits
settle-b-requires-clause-fits c =
    let e = c.args.edges.now in
    let r = subst (λ (s : List ℕ). Rounds (raise_round e.n e.m e.list) s c.settle-a.result c.settle-a.new.table) (rw c.vertices-n.ensures at c.start_reach.ensures) c.settle-a.ensures in
    let S = subst (Settling e.n c.args.lengths.now (near e.m c.args.lengths.now e.list c.settle-a.new.table)) (sym (rw c.vertices-n.ensures at c.start_distance.ensures)) (holds-settling c.requires.content.holds r) in
    λ k v h. (c.requires.content.holds.label_room, c.settle-a.auto.table ∙ c.start_reach.auto.table ∙ c.requires.reach_len.0, S.fitting k v h)

pub closed_walks-requires-clause-closable : goal.closed_walks-requires-clause-closable
closed_walks-requires-clause-closable c = holds_closable c.requires.content.holds

pub returns : goal.returns
returns c =
    λ g H.
    let e = c.args.edges.now in
    let r = subst (λ (s : List ℕ). Rounds (raise_round e.n e.m e.list) s c.settle-a.result c.settle-a.new.table) (rw c.vertices-n.ensures at c.start_reach.ensures) c.settle-a.ensures in
    let d = subst (λ (s : List ℕ). Rounds (near_round e.n e.m c.args.lengths.now e.list c.settle-a.new.table) s c.settle-b.result c.settle-b.new.table) (rw c.vertices-n.ensures at c.start_distance.ensures) c.settle-b.ensures in
    subst (λ (t : List ℕ). IsTables g (record { reach = c.settle-a.new.table; distance = t; closed = c.closed_walks.new.closed; reach_rounds = c.settle-a.result; distance_rounds = c.settle-b.result })) (sym c.finish_distance.ensures)
    (holds-tables H r d (c.closed_walks.auto.closed ∙ c.requires.reach_len.2) c.closed_walks.ensures)
