-- Document 01's worked cases of the tables and distances. Assumes nothing.
use Prim.Native.Nat.{ℕ, ◌≤◌}
use mathlib.Core.Path.{refl}
use mathlib.Core.Logic.Dec
use mathlib.Core.List.{List, ◌∷◌, ◌++◌}
use native.Mathlib.Nat.{le_refl}
use native.Mathlib.Decide.{ℕ_discrete}
use native.Mathlib.Omega.{arith}
use lib.ListN.{replicate}
use Rattle.wire.specs.Sizes.{table_row}
use Rattle.rounds.specs.Rounds.{Within, sweep, Rounds}
use Rattle.rounds.specs.Gather.{gather}
use Rattle.rounds.specs.Rule.{value}
use Rattle.rounds.specs.Place.{cell_place}
use Rattle.rounds.specs.Table.{cell, entry, cell_step, row_step}
use Rattle.rounds.specs.Kinds.{shift, closer}
use Rattle.rounds.proofs.Upto.{within, within_none, upto-suc}
use Rattle.rounds.proofs.Counts.{run_shows, run, list?, settled}
use Rattle.graph.specs.Content.{Graph}
use Rattle.graph.specs.Good.{GoodGraph}
use Rattle.cover.specs.Walks.{L, from, to}
use Rattle.cover.specs.Cells.{vertex, IsClosed}
use Rattle.cover.specs.CoverDistance.{path_at, IsCover}
use Rattle.cover.specs.TableRounds.{row_of, table_of, own, home, reach_start, reach_round, distance_start, distance_round}
use Rattle.cover.specs.TableEntries.{IsTables}
use Rattle.cover.specs.Row.{unknown, put, below, back, backs}
use Rattle.cover.specs.LeastWalks.{walk_start, walk_round, WalkTable, round_trip, closed_by}
use Rattle.cover.specs.Worked.{two, g1, g1_tables, g2, g2_tables}
use Rattle.cover.proofs.GoodLaws.{edge-from}
use Rattle.cover.proofs.RowLaws.{unknown-entry}
use Rattle.cover.proofs.CoverLaws.{row_is}
use Rattle.cover.proofs.ClosedRounds.{walks_settle, closed_is_lem}
use Rattle.cover.proofs.TablesThere.{tables-made, reach-cells, distance-cells}
use Rattle.cover.proofs.WorkedGood.{g1-good, g2-good}

-- a row of least walks from vertices 1 to 4
abbrev four : ℕ → ℕ → ℕ → ℕ → List ℕ
four a b c d = a ∷ b ∷ c ∷ d ∷ replicate 12 0

-- closed walks, by a table of the least walks from vertices 1 to 16
closed_by_lem : {g : Graph} (G : GoodGraph g) (t : List ℕ) → WalkTable g (λ i. i) t → (v : ℕ) → Within table_row v → IsClosed g v (closed_by g (λ u. cell cell_place u v t) v)
closed_by_lem {g} G t T v k = closed_is_lem g (edge-from G) v (λ u. cell cell_place u v t) (λ u w. T.cells u v w k)

-- ---- G1

g1-reach : Rounds (reach_round g1) (reach_start g1) 2 g1_tables.reach
unfolding run sweep row_step cell_step value gather ℕ_discrete list? row_of table_of own vertex path_at from to
g1-reach = run_shows (reach_round g1) (list? ℕ_discrete) 3 (reach_start g1) (le_refl 3)

g1-distance : Rounds (distance_round g1 g1_tables.reach) (distance_start g1 g1_tables.reach) 2 (two 1 1 ++ two 1 3 ++ two 3 1 ++ two 1 1)
unfolding run sweep row_step cell_step value gather ℕ_discrete list? row_of table_of Dec.and home vertex path_at from to L shift closer
g1-distance = run_shows (distance_round g1 g1_tables.reach) (list? ℕ_discrete) 3 (distance_start g1 g1_tables.reach) (le_refl 3)

g1_walks : Rounds (walk_round g1) (walk_start g1 (λ i. i)) 2 (four 1 0 0 0 ++ four 3 1 0 0 ++ four 3 0 1 0 ++ four 4 2 3 1)
unfolding run sweep row_step cell_step value gather ℕ_discrete list? row_of table_of Dec.and home vertex from to L shift closer
g1_walks = run_shows (walk_round g1) (list? ℕ_discrete) 3 (walk_start g1 (λ i. i)) (le_refl 3)

g1-closed : (v : ℕ) → Within 4 v → IsClosed g1 v (entry v g1_tables.closed)
unfolding round_trip gather ℕ_discrete from to L shift closer
g1-closed = upto-suc {P = P} 3 (upto-suc {P = P} 2 (upto-suc {P = P} 1 (upto-suc {P = P} 0 (λ v w. absurd (within_none w)) (at 1 (omega arith) (omega arith))) (at 2 (omega arith) (omega arith))) (at 3 (omega arith) (omega arith))) (at 4 (omega arith) (omega arith))
  where
    P : ℕ → Type 0
    P v = IsClosed g1 v (entry v g1_tables.closed)

    t : List ℕ
    t = four 1 0 0 0 ++ four 3 1 0 0 ++ four 3 0 1 0 ++ four 4 2 3 1

    at : (v : ℕ) → 1 ≤ v → v ≤ 16 → IsClosed g1 v (closed_by g1 (λ u. cell cell_place u v t) v)
    at v l h = closed_by_lem g1-good t (settled (walks_settle g1-good (λ i. i)) g1_walks).2 v (within l h)

pub g1-tables : IsTables g1 g1_tables
g1-tables = tables-made g1-good g1-reach g1-distance refl g1-closed

-- ---- G2

g2-reach : Rounds (reach_round g2) (reach_start g2) 2 g2_tables.reach
unfolding run sweep row_step cell_step value gather ℕ_discrete list? row_of table_of own vertex path_at from to
g2-reach = run_shows (reach_round g2) (list? ℕ_discrete) 3 (reach_start g2) (le_refl 3)

g2-distance : Rounds (distance_round g2 g2_tables.reach) (distance_start g2 g2_tables.reach) 2 (two 1 0 ++ two 2 0 ++ two 1 0)
unfolding run sweep row_step cell_step value gather ℕ_discrete list? row_of table_of Dec.and home vertex path_at from to L shift closer
g2-distance = run_shows (distance_round g2 g2_tables.reach) (list? ℕ_discrete) 3 (distance_start g2 g2_tables.reach) (le_refl 3)

g2_walks : Rounds (walk_round g2) (walk_start g2 (λ i. i)) 2 (four 1 0 0 0 ++ four 2 1 2 0 ++ four 4 3 1 0)
unfolding run sweep row_step cell_step value gather ℕ_discrete list? row_of table_of Dec.and home vertex from to L shift closer
g2_walks = run_shows (walk_round g2) (list? ℕ_discrete) 3 (walk_start g2 (λ i. i)) (le_refl 3)

g2-closed : (v : ℕ) → Within 3 v → IsClosed g2 v (entry v g2_tables.closed)
unfolding round_trip gather ℕ_discrete from to L shift closer
g2-closed = upto-suc {P = P} 2 (upto-suc {P = P} 1 (upto-suc {P = P} 0 (λ v w. absurd (within_none w)) (at 1 (omega arith) (omega arith))) (at 2 (omega arith) (omega arith))) (at 3 (omega arith) (omega arith))
  where
    P : ℕ → Type 0
    P v = IsClosed g2 v (entry v g2_tables.closed)

    t : List ℕ
    t = four 1 0 0 0 ++ four 2 1 2 0 ++ four 4 3 1 0

    at : (v : ℕ) → 1 ≤ v → v ≤ 16 → IsClosed g2 v (closed_by g2 (λ u. cell cell_place u v t) v)
    at v l h = closed_by_lem g2-good t (settled (walks_settle g2-good (λ i. i)) g2_walks).2 v (within l h)

pub g2-tables : IsTables g2 g2_tables
g2-tables = tables-made g2-good g2-reach g2-distance refl g2-closed

-- "G2, read ACC, ..: cover distance 4": from vertex 1 to vertex 2
pub g2_cover : IsCover g2 1 2 4
unfolding unknown put below back backs path_at vertex L closer
g2_cover = ((row_is g2-good (reach-cells g2-tables) (distance-cells g2-tables) 2 (within (omega arith) (omega arith)) (unknown 3) (le_refl 3) (λ u _. unknown-entry 3 u)).entries 1 (within (omega arith) (omega arith))).some 4 refl
