-- Tables made of content that lies in buffers.
use Rattle.std.specs.Prelude.{ℕ, List}
use Rattle.graph.specs.Content.{Graph}
use Rattle.cover.specs.TableEntries.{Tables}
use Rattle.table_rounds.specs.Held.{Holds}
use Rattle.tables_make.specs.declared.make.TableRounds.{TableRounds}

-- the buffers hold the content of some graph that keeps every file rule
pub record Content (n m : ℕ) (lengths edges paths counts : List ℕ) : Type 0 where
  pub graph : Graph
  pub holds : Holds graph n m lengths edges paths counts

-- n vertices and m edges in buffers
pub record InBuffers : Type 0 where
  pub n : ℕ
  pub m : ℕ
  pub lengths : List ℕ
  pub edges : List ℕ
  pub paths : List ℕ
  pub counts : List ℕ

-- they hold the content of the graph g
abbrev pub Means : Graph → InBuffers → Type 0
Means g b = Holds g b.n b.m b.lengths b.edges b.paths b.counts

-- what the buffers hold afterwards, with the counts, as tables
abbrev pub made : List ℕ → List ℕ → List ℕ → TableRounds → Tables
made reach distance closed r = record { reach = reach; distance = distance; closed = closed; reach_rounds = r.reach; distance_rounds = r.distance }
