use Rattle.cover.specs.TableRounds.{home}
use Rattle.table_starts.proofs.Starts.{home-none, home_here, home_away}
use lib.ListN.{drop}
use Prim.Native.Nat.{ℕ}
use mathlib.Core.Path.{sym, ap, ◌∙◌}
use native.Mathlib.Omega.{arith}
use Rattle.table_starts.proofs.distance.home_cell.Goals as goal

pub returns-then-r-eq0 : goal.returns-then-r-eq0
returns-then-r-eq0 c =
    let a = c.args in
    sym (ap (λ (x : ℕ). home (drop a.at a.paths.now) x a.v) (omega arith) ∙ home-none _ a.v)

pub returns-then-paths-at : goal.returns-then-paths-at
returns-then-paths-at c = let a = c.args in home_here a.paths.now a.at a.r a.v (omega arith) (omega arith)

pub returns-else-paths-at : goal.returns-else-paths-at
returns-else-paths-at c = let a = c.args in home_away a.paths.now a.at a.r a.v (omega arith) (omega arith)
