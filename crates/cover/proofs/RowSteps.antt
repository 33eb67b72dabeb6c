-- The sums of the way back along a path, in the code's numbers: none is large. Assumes nothing.
use Prim.Native.Nat.{ℕ, suc, ◌+◌, ◌-◌, ◌*◌, ◌≤◌, ◌<◌}
use mathlib.Core.Path.{◌≡◌}
use mathlib.Core.List.{List}
use native.Mathlib.Omega.{arith}
use Rattle.wire.specs.Sizes.{table_row, most_letters}
use Rattle.rounds.specs.Rounds.{Within}
use Rattle.rounds.specs.Place.{cell_place}
use Rattle.rounds.specs.Table.{cell}
use Rattle.rounds.proofs.Upto.{within}
use Rattle.graph.specs.Content.{Graph, vertex_count, path_count}
use Rattle.graph.specs.Good.{GoodGraph}
use Rattle.cover.specs.Walks.{L}
use Rattle.cover.specs.Cells.{vertex}
use Rattle.cover.specs.CoverDistance.{path_at, along}
use Rattle.cover.specs.Finished.{ReachTable, DistanceTable}
use Rattle.cover.proofs.GoodLaws.{labels-few}
use Rattle.cover.proofs.ReachRounds.{reach-within}
use Rattle.cover.proofs.WalkLaws.{along-few}
use Rattle.cover.proofs.CoverLaws.{distance-few}

-- the sum at any position of the way back is less than twice all labels
pub sum-few : {g : Graph} → GoodGraph g → {reach distance : List ℕ} → ReachTable g (path_at g) reach → DistanceTable g (path_at g) reach distance
    → (v i a : ℕ) → Within (vertex_count g) v → Within (path_count g) i → Within (cell cell_place v i reach) a
    → along g (path_at g i) a (cell cell_place v i reach - a) + cell cell_place v i distance < 2 * most_letters
sum-few {g} G {reach} {distance} R D v i a w k on =
    let k16 : Within table_row i = within k.low (omega (arith, G.few_paths)) in
    let c = R.cells v i w k16 in
    let l = reach-within c in
    omega (arith, distance-few G w k c (D.cells v i w k16), along-few G i k a (cell cell_place v i reach - a) on.low (omega arith), labels-few G)

-- and grows so: from position a + 1 to a
pub along-back : (g : Graph) (p : List ℕ) (a r : ℕ) → a + 1 ≤ r → along g p a (r - a) ≡ along g p (a + 1) (r - (a + 1)) + L g (vertex p a)
unfolding along
along-back g p a r h =
    let e : r - a ≡ suc (r - (a + 1)) = omega arith in
    rw e (omega arith)
