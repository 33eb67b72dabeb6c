-- A graph with its tables, at the front of their buffers, and the anchors of a file over it. Assumes nothing.
use Prim.Native.Nat.{ℕ, ◌≤◌}
use mathlib.Core.Path.{◌≡◌, sym}
use mathlib.Core.List.{List}
use native.Mathlib.Omega.{arith}
use lib.ListN.{length, take}
use lib.Seq.{length-take-le}
use Rattle.wire.specs.Sizes.{most_vertices}
use Rattle.graph.specs.Content.{Graph}
use Rattle.placing_over.specs.Lying.{TablesLie}

-- there are few vertices, so a front of a table is within it
pub few_lie : {g : Graph} {n k : ℕ} {lengths paths reach distance closed : List ℕ} → TablesLie g n k lengths paths reach distance closed → n ≤ most_vertices
few_lie T = omega (arith, T.good.few_vertices, T.vertices)

pub front_is : (n : ℕ) (room : List ℕ) → n ≤ length room → n ≡ length (take n room)
front_is n room h = sym (length-take-le n room h)
