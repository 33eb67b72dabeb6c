-- Walks: joined, along a path, and how long they are at least. Assumes nothing.
use Prim.Native.Nat.{ℕ, zero, suc, ◌+◌, ◌-◌, ◌≤◌, zero-le}
use mathlib.Core.Path.{◌≡◌, refl, sym, ap, subst}
use mathlib.Core.Logic.{◌≢◌, ◌⊎◌, inl, inr}
use native.Mathlib.Omega.{arith}
use lib.ListN.{length}
use Rattle.rounds.specs.Rounds.{Within}
use Rattle.rounds.proofs.Upto.{within, total}
use Rattle.graph.specs.Content.{Graph, vertex_count, path_count}
use Rattle.graph.specs.Good.{GoodGraph}
use Rattle.cover.specs.Walks.{L, Joined, Walk, here, more, Goes}
use Rattle.cover.specs.Cells.{vertex}
use Rattle.cover.specs.CoverDistance.{path_at, along}
use Rattle.cover.proofs.GoodLaws.{edge-from, edge_to, path-vertex, path-step, path-rises, total_upto}
use Rattle.cover.proofs.DistanceRounds.{edge-source}
use Rattle.cover.proofs.RowLaws.{along-last}

module _ {g : Graph} where
  -- one walk after the other
  pub walk-join : {u v w k l : ℕ} → Walk g u v k → Walk g v w l → Walk g u w (k + l)
  walk-join {u} {v} {w} {k} a here = subst (Walk g u w) (omega arith) a
  walk-join {u} {k = k} a (more {v = x} {w = w} {l = l} b e) = subst (Walk g u w) (omega arith) (more (walk-join a b) e)

  -- a walk between different vertices is at least as long as its first label
  pub walk_first : {u v l : ℕ} → Walk g u v l → (u ≡ v) ⊎ (L g u ≤ l)
  walk_first here = inl refl
  walk_first {u = u} (more {v = x} {l = l} a e) = inr (go (walk_first a))
    where
      go : (u ≡ x) ⊎ (L g u ≤ l) → L g u ≤ l + L g x
      go (inl q) = omega (arith, ap (L g) q)
      go (inr h) = omega arith

  -- a walk is of no edges, or goes
  pub walk_goes : {u v l : ℕ} → Walk g u v l → u ≢ v → Goes g u v l
  walk_goes here h = absurd (h refl)
  walk_goes (more {v = x} {l = l} a e) h = record { last = x; before = l; walk = a; edge = e; long = refl }

  pub goes_walk : {u v l : ℕ} → Goes g u v l → Walk g u v l
  goes_walk {u} {v} x = subst (Walk g u v) (sym x.long) (more x.walk x.edge)

  -- a walk with an edge is at least as long as its first label: no gap is negative
  pub goes_first : {u v l : ℕ} → Goes g u v l → L g u ≤ l
  goes_first {u} {v} {l} x = go (walk_first x.walk)
    where
      go : (u ≡ x.last) ⊎ (L g u ≤ x.before) → L g u ≤ l
      go (inl e) = omega (arith, x.long, ap (L g) e)
      go (inr h) = omega (arith, x.long)

-- a sum to its last term
total_at : (f : ℕ → ℕ) (v : ℕ) → 1 ≤ v → total f (v - 1) + f v ≡ total f v
unfolding total
total_at f zero h = absurd (omega arith)
total_at f (suc j) h = let e : suc j - 1 ≡ j = omega arith in rw e

module _ {g : Graph} (G : GoodGraph g) where
  -- the two vertices of an edge are there
  pub joined_from : {u v : ℕ} → Joined g u v → Within (vertex_count g) u
  joined_from e = edge-source (edge-from G) e

  pub joined_to : {u v : ℕ} → Joined g u v → Within (vertex_count g) v
  joined_to e = subst (Within (vertex_count g)) e.enters (edge_to G e.number e.listed)

  -- a walk from a vertex leads to a vertex
  pub walk-to : {u v l : ℕ} → Walk g u v l → Within (vertex_count g) u → Within (vertex_count g) v
  walk-to here w = w
  walk-to (more a e) w = joined_to e

  -- a walk to another vertex is from a vertex
  walk-starts : {u v l : ℕ} → Walk g u v l → (u ≡ v) ⊎ Within (vertex_count g) u
  walk-starts here = inl refl
  walk-starts {u} (more {v = x} {w = w} a e) = go (walk-starts a)
    where
      go : (u ≡ x) ⊎ Within (vertex_count g) u → (u ≡ w) ⊎ Within (vertex_count g) u
      go (inl q) = inr (rw q (joined_from e))
      go (inr w) = inr w

  pub walk_from : {u v l : ℕ} → Walk g u v l → u ≢ v → Within (vertex_count g) u
  walk_from {u} {v} a h = go (walk-starts a)
    where
      go : (u ≡ v) ⊎ Within (vertex_count g) u → Within (vertex_count g) u
      go (inl e) = absurd (h e)
      go (inr w) = w

  module _ (i : ℕ) (k : Within (path_count g) i) where
    -- along a path, from position a by m positions
    pub walk-along : (a m : ℕ) → 1 ≤ a → a + m ≤ length (path_at g i) → Walk g (vertex (path_at g i) a) (vertex (path_at g i) (a + m)) (along g (path_at g i) a m)
    unfolding along
    walk-along a zero l h = let e : a + 0 ≡ a = omega arith in rw e here
    walk-along a (suc m) l h =
        let e : a + suc m ≡ a + m + 1 = omega arith in
        rw (along-last g (path_at g i) a m, e) (more (walk-along a m l (omega arith)) (path-step G i k (a + m) (omega arith) (omega arith)))

    -- a part of a path, which rises, is no longer than all labels
    along-below : (a m : ℕ) → 1 ≤ a → a + m ≤ length (path_at g i) → along g (path_at g i) a (suc m) + total (L g) (vertex (path_at g i) a - 1) ≤ total (L g) (vertex_count g)
    unfolding along
    along-below a zero l h =
        let w = path-vertex G i k a (within l (omega arith)) in
        omega (arith, total_at (L g) _ w.low, total_upto (L g) _ _ w.high)
    along-below a (suc m) l h =
        let w = path-vertex G i k a (within l (omega arith)) in
        let r = path-rises G i k a l (omega arith) in
        omega (arith, total_at (L g) _ w.low, along-below (a + 1) m (omega arith) (omega arith), total_upto (L g) (vertex (path_at g i) a) (vertex (path_at g i) (a + 1) - 1) (omega arith))

    pub along-few : (a m : ℕ) → 1 ≤ a → a + m ≤ suc (length (path_at g i)) → along g (path_at g i) a m ≤ total (L g) (vertex_count g)
    unfolding along
    along-few a zero l h = zero-le
    along-few a (suc m) l h = omega (arith, along-below a m l (omega arith))
