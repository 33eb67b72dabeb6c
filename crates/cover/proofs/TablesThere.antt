-- A good graph has its least walks, its closed walks and its tables, and the bounds on them. Assumes nothing.
use Prim.Native.Nat.{ℕ, zero, suc, ◌+◌, ◌≤◌}
use mathlib.Core.Path.{◌≡◌, refl, sym, ap, ◌∙◌}
use mathlib.Core.Logic.{◌⊎◌, inl, inr}
use mathlib.Core.List.{List, [], ◌∷◌}
use native.Mathlib.Nat.{le_refl, le_antisymm}
use native.Mathlib.Omega.{arith}
use lib.ListN.{length}
use Rattle.wire.specs.Sizes.{table_row, most_letters}
use Rattle.rounds.specs.Rounds.{Within, Rounds}
use Rattle.rounds.specs.Place.{cell_place}
use Rattle.rounds.specs.Table.{cell, cell_step, entry}
use Rattle.rounds.proofs.Upto.{within}
use Rattle.rounds.proofs.Counts.{settled}
use Rattle.rounds.proofs.InPlace.{Keeps, leaves}
use Rattle.rounds.proofs.Table.{row_keeps}
use Rattle.graph.specs.Content.{Graph, vertex_count}
use Rattle.graph.specs.Good.{GoodGraph}
use Rattle.cover.specs.Walks.{L, Goes}
use Rattle.cover.specs.Cells.{IsClosed}
use Rattle.cover.specs.CoverDistance.{path_at}
use Rattle.cover.specs.Finished.{ReachTable, DistanceTable}
use Rattle.cover.specs.TableRounds.{row_of, reach_start, reach_round, distance_start, distance_round, known}
use Rattle.cover.specs.TableEntries.{Tables, IsTables}
use Rattle.cover.specs.LeastWalks.{IsLeast, walk_rule, walk_start, walk_round, closed_by}
use Rattle.cover.proofs.GoodLaws.{edge-from}
use Rattle.cover.proofs.TableLaws.{row-size, row-entry}
use Rattle.cover.proofs.ReachRounds.{reach_settles}
use Rattle.cover.proofs.DistanceRounds.{distance_settles}
use Rattle.cover.proofs.LowTables.{LowTable, low_keeps, low_begins, low-entry}
use Rattle.cover.proofs.WalkLaws.{joined_from}
use Rattle.cover.proofs.ClosedRounds.{walks_settle, closed_is_lem}

-- there is one least walk
pub least-one : {g : Graph} {w v x y : ℕ} → IsLeast g w v x → IsLeast g w v y → x ≡ y
least-one {g} {w} {v} {x} {y} a b = go x y refl refl
  where
    go : (i j : ℕ) → x ≡ i → y ≡ j → x ≡ y
    go zero zero p q = p ∙ sym q
    go zero (suc j) p q = absurd (a.none p j (b.some j q))
    go (suc i) zero p q = absurd (b.none q i (a.some i p))
    go (suc i) (suc j) p q = p ∙ ap suc (le_antisymm (a.least i j p (b.some j q)) (b.least j i q (a.some i p))) ∙ sym q

-- the tables of a graph are finished
pub reach-cells : {g : Graph} {t : Tables} → IsTables g t → ReachTable g (path_at g) t.reach
reach-cells a = record { size = a.reach_size; cells = a.reach_cells }

pub distance-cells : {g : Graph} {t : Tables} → IsTables g t → DistanceTable g (path_at g) t.reach t.distance
distance-cells a = record { size = a.distance_size; cells = a.distance_cells }

module _ {g : Graph} (G : GoodGraph g) where
  -- every state of the rounds of least walks is low: at the start, after each step, and at the end
  pub walk_begins : (w : ℕ → ℕ) → LowTable g (walk_start g w)
  walk_begins w = low_begins g (λ i. w i ∷ []) (λ _ _. 1)

  pub walk_keeps : (v : ℕ) → Within (vertex_count g) v → Keeps table_row (cell_step cell_place (λ _. walk_rule g) v) (LowTable g)
  walk_keeps = low_keeps g (edge-from G) (λ _ _. 1)

  pub walk_ends : (w : ℕ → ℕ) {k : ℕ} {t : List ℕ} → Rounds (walk_round g) (walk_start g w) k t → LowTable g t
  walk_ends w r = leaves (vertex_count g) _ (LowTable g) (row_keeps cell_place _ (vertex_count g) table_row (LowTable g) walk_keeps) r (walk_begins w)

  -- the entries of the least walks from w
  least_from : ℕ → ℕ → ℕ
  least_from w v = cell cell_place v 1 (walks_settle G (λ _. w)).last

  least-there : (w v : ℕ) → Within (vertex_count g) v → IsLeast g w v (least_from w v)
  unfolding least_from
  least-there w v k = (walks_settle G (λ _. w)).done.cells v 1 k (within (le_refl 1) (omega arith))

  -- a least walk to v, with the label of v, is no longer than all labels may be
  pub least-few : {w v d : ℕ} → Within (vertex_count g) v → IsLeast g w v (suc d) → d + L g v ≤ most_letters
  unfolding least_from
  least-few {w} {v} {d} k a = go (low-entry G (walk_ends (λ _. w) (walks_settle G (λ _. w)).rounds) v 1 k (within (le_refl 1) (omega arith)))
    where
      same : suc d ≡ least_from w v
      same = least-one a (least-there w v k)

      go : (least_from w v ≡ 0) ⊎ (least_from w v + L g v ≤ most_letters + 1) → d + L g v ≤ most_letters
      go (inl z) = absurd (omega (arith, same))
      go (inr h) = omega (arith, same)

  -- the closed walk of a vertex
  pub closed_walk : ℕ → ℕ
  closed_walk v = closed_by g (least_from v) v

  pub closed-there : (v : ℕ) → IsClosed g v (closed_walk v)
  unfolding closed_walk
  closed-there v = closed_is_lem g (edge-from G) v (least_from v) (least-there v)

  -- a closed walk is no longer than all labels may be
  pub closed-few : {v d : ℕ} → IsClosed g v d → d ≤ most_letters
  closed-few {v} {d} c = go c.attained
    where
      at : (x : Goes g v v d) (y : ℕ) → least_from v x.last ≡ y → d ≤ most_letters
      at x zero e = absurd ((least-there v x.last (joined_from G x.edge)).none e x.before x.walk)
      at x (suc k) e =
          let a : IsLeast g v x.last (suc k) = rw e at (least-there v x.last (joined_from G x.edge)) in
          omega (arith, c.least (k + L g x.last) (record { last = x.last; before = k; walk = a.some k refl; edge = x.edge; long = refl }), least-few (joined_from G x.edge) a)

      go : ((d ≡ 0) × ((l : ℕ) → Goes g v v l → ⊥)) ⊎ Goes g v v d → d ≤ most_letters
      go (inl z) = omega arith
      go (inr x) = at x (least_from v x.last) refl

  -- what the rounds leave, with the closed walks, are the tables
  pub tables-made : {r d c : List ℕ} {j k : ℕ} → Rounds (reach_round g) (reach_start g) j r → Rounds (distance_round g r) (distance_start g r) k d
      → length c ≡ vertex_count g → ((v : ℕ) → Within (vertex_count g) v → IsClosed g v (entry v c))
      → IsTables g (record { reach = r; distance = known d; closed = c; reach_rounds = j; distance_rounds = k })
  tables-made {r} {d} {c} {j} {k} x y l z =
      let (_, jn, R) = settled (reach_settles G) x in
      let (_, kn, D) = settled (distance_settles G R) y in
      record {
        reach_size = R.size;
        reach_cells = R.cells;
        distance_size = D.size;
        distance_cells = D.cells;
        closed_size = l;
        closed_cells = z;
        reach_count = x;
        reach_few = jn;
        entries = d;
        distance_count = y;
        distance_few = kn;
        distance_known = refl;
      }

  -- THE TABLES of a good graph are there
  pub tables-there : (t : Tables) × IsTables g t
  tables-there =
      let r = reach_settles G in
      let d = distance_settles G r.done in
      (_, tables-made {c = row_of (vertex_count g) closed_walk} r.rounds d.rounds (row-size (vertex_count g) closed_walk) (λ v w. rw (row-entry (vertex_count g) closed_walk v w) (closed-there v)))
