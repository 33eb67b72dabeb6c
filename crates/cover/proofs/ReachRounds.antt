-- Reach: from the own positions the rounds settle, within n, at the reach that walks define. Assumes nothing.
use Prim.Native.Nat.{ℕ, zero, suc, ◌+◌, ◌≤◌}
use mathlib.Core.Path.{◌≡◌, refl, subst, ◌∙◌}
use mathlib.Core.Logic.{◌⊎◌, inl, inr}
use mathlib.Core.List.{List}
use native.Mathlib.Nat.{le_trans, le_refl}
use native.Mathlib.Decide.{ℕ_discrete}
use native.Mathlib.Omega.{arith}
use lib.ListN.{length}
use Rattle.wire.specs.Sizes.{table_row}
use Rattle.rounds.specs.Rounds.{Within, Rounds}
use Rattle.rounds.specs.Place.{cell_place}
use Rattle.rounds.specs.Table.{table_round}
use Rattle.rounds.specs.Best.{Derived, start, along, Best}
use Rattle.rounds.specs.Loop.{Settles}
use Rattle.rounds.proofs.Upto.{within, within_none, within-last, within-suc, step_down, ite_cases}
use Rattle.rounds.proofs.Counts.{settles_map, settles_as}
use Rattle.rounds.proofs.Fits.{greatest_fit}
use Rattle.rounds.proofs.Table.{sixteen_settles, empty_columns}
use Rattle.graph.specs.Content.{Graph, vertex_count}
use Rattle.graph.specs.Good.{GoodGraph}
use Rattle.cover.specs.Walks.{L, Walk, here, more}
use Rattle.cover.specs.Cells.{vertex, Hits, IsReach}
use Rattle.cover.specs.CoverDistance.{path_at}
use Rattle.cover.specs.TableRounds.{own, edge_links, reach_column, reach_start, reach_round}
use Rattle.cover.specs.Finished.{ReachTable}
use Rattle.cover.proofs.GoodLaws.{edge-from, path-none}
use Rattle.cover.proofs.TableLaws.{table_size, table_cell}

-- ---- own: the last position of v on the path

module _ (p : List ℕ) (v : ℕ) where
  own_ge : (k j : ℕ) → Within k j → vertex p j ≡ v → j ≤ own p v k
  unfolding own
  own_ge zero j w e = absurd (within_none w)
  own_ge (suc k) j w e = ite_cases (λ r. j ≤ r) (ℕ_discrete (vertex p (suc k)) v) (λ _. w.high)
      (λ h. own_ge k j (step_down (λ i. vertex p i ≡ v) w e h) e)

  own_sound : (k : ℕ) → (own p v k ≡ 0) ⊎ (Within k (own p v k) × (vertex p (own p v k) ≡ v))
  unfolding own
  own_sound zero = inl refl
  own_sound (suc k) = ite_cases (λ r. (r ≡ 0) ⊎ (Within (suc k) r × (vertex p r ≡ v))) (ℕ_discrete (vertex p (suc k)) v)
      (λ e. inr (within-last k, e)) (λ _. up (own_sound k))
    where
      up : {r : ℕ} → (r ≡ 0) ⊎ (Within k r × (vertex p r ≡ v)) → (r ≡ 0) ⊎ (Within (suc k) r × (vertex p r ≡ v))
      up (inl z) = inl z
      up (inr (w, q)) = inr (within-suc w, q)

  pub own-few : (k : ℕ) → own p v k ≤ k
  own-few k = go (own_sound k)
    where
      go : {r : ℕ} → (r ≡ 0) ⊎ (Within k r × (vertex p r ≡ v)) → r ≤ k
      go (inl z) = omega arith
      go (inr (w, _)) = w.high

-- ---- the best derived value is the reach

module _ (g : Graph) (p : List ℕ) where
  derived_hits : {v x : ℕ} → Derived (reach_column g p) v x → (x ≡ 0) ⊎ Hits g p v x
  derived_hits (start {v = v}) = go (own_sound p v (length p))
    where
      go : {r : ℕ} → (r ≡ 0) ⊎ (Within (length p) r × (vertex p r ≡ v)) → (r ≡ 0) ⊎ Hits g p v r
      go (inl z) = inl z
      go {r} (inr (w, q)) = inr (record { on = w; far = 0; walk = subst (λ (u : ℕ). Walk g (vertex p r) u 0) q here })
  derived_hits (along {u = u} {v = v} {x = x} d a) = go (derived_hits d)
    where
      go : (x ≡ 0) ⊎ Hits g p u x → (x ≡ 0) ⊎ Hits g p v x
      go (inl z) = inl z
      go (inr h) = inr (record {
        on = h.on;
        far = h.far + L g u;
        walk = more h.walk (record { number = a.e; listed = a.listed; leaves = a.leaves; enters = a.enters });
      })

  walk-derived : {u v l : ℕ} → Walk g u v l → Derived (reach_column g p) v (own p u (length p))
  walk-derived here = start
  walk-derived (more w a) = along (walk-derived w) (record { e = a.number; listed = a.listed; leaves = a.leaves; enters = a.enters })

  pub best-reach : {v x : ℕ} → Best (reach_column g p) v x → IsReach g p v x
  best-reach b = record {
    attained = derived_hits b.derived;
    greatest = λ j h. le_trans (own_ge p _ (length p) j h.on refl) (b.top _ (walk-derived h.walk));
  }

-- a reach is a position, or 0
pub reach-within : {g : Graph} {p : List ℕ} {v r : ℕ} → IsReach g p v r → r ≤ length p
reach-within {g} {p} {v} {r} a = go a.attained
  where
    go : (r ≡ 0) ⊎ Hits g p v r → r ≤ length p
    go (inl z) = omega arith
    go (inr h) = h.on.high

-- a round of all sixteen columns
abbrev pub reach_sixteen : Graph → List ℕ → List ℕ
reach_sixteen g = table_round cell_place (λ i. (reach_column g (path_at g i)).rule) table_row (vertex_count g)

module _ {g : Graph} (G : GoodGraph g) where
  -- THE REACH TABLE of a good graph: from the own positions its rounds are 1 to n, and leave every cell its reach
  pub reach_sixteen_lem : Settles (vertex_count g) (reach_sixteen g) (ReachTable g (path_at g)) (reach_start g)
  reach_sixteen_lem = settles_map (λ t f. record { size = f.long ∙ table_size n starts; cells = λ v i w k. best-reach g (path_at g i) (f.final v i w k) })
      (sixteen_settles n table_row (λ i. reach_column g (path_at g i)) (reach_start g) (omega arith) (le_refl table_row) (omega (arith, table_size n starts))
      (λ i k. greatest_fit n (edge_links g) G.some_vertex (edge-from G) (λ v. starts v i)) (table_cell n starts))
    where
      n : ℕ
      n = vertex_count g

      starts : ℕ → ℕ → ℕ
      starts v i = own (path_at g i) v (length (path_at g i))

  -- the rounds of sixteen columns are those of the K paths that are there
  pub reach_by_paths : {k : ℕ} {t : List ℕ} → Rounds (reach_sixteen g) (reach_start g) k t → Rounds (reach_round g) (reach_start g) k t
  reach_by_paths =
      empty_columns (vertex_count g) _ (λ i. (reach_column g (path_at g i)).rule) (omega (arith, G.few_paths)) (λ i. edge-from G) (λ i v e. refl) (λ i. refl)
      (λ v i w l h. table_cell (vertex_count g) (λ v i. own (path_at g i) v (length (path_at g i))) v i w (within (omega arith) h) ∙ omega (arith, own-few (path_at g i) v (length (path_at g i)), path-none g i (omega arith)))

  pub reach_settles : Settles (vertex_count g) (reach_round g) (ReachTable g (path_at g)) (reach_start g)
  reach_settles = settles_as (λ k t r. reach_by_paths r) reach_sixteen_lem
