-- Distance: over a finished reach table the rounds settle, within n, at the distance that walks define. Assumes nothing.
use Prim.Native.Nat.{ℕ, zero, suc, ◌+◌, ◌-◌, ◌≤◌, zero-le}
use mathlib.Core.Path.{◌≡◌, refl, sym, ap, ◌∙◌, subst}
use mathlib.Core.Logic.{◌⊎◌, inl, inr}
use mathlib.Core.List.{List}
use native.Mathlib.Nat.{le_antisymm, le_refl}
use native.Mathlib.Decide.{ℕ_discrete}
use native.Mathlib.Omega.{arith}
use lib.ListN.{length}
use Rattle.wire.specs.Sizes.{table_row}
use Rattle.rounds.specs.Rounds.{Within, Rounds}
use Rattle.rounds.specs.Place.{cell_place}
use Rattle.rounds.specs.Table.{cell, table_round}
use Rattle.rounds.specs.Best.{Sources, Derived, start, along, Best}
use Rattle.rounds.specs.Kinds.{Near, shift, closer}
use Rattle.rounds.specs.Loop.{Settles}
use Rattle.rounds.proofs.Upto.{within, ite_cases}
use Rattle.rounds.proofs.Counts.{settles_map, settles_as}
use Rattle.rounds.proofs.Fits.{shift-known, least_fit}
use Rattle.rounds.proofs.Table.{sixteen_settles, empty_columns}
use Rattle.graph.specs.Content.{Graph, vertex_count}
use Rattle.graph.specs.Good.{GoodGraph}
use Rattle.cover.specs.Walks.{L, from, Joined, Walk, here, more}
use Rattle.cover.specs.Cells.{vertex, Hits, IsReach, Leads, IsDistance}
use Rattle.cover.specs.CoverDistance.{path_at}
use Rattle.cover.specs.TableRounds.{home, edge_links, level_links, distance_column, column_over, distance_start, distance_round, known}
use Rattle.cover.specs.Finished.{ReachTable, DistanceTable}
use Rattle.cover.proofs.GoodLaws.{edge-from, path-none}
use Rattle.cover.proofs.TableLaws.{table_size, table_cell, known-size, known-cell}
use Rattle.cover.proofs.ReachRounds.{reach-within}

-- ---- home: where the distance starts at 0

pub home-one : (p : List ℕ) (r v : ℕ) → 1 ≤ r → vertex p r ≡ v → home p r v ≡ 1
unfolding home
home-one p zero v l e = absurd (omega arith)
home-one p (suc j) v l e = ite_cases (λ x. x ≡ 1) (ℕ_discrete (vertex p (suc j)) v) (λ _. refl) (λ h. absurd (h e))

pub home_sound : (p : List ℕ) (r v d : ℕ) → home p r v ≡ suc d → (1 ≤ r) × (vertex p r ≡ v) × (d ≡ 0)
unfolding home
home_sound p zero v d e = absurd (omega arith)
home_sound p (suc j) v d e = ite_cases (λ x. x ≡ suc d → (1 ≤ suc j) × (vertex p (suc j) ≡ v) × (d ≡ 0)) (ℕ_discrete (vertex p (suc j)) v)
    (λ q e. (omega arith, q, omega arith)) (λ _ e. absurd (omega arith)) e

-- an edge leaves a vertex
pub edge-source : {g : Graph} → Sources (vertex_count g) (edge_links g) → {u v : ℕ} → Joined g u v → Within (vertex_count g) u
edge-source {g} sources a = subst (Within (vertex_count g)) a.leaves (sources a.number a.listed)

-- ---- the best derived value is the distance

module _ (g : Graph) (sources : Sources (vertex_count g) (edge_links g)) (p : List ℕ) (r : ℕ → ℕ) (is : (v : ℕ) → Within (vertex_count g) v → IsReach g p v (r v)) where
  -- what is known is the length of a walk from the reached vertex
  derived_leads : {v x : ℕ} → Derived (distance_column g p r) v x → Within (vertex_count g) v → (d : ℕ) → x ≡ suc d → Leads g p (r v) v d
  derived_leads (start {v = v}) w d e =
      let (l, q, z) = home_sound p (r v) v d e in
      record { on = on l (is v w).attained; walk = subst (Walk g (vertex p (r v)) v) (sym z) (subst (λ (u : ℕ). Walk g (vertex p (r v)) u 0) q here) }
    where
      on : 1 ≤ r v → (r v ≡ 0) ⊎ Hits g p v (r v) → Within (length p) (r v)
      on l (inl z) = absurd (omega arith)
      on l (inr h) = h.on
  derived_leads (along {u = u} {v = v} {x = x} y a) w d e =
      let (k, ex, ed) = shift-known (L g (from g a.e)) x d e in
      let edge : Joined g u v = record { number = a.e; listed = a.listed; leaves = a.leaves; enters = a.enters.0 } in
      let h = derived_leads y (edge-source sources edge) k ex in
      let level : r u ≡ r v = sym (ap r a.leaves) ∙ a.enters.1 in
      record {
        on = subst (Within (length p)) level h.on;
        walk = subst (λ (j : ℕ). Walk g (vertex p j) v d) level (subst (Walk g (vertex p (r u)) v) (ap (λ (y : ℕ). k + L g y) (sym a.leaves) ∙ sym ed) (more h.walk edge));
      }

  -- an edge does not lose reach
  reach-edge : {u v : ℕ} → Joined g u v → Within (vertex_count g) v → r u ≤ r v
  reach-edge {u} {v} e w = go (is u (edge-source sources e)).attained
    where
      go : (r u ≡ 0) ⊎ Hits g p u (r u) → r u ≤ r v
      go (inl z) = omega arith
      go (inr h) = (is v w).greatest (r u) (record { on = h.on; far = h.far + L g u; walk = more h.walk e })

  -- a walk from the reached vertex keeps to vertices of the same reach
  walk-derived : (j x : ℕ) → x ≡ vertex p j → Within (length p) j → {v l : ℕ} → Walk g x v l → Within (vertex_count g) v → r v ≡ j → Derived (distance_column g p r) v (suc l)
  unfolding shift
  walk-derived j x q on here w e = subst (Derived (distance_column g p r) x) (home-one p (r x) x (omega arith) (ap (vertex p) e ∙ sym q)) start
  walk-derived j x q on {v} (more {v = u} {l = k} y a) w e =
      let wu : Within (vertex_count g) u = edge-source sources a in
      let eu : r u ≡ j = le_antisymm (omega (arith, reach-edge a w)) ((is u wu).greatest j (record { on = on; far = k; walk = subst (λ (z : ℕ). Walk g z u k) q y })) in
      subst (Derived (distance_column g p r) v) (carried a)
      (along (walk-derived j x q on y wu eu) (record { e = a.number; listed = a.listed; leaves = a.leaves; enters = (a.enters, ap r a.leaves ∙ eu ∙ sym e) }))
    where
      carried : (a : Joined g u v) → shift (suc k) (L g (from g a.number)) ≡ suc (k + L g u)
      carried a = ap (λ (y : ℕ). suc (k + L g y)) a.leaves

  leads_derived : {v l : ℕ} → Within (vertex_count g) v → Leads g p (r v) v l → Derived (distance_column g p r) v (suc l)
  leads_derived w h = walk-derived _ _ refl h.on h.walk w refl

  pub best-distance : {v x : ℕ} → Within (vertex_count g) v → Best (distance_column g p r) v x → IsDistance g p (r v) v (x - 1)
  unfolding Near
  best-distance {v = v} {x = zero} w b = record { none = λ _. refl; attained = λ h. go h (is v w).attained; least = λ l _. zero-le }
    where
      go : 1 ≤ r v → (r v ≡ 0) ⊎ Hits g p v (r v) → Leads g p (r v) v 0
      go h (inl z) = absurd (omega arith)
      go h (inr y) = absurd (b.top _ (leads_derived w (record { on = y.on; walk = y.walk })))
  best-distance {v = v} {x = suc d} w b =
      let y = derived_leads b.derived w d refl in
      record {
        none = λ z. absurd (omega (arith, y.on));
        attained = λ _. subst (Leads g p (r v) v) (omega arith) y;
        least = λ l h. omega (arith, b.top (suc l) (leads_derived w h));
      }

-- a round of all sixteen columns
abbrev pub distance_sixteen : Graph → List ℕ → List ℕ → List ℕ
distance_sixteen g reach = table_round cell_place (λ i. (column_over g reach i).rule) table_row (vertex_count g)

module _ {g : Graph} (G : GoodGraph g) {reach : List ℕ} (R : ReachTable g (path_at g) reach) where
  starts : ℕ → ℕ → ℕ
  starts v i = home (path_at g i) (cell cell_place v i reach) v

  -- THE DISTANCE TABLE of a good graph, over the finished reach table: its rounds are 1 to n, and leave every cell its distance, each one more
  pub distance_sixteen_lem : Settles (vertex_count g) (distance_sixteen g reach) (λ t. DistanceTable g (path_at g) reach (known t)) (distance_start g reach)
  unfolding starts
  distance_sixteen_lem = settles_map (λ t f. record {
    size = known-size t ∙ f.long ∙ table_size n starts;
    cells = λ v i w k. rw (known-cell t (cell_place v i)) (best-distance g (edge-from G) (path_at g i) (r i) (λ u wu. R.cells u i wu k) w (f.final v i w k));
  }) (sixteen_settles n table_row (column_over g reach) (distance_start g reach) (omega arith) (le_refl table_row) (omega (arith, table_size n starts))
      (λ i k. least_fit n (level_links g (r i)) G.some_vertex (edge-from G) (λ e. L g (from g e)) (λ v. starts v i)) (table_cell n starts))
    where
      n : ℕ
      n = vertex_count g

      r : ℕ → ℕ → ℕ
      r i v = cell cell_place v i reach

  -- the rounds of sixteen columns are those of the K paths that are there
  pub distance_by_paths : {k : ℕ} {t : List ℕ} → Rounds (distance_sixteen g reach) (distance_start g reach) k t → Rounds (distance_round g reach) (distance_start g reach) k t
  unfolding starts shift closer home
  distance_by_paths =
      empty_columns (vertex_count g) _ (λ i. (column_over g reach i).rule) (omega (arith, G.few_paths)) (λ i. edge-from G) (λ i v e. refl) (λ i. refl)
      (λ v i w l h.
      let k : Within table_row i = within (omega arith) h in
      let z : cell cell_place v i reach ≡ 0 = omega (arith, reach-within (R.cells v i w k), path-none g i (omega arith)) in
      table_cell (vertex_count g) starts v i w k ∙ ap (λ (r : ℕ). home (path_at g i) r v) z)

  pub distance_settles : Settles (vertex_count g) (distance_round g reach) (λ t. DistanceTable g (path_at g) reach (known t)) (distance_start g reach)
  distance_settles = settles_as (λ k t r. distance_by_paths r) distance_sixteen_lem
