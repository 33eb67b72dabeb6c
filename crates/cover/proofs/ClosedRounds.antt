-- The rounds of sixteen least walks settle, within n, and the closed walks are the least of them with one edge more. Assumes nothing.
use Prim.Native.Nat.{ℕ, zero, suc, ◌+◌, ◌-◌, ◌≤◌}
use mathlib.Core.Path.{◌≡◌, refl, sym, ap, ◌∙◌, subst}
use mathlib.Core.Logic.{◌⊎◌, inl, inr}
use mathlib.Core.List.{[], ◌∷◌}
use native.Mathlib.Nat.{le_refl}
use native.Mathlib.Omega.{arith}
use Rattle.wire.specs.Sizes.{table_row}
use Rattle.rounds.specs.Rounds.{Within}
use Rattle.rounds.specs.Place.{cell_place}
use Rattle.rounds.specs.Table.{table_round}
use Rattle.rounds.specs.Best.{Sources, Derived, start, along, Best}
use Rattle.rounds.specs.Kinds.{Near, shift}
use Rattle.rounds.specs.Loop.{Settles}
use Rattle.rounds.proofs.Counts.{settles_map}
use Rattle.rounds.proofs.Gather.{gather-one, gather-each}
use Rattle.rounds.proofs.Fits.{near-order, shift-known, least_fit}
use Rattle.rounds.proofs.Table.{sixteen_settles}
use Rattle.graph.specs.Content.{Graph, vertex_count, edge_count}
use Rattle.graph.specs.Good.{GoodGraph}
use Rattle.cover.specs.Walks.{L, from, to, Joined, Walk, here, more, Goes}
use Rattle.cover.specs.Cells.{vertex, IsClosed}
use Rattle.cover.specs.TableRounds.{table_of, home, edge_links, level_links, distance_column}
use Rattle.cover.specs.LeastWalks.{IsLeast, walk_start, walk_round, WalkTable, round_trip, closed_by}
use Rattle.cover.proofs.GoodLaws.{edge-from}
use Rattle.cover.proofs.TableLaws.{table_size, table_cell}
use Rattle.cover.proofs.DistanceRounds.{home-one, home_sound, edge-source}

-- ---- the best derived value is the least walk, whatever the levels, if all are 1

module _ (g : Graph) (sources : Sources (vertex_count g) (edge_links g)) (w : ℕ) (r : ℕ → ℕ) (level : (v : ℕ) → Within (vertex_count g) v → r v ≡ 1) where
  -- what is known is the length of a walk from w
  derived-walk : {v x : ℕ} → Derived (distance_column g (w ∷ []) r) v x → Within (vertex_count g) v → (d : ℕ) → x ≡ suc d → Walk g w v d
  unfolding vertex
  derived-walk (start {v = v}) k d e =
      let (_, q, z) = home_sound (w ∷ []) 1 v d (ap (λ (j : ℕ). home (w ∷ []) j v) (sym (level v k)) ∙ e) in
      subst (Walk g w v) (sym z) (subst (λ (u : ℕ). Walk g w u 0) q here)
  derived-walk (along {u = u} {v = v} {x = x} y a) k d e =
      let (b, ex, ed) = shift-known (L g (from g a.e)) x d e in
      let edge : Joined g u v = record { number = a.e; listed = a.listed; leaves = a.leaves; enters = a.enters.0 } in
      subst (Walk g w v) (ap (λ (y : ℕ). b + L g y) (sym a.leaves) ∙ sym ed) (more (derived-walk y (edge-source sources edge) b ex) edge)

  walk-derived : {v l : ℕ} → Walk g w v l → Within (vertex_count g) v → Derived (distance_column g (w ∷ []) r) v (suc l)
  unfolding shift vertex
  walk-derived here k = subst (Derived (distance_column g (w ∷ []) r) w) (ap (λ (j : ℕ). home (w ∷ []) j w) (level w k) ∙ home-one (w ∷ []) 1 w (le_refl 1) refl) start
  walk-derived {v} (more {v = u} {l = l} y a) k =
      subst (Derived (distance_column g (w ∷ []) r) v) (ap (λ (y : ℕ). suc (l + L g y)) a.leaves)
      (along (walk-derived y (edge-source sources a)) (record { e = a.number; listed = a.listed; leaves = a.leaves; enters = (a.enters, level _ (sources a.number a.listed) ∙ sym (level v k)) }))

  pub best-walk : {v x : ℕ} → Within (vertex_count g) v → Best (distance_column g (w ∷ []) r) v x → IsLeast g w v x
  unfolding Near
  best-walk {v} {x} k b = record {
    none = λ e l y. subst (Near (suc l)) e (b.top (suc l) (walk-derived y k));
    some = λ d e. derived-walk b.derived k d e;
    least = λ d l e y. subst (Near (suc l)) e (b.top (suc l) (walk-derived y k));
  }

-- THE ROUNDS OF LEAST WALKS, by any levels that are all 1: they are 1 to n, and leave every cell its least walk
pub walks_settle_over : (g : Graph) (r : ℕ → ℕ → ℕ) (w : ℕ → ℕ) → 1 ≤ vertex_count g → Sources (vertex_count g) (edge_links g) → ((v i : ℕ) → Within (vertex_count g) v → r i v ≡ 1)
    → Settles (vertex_count g) (table_round cell_place (λ i. (distance_column g (w i ∷ []) (r i)).rule) table_row (vertex_count g)) (WalkTable g w) (walk_start g w)
walks_settle_over g r w filled sources level = settles_map (λ t f. record {
  size = f.long ∙ table_size n starts;
  cells = λ v i k l. best-walk g sources (w i) (r i) (λ u z. level u i z) k (f.final v i k l);
}) (sixteen_settles n table_row (λ i. distance_column g (w i ∷ []) (r i)) (table_of n starts) (omega arith) (le_refl table_row) (omega (arith, table_size n starts))
    (λ i k. least_fit n (level_links g (r i)) filled sources (λ e. L g (from g e)) (λ v. home (w i ∷ []) (r i v) v))
    (λ v i k l. table_cell n starts v i k l ∙ ap (λ (j : ℕ). home (w i ∷ []) j v) (sym (level v i k))))
  where
    n : ℕ
    n = vertex_count g

    starts : ℕ → ℕ → ℕ
    starts v i = home (w i ∷ []) 1 v

pub walks_settle : {g : Graph} → GoodGraph g → (w : ℕ → ℕ) → Settles (vertex_count g) (walk_round g) (WalkTable g w) (walk_start g w)
walks_settle {g} G w = walks_settle_over g (λ _ _. 1) w G.some_vertex (edge-from G) (λ _ _ _. refl)

-- ---- closed walks

module _ (g : Graph) (sources : Sources (vertex_count g) (edge_links g)) (w : ℕ) (has : ℕ → ℕ) (is : (u : ℕ) → Within (vertex_count g) u → IsLeast g w u (has u)) where
  trip_goes : (d : ℕ) → round_trip g has w (edge_count g) ≡ suc d → Goes g w w d
  unfolding round_trip
  trip_goes d e = go (gather-one near-order ((edge_links g).into? w) (λ e. shift (has (from g e)) (L g (from g e))) 0 (edge_count g))
    where
      go : (round_trip g has w (edge_count g) ≡ 0) ⊎ ((e : ℕ) × Within (edge_count g) e × (to g e ≡ w) × (round_trip g has w (edge_count g) ≡ shift (has (from g e)) (L g (from g e)))) → Goes g w w d
      go (inl z) = absurd (omega arith)
      go (inr (i, l, h, q)) =
          let (k, ek, ed) = shift-known (L g (from g i)) (has (from g i)) d (sym q ∙ e) in
          record { last = from g i; before = k; walk = (is (from g i) (sources i l)).some k ek; edge = record { number = i; listed = l; leaves = refl; enters = h }; long = ed }

  goes_trip : (l : ℕ) → Goes g w w l → Near (suc l) (round_trip g has w (edge_count g))
  unfolding round_trip Near shift
  goes_trip l x = near-order.trans {x = suc l} {y = shift (has (from g x.edge.number)) (L g (from g x.edge.number))} {z = round_trip g has w (edge_count g)} (go (has (from g x.edge.number)) refl)
      (gather-each near-order ((edge_links g).into? w) (λ e. shift (has (from g e)) (L g (from g e))) 0 (edge_count g) x.edge.number x.edge.listed x.edge.enters)
    where
      first : Walk g w (from g x.edge.number) x.before
      first = rw x.edge.leaves x.walk

      go : (y : ℕ) → has (from g x.edge.number) ≡ y → Near (suc l) (shift y (L g (from g x.edge.number)))
      go zero e = absurd ((is (from g x.edge.number) (sources x.edge.number x.edge.listed)).none e x.before first)
      go (suc k) e = omega (arith, x.long, ap (L g) x.edge.leaves, (is (from g x.edge.number) (sources x.edge.number x.edge.listed)).least k x.before e first)

  -- THE CLOSED WALK of w, by the least walks from w
  pub closed_is_lem : IsClosed g w (closed_by g has w)
  unfolding Near
  closed_is_lem = go (round_trip g has w (edge_count g)) refl
    where
      go : (x : ℕ) → round_trip g has w (edge_count g) ≡ x → IsClosed g w (round_trip g has w (edge_count g) - 1)
      go zero e = record { attained = inl (omega arith, λ l x. subst (Near (suc l)) e (goes_trip l x)); least = λ l x. omega arith }
      go (suc d) e = let q : round_trip g has w (edge_count g) - 1 ≡ d = omega arith in
          rw q (record { attained = inr (trip_goes d e); least = λ l x. subst (Near (suc l)) e (goes_trip l x) })
