-- What lies in the buffers means a graph: the rounds over the buffers are the graph's, and what they leave are its tables. Assumes nothing.
use Prim.Native.Nat.{ℕ, zero, suc, ◌+◌, ◌-◌, ◌*◌, ◌/◌, ◌%◌, ◌≤◌, ◌<◌, ◌^◌, max, zero-le}
use mathlib.Core.Path.{◌≡◌, refl, sym, ap, ◌∙◌, subst}
use mathlib.Core.Logic.{◌⊎◌, inl, inr}
use mathlib.Core.List.{List, []}
use native.Mathlib.Decide.{dec_le}
use native.Mathlib.Omega.{arith}
use lib.ListN.{length, get_or, take, drop, length-take, get_or-eq_default}
use lib.Seq.{get_or-take}
use Rattle.wire.specs.Sizes.{table_row, path_room, most_letters}
use Rattle.rounds.specs.Rounds.{Within, Rounds, sweep, iterate}
use Rattle.rounds.specs.Rule.{Rule, value}
use Rattle.rounds.specs.Place.{cell_place}
use Rattle.rounds.specs.Table.{cell, cell_step, row_step, table_round, entry}
use Rattle.rounds.specs.Loop.{Ends}
use Rattle.rounds.specs.Kinds.{shift, closer}
use Rattle.rounds.proofs.Upto.{within}
use Rattle.rounds.proofs.Counts.{settles_ends, settled}
use Rattle.rounds.proofs.InPlace.{Keeps, passes}
use Rattle.rounds.proofs.Table.{row_keeps}
use Rattle.graph.specs.Content.{Graph, vertex_count, edge_count, path_count}
use Rattle.cover.specs.Walks.{L, from}
use Rattle.cover.specs.Cells.{vertex, IsClosed}
use Rattle.cover.specs.CoverDistance.{path_at}
use Rattle.cover.specs.TableRounds.{table_of, own, home, reach_column, reach_start, reach_round, column_over, distance_start, distance_round, known, edge_links}
use Rattle.cover.specs.TableEntries.{IsTables}
use Rattle.cover.specs.Finished.{ReachTable}
use Rattle.cover.specs.LeastWalks.{walk_rule, walk_round, round_trip, closed_by}
use Rattle.cover.proofs.GoodLaws.{edge-from, edge_to, labels-few, path-short, path-vertex}
use Rattle.cover.proofs.Low.{total_term}
use Rattle.cover.proofs.LowTables.{LowTable, low-entry, distance_begins, distance_keeps}
use Rattle.cover.proofs.ReachRounds.{reach_sixteen, reach_sixteen_lem, reach_by_paths, reach_settles, reach-within}
use Rattle.cover.proofs.DistanceRounds.{distance_sixteen, distance_sixteen_lem, distance_by_paths}
use Rattle.cover.proofs.ClosedRounds.{walks_settle, closed_is_lem}
use Rattle.cover.proofs.TablesThere.{walk_begins, walk_keeps, tables-made}
use Rattle.table_rows.specs.Lists.{Listed}
use Rattle.table_rows.specs.HeldEdges.{target, Held, Linked}
use Rattle.table_rounds.specs.Held.{label_length, path_in, PathsHeld, Holds, held_links, raise, raise_round, near, near_row, near_round, onward, onward_row, onward_round, Fitting, Settling}
use Rattle.closed_rounds.specs.Closing.{sixteen_start, ClosedBy, Closable}
use Rattle.walk_back.specs.Back.{back_by}
use Rattle.table_starts.proofs.Starts.{table_ext, homes_in}
use Rattle.tables_make.proofs.Same.{gather-same, row_alike}

-- the start of the reach table
abbrev pub own_start : ℕ → List ℕ → List ℕ → List ℕ
own_start n paths counts = table_of n (λ v i. own (path_in paths counts i) v (length (path_in paths counts i)))

-- a path's front part has its vertices
home-take : (c : ℕ) (d : List ℕ) (r v : ℕ) → r ≤ length (take c d) → home d r v ≡ home (take c d) r v
unfolding home vertex
home-take c d zero v h = refl
home-take c d (suc r) v h =
    let e : suc r - 1 ≡ r = omega arith in
    rw (e, get_or-take c d r 0 (omega (arith, length-take c d)))

module _ {g : Graph} {lengths edges paths counts : List ℕ} (H : Holds g (vertex_count g) (edge_count g) lengths edges paths counts) where
  -- ---- the content

  held-here : Held (vertex_count g) (edge_count g) edges
  held-here = record {
    few_vertices = H.good.few_vertices;
    few_edges = H.good.few_edges;
    room = H.edge_room;
    sources = λ e w. rw (H.froms e w) (edge-from H.good e w);
    targets = λ e w. rw (H.tos e w) (edge_to H.good e w);
  }

  paths-here : PathsHeld (vertex_count g) paths counts
  unfolding vertex path_at
  paths-here = record {
    room = H.paths_room;
    some = H.counts_room;
    short = H.short;
    on = λ i j k. rw (H.paths_are i k) (at i j k.low (dec_le i (path_count g)));
  }
    where
      at : (i j : ℕ) → 1 ≤ i → Dec (i ≤ path_count g) → j < length (path_at g i) → Within (vertex_count g) (get_or (path_at g i) j 0)
      at i j l (yes h) b =
          let e : j + 1 - 1 ≡ j = omega arith in
          rw e at (path-vertex H.good i (within l h) (j + 1) (within (omega arith) (omega arith)))
      at i j l (no h) b = absurd (omega (arith, ap length (get_or-eq_default g.paths [] {n = i - 1} (omega arith))))

  -- ---- reach

  reach_alike : (i : ℕ) (f : ℕ → ℕ) (v : ℕ) → value (raise (edge_count g) edges) f v ≡ value (reach_column g (path_at g i)).rule f v
  unfolding value
  reach_alike i f v = gather-same max ((held_links (edge_count g) edges).into? v) ((edge_links g).into? v) _ _ (f v) (edge_count g)
      (λ e w. record { left = λ x. sym (H.tos e w) ∙ x; right = λ x. H.tos e w ∙ x; same = ap f (H.froms e w) })

  reach_rows : row_step cell_place (λ _. raise (edge_count g) edges) table_row ≡ row_step cell_place (λ i. (reach_column g (path_at g i)).rule) table_row
  reach_rows = row_alike cell_place (λ _. raise (edge_count g) edges) (λ i. (reach_column g (path_at g i)).rule) table_row (λ i _. reach_alike i)

  reach-rounds : raise_round (vertex_count g) (edge_count g) edges ≡ reach_sixteen g
  reach-rounds = ap (λ (row : ℕ → List ℕ → List ℕ). sweep row (vertex_count g)) reach_rows

  reach-starts : own_start (vertex_count g) paths counts ≡ reach_start g
  reach-starts = table_ext (vertex_count g) _ _ (λ v i w k. ap (λ (p : List ℕ). own p v (length p)) (H.paths_are i k))

  reach-ends-here : Ends (vertex_count g) (raise_round (vertex_count g) (edge_count g) edges) (own_start (vertex_count g) paths counts)
  reach-ends-here = rw (reach-rounds, reach-starts) (settles_ends (reach_sixteen_lem H.good))

  reach-made : {k : ℕ} {t : List ℕ} → Rounds (raise_round (vertex_count g) (edge_count g) edges) (own_start (vertex_count g) paths counts) k t → Rounds (reach_round g) (reach_start g) k t
  reach-made r = reach_by_paths H.good (rw (reach-rounds, reach-starts) at r)

  -- ---- distance

  module _ (reach : List ℕ) where
    near_alike : (i : ℕ) → Within table_row i → (f : ℕ → ℕ) (v : ℕ) → value (near (edge_count g) lengths edges reach i) f v ≡ value (column_over g reach i).rule f v
    unfolding value
    near_alike i k f v = gather-same closer ((near (edge_count g) lengths edges reach i).links.into? v) ((column_over g reach i).rule.links.into? v) _ _ (f v) (edge_count g)
        (λ e w. record {
          left = λ x. (sym (H.tos e w) ∙ x.0, ap (λ (u : ℕ). cell cell_place u i reach) (sym (H.froms e w)) ∙ x.1);
          right = λ x. (H.tos e w ∙ x.0, ap (λ (u : ℕ). cell cell_place u i reach) (H.froms e w) ∙ x.1);
          same = ap (λ (u : ℕ). shift (f u) (label_length lengths u)) (H.froms e w) ∙ ap (shift (f (from g e))) (H.labels (from g e) (edge-from H.good e w));
        })

    near_rows : near_row (edge_count g) lengths edges reach ≡ row_step cell_place (λ i. (column_over g reach i).rule) table_row
    near_rows = row_alike cell_place (near (edge_count g) lengths edges reach) (λ i. (column_over g reach i).rule) table_row near_alike

    near-rounds : near_round (vertex_count g) (edge_count g) lengths edges reach ≡ distance_sixteen g reach
    near-rounds = ap (λ (row : ℕ → List ℕ → List ℕ). sweep row (vertex_count g)) near_rows

  -- what is low fits
  low_fits : (t : List ℕ) → LowTable g t → Fitting (vertex_count g) lengths t
  low_fits t p = record { fits = λ u i w k. rw (H.labels u w) (go u w (low-entry H.good p u i w k)) }
    where
      go : (u : ℕ) → Within (vertex_count g) u → {x : ℕ} → (x ≡ 0) ⊎ (x + L g u ≤ most_letters + 1) → x + L g u < 2 ^ 32
      go u w (inl z) = omega (arith, total_term (L g) u (vertex_count g) w, labels-few H.good)
      go u w (inr h) = omega arith

  -- what steps keep, every state on the way has
  on_the_way : (rules : ℕ → Rule) (s : List ℕ) → ((v : ℕ) → Within (vertex_count g) v → Keeps table_row (cell_step cell_place rules v) (LowTable g)) → LowTable g s
      → (k v : ℕ) → v < vertex_count g → LowTable g (sweep (row_step cell_place rules table_row) v (iterate (table_round cell_place rules table_row (vertex_count g)) k s))
  on_the_way rules s keeps low k v h = passes (vertex_count g) (row_step cell_place rules table_row) (LowTable g) (row_keeps cell_place rules (vertex_count g) table_row (LowTable g) keeps) k v s (omega arith) low

  -- the start of the distances over a finished reach table
  distance-starts : (reach : List ℕ) → ReachTable g (path_at g) reach → table_of (vertex_count g) (homes_in paths reach) ≡ distance_start g reach
  unfolding path_in
  distance-starts reach R = table_ext (vertex_count g) _ _ (λ v i w k.
      home-take (get_or counts (i - 1) 0) (drop (path_room * (i - 1)) paths) (cell cell_place v i reach) v (rw (H.paths_are i k) (reach-within (R.cells v i w k)))
      ∙ ap (λ (p : List ℕ). home p (cell cell_place v i reach) v) (H.paths_are i k))

  distance-settling : (reach : List ℕ) → ReachTable g (path_at g) reach → Settling (vertex_count g) lengths (near (edge_count g) lengths edges reach) (table_of (vertex_count g) (homes_in paths reach))
  distance-settling reach R = record {
    ends = rw (near-rounds reach, distance-starts reach R) (settles_ends (distance_sixteen_lem H.good R));
    fitting = λ k v h. rw (near_rows reach, distance-starts reach R) (low_fits _ (on_the_way (λ i. (column_over g reach i).rule) (distance_start g reach) (distance_keeps H.good reach) (distance_begins H.good reach) k v h));
  }

  distance-made : (reach : List ℕ) → ReachTable g (path_at g) reach → {k : ℕ} {t : List ℕ} → Rounds (near_round (vertex_count g) (edge_count g) lengths edges reach) (table_of (vertex_count g) (homes_in paths reach)) k t
      → Rounds (distance_round g reach) (distance_start g reach) k t
  distance-made reach R r = distance_by_paths H.good R (rw (near-rounds reach, distance-starts reach R) at r)

  -- ---- closed walks

  walk_alike : (i : ℕ) (f : ℕ → ℕ) (v : ℕ) → value (onward (edge_count g) lengths edges i) f v ≡ value (walk_rule g) f v
  unfolding value
  walk_alike i f v = gather-same closer ((held_links (edge_count g) edges).into? v) ((walk_rule g).links.into? v) _ _ (f v) (edge_count g)
      (λ e w. record {
        left = λ x. (sym (H.tos e w) ∙ x, refl);
        right = λ x. H.tos e w ∙ x.0;
        same = ap (λ (u : ℕ). shift (f u) (label_length lengths u)) (H.froms e w) ∙ ap (shift (f (from g e))) (H.labels (from g e) (edge-from H.good e w));
      })

  walk_rows : onward_row (edge_count g) lengths edges ≡ row_step cell_place (λ _. walk_rule g) table_row
  walk_rows = row_alike cell_place (onward (edge_count g) lengths edges) (λ _. walk_rule g) table_row (λ i _. walk_alike i)

  walk-rounds : onward_round (vertex_count g) (edge_count g) lengths edges ≡ walk_round g
  walk-rounds = ap (λ (row : ℕ → List ℕ → List ℕ). sweep row (vertex_count g)) walk_rows

  closable_here : Closable (vertex_count g) (edge_count g) lengths edges
  closable_here = record {
    settling = λ base _. record {
      ends = rw walk-rounds (settles_ends (walks_settle H.good (λ i. base + i)));
      fitting = λ k v h. rw walk_rows (low_fits _ (on_the_way (λ _. walk_rule g) (sixteen_start (vertex_count g) base) (walk_keeps H.good) (walk_begins H.good (λ i. base + i)) k v h));
    };
  }

  back_is : (table : List ℕ) (v i : ℕ) → back_by lengths edges table v i (edge_count g) ≡ round_trip g (λ u. cell cell_place u i table) v (edge_count g)
  unfolding back_by round_trip
  back_is table v i = gather-same closer ((held_links (edge_count g) edges).into? v) ((edge_links g).into? v) _ _ 0 (edge_count g)
      (λ e w. record {
        left = λ x. sym (H.tos e w) ∙ x;
        right = λ x. H.tos e w ∙ x;
        same = ap (λ (u : ℕ). shift (cell cell_place u i table) (label_length lengths u)) (H.froms e w) ∙ ap (shift (cell cell_place (from g e) i table)) (H.labels (from g e) (edge-from H.good e w));
      })

  closed-here : {v d : ℕ} → ClosedBy (vertex_count g) (edge_count g) lengths edges v d → IsClosed g v d
  closed-here {v} {d} C =
      let T = (settled (walks_settle H.good (λ i. C.base + i)) (rw walk-rounds at C.rounds)).2 in
      let c : IsClosed g (C.base + C.i) (closed_by g (λ u. cell cell_place u C.i C.last) (C.base + C.i)) = closed_is_lem g (edge-from H.good) (C.base + C.i) (λ u. cell cell_place u C.i C.last) (λ u w. T.cells u C.i w C.column) in
      let e : d ≡ closed_by g (λ u. cell cell_place u C.i C.last) v = C.closes ∙ ap (λ (x : ℕ). x - 1) (back_is C.last v C.i) in
      subst (IsClosed g v) (sym e) (subst (λ (u : ℕ). IsClosed g u (closed_by g (λ u. cell cell_place u C.i C.last) u)) (sym C.is) c)

  -- ---- the tables

  tables-here : {reach entries closed : List ℕ} {j k : ℕ} → Rounds (raise_round (vertex_count g) (edge_count g) edges) (own_start (vertex_count g) paths counts) j reach
      → Rounds (near_round (vertex_count g) (edge_count g) lengths edges reach) (table_of (vertex_count g) (homes_in paths reach)) k entries
      → length closed ≡ vertex_count g → ((v : ℕ) → Within (vertex_count g) v → ClosedBy (vertex_count g) (edge_count g) lengths edges v (entry v closed))
      → IsTables g (record { reach = reach; distance = known entries; closed = closed; reach_rounds = j; distance_rounds = k })
  tables-here {reach} r d l c =
      let R = (settled (reach_settles H.good) (reach-made r)).2 in
      tables-made H.good (reach-made r) (distance-made reach R d) l (λ v w. closed-here (c v w))

-- ---- the same by the numbers n and m that the code has

module _ {g : Graph} {n m : ℕ} {lengths edges paths counts : List ℕ} (H : Holds g n m lengths edges paths counts) where
  here : Holds g (vertex_count g) (edge_count g) lengths edges paths counts
  here = subst (λ (x : ℕ). Holds g (vertex_count g) x lengths edges paths counts) (sym H.edges_are) (subst (λ (x : ℕ). Holds g x m lengths edges paths counts) (sym H.vertices) H)

  over : (P : ℕ → ℕ → Type 0) → P (vertex_count g) (edge_count g) → P n m
  over P p = subst (P n) H.edges_are (subst (λ (x : ℕ). P x (edge_count g)) H.vertices p)

  back : (P : ℕ → ℕ → Type 0) → P n m → P (vertex_count g) (edge_count g)
  back P p = subst (P (vertex_count g)) (sym H.edges_are) (subst (λ (x : ℕ). P x m) (sym H.vertices) p)

  pub holds-held : Held n m edges
  holds-held = over (λ n m. Held n m edges) (held-here here)

  pub holds-paths : PathsHeld n paths counts
  holds-paths = over (λ n m. PathsHeld n paths counts) (paths-here here)

  pub holds-ends : Ends n (raise_round n m edges) (own_start n paths counts)
  holds-ends = over (λ n m. Ends n (raise_round n m edges) (own_start n paths counts)) (reach-ends-here here)

  module _ {reach : List ℕ} {j : ℕ} (r : Rounds (raise_round n m edges) (own_start n paths counts) j reach) where
    reached : ReachTable g (path_at g) reach
    reached = (settled (reach_settles H.good) (reach-made here (back (λ n m. Rounds (raise_round n m edges) (own_start n paths counts) j reach) r))).2

    -- reach cells are positions
    pub holds-few : (q : ℕ) → get_or reach q 0 ≤ path_room
    holds-few q = go (dec_le (length reach) q)
      where
        go : Dec (length reach ≤ q) → get_or reach q 0 ≤ path_room
        go (yes h) = rw (get_or-eq_default reach 0 {n = q} h) zero-le
        go (no h) =
            let e : 16 * (q / 16 + 1 - 1) + (q % 16 + 1) - 1 ≡ q = omega arith in
            let a = rw e at (reach-within (reached.cells (q / 16 + 1) (q % 16 + 1) (within (omega arith) (omega (arith, reached.size))) (within (omega arith) (omega arith)))) in
            omega (arith, path-short H.good (q % 16 + 1), H.good.few_vertices)

    pub holds-settling : Settling n lengths (near m lengths edges reach) (table_of n (homes_in paths reach))
    holds-settling = over (λ n m. Settling n lengths (near m lengths edges reach) (table_of n (homes_in paths reach))) (distance-settling here reach reached)

  pub holds_closable : Closable n m lengths edges
  holds_closable = over (λ n m. Closable n m lengths edges) (closable_here here)

  pub holds-tables : {reach entries closed : List ℕ} {j k : ℕ} → Rounds (raise_round n m edges) (own_start n paths counts) j reach
      → Rounds (near_round n m lengths edges reach) (table_of n (homes_in paths reach)) k entries
      → length closed ≡ n → ((v : ℕ) → Within n v → ClosedBy n m lengths edges v (entry v closed))
      → IsTables g (record { reach = reach; distance = known entries; closed = closed; reach_rounds = j; distance_rounds = k })
  holds-tables {reach} {entries} {closed} {j} {k} r d l c = tables-here here
      (back (λ n m. Rounds (raise_round n m edges) (own_start n paths counts) j reach) r)
      (back (λ n m. Rounds (near_round n m lengths edges reach) (table_of n (homes_in paths reach)) k entries) d)
      (l ∙ sym H.vertices)
      (back (λ n m. (v : ℕ) → Within n v → ClosedBy n m lengths edges v (entry v closed)) c)

-- ---- the same content, by other numbers that are the same

pub holds_on : {g : Graph} {n m : ℕ} {lengths edges paths counts : List ℕ} (a b : ℕ) → a ≡ n → b ≡ m → Holds g n m lengths edges paths counts → Holds g a b lengths edges paths counts
holds_on a b p q H = rw (p, q) H

pub linked_on : {edges : List ℕ} {n m : ℕ} (heads nexts : List ℕ) → length heads ≡ n → length nexts ≡ m → Held n m edges → Listed (target edges) n 0 m heads nexts → Linked edges heads nexts
linked_on {edges} {n} {m} heads nexts p q h l = record {
  held = rw (p, q) h;
  listed = rw (p, q) l;
}
