-- The cover distance: when there is one, how long it is, and the row that says it. Assumes nothing.
use Prim.Native.Nat.{ℕ, zero, suc, ◌+◌, ◌-◌, ◌*◌, ◌≤◌, ◌<◌}
use mathlib.Core.Path.{◌≡◌, refl, sym, ◌∙◌, subst}
use mathlib.Core.Logic.{◌≢◌, ◌⊎◌, inl, inr}
use mathlib.Core.List.{List}
use native.Mathlib.Nat.{le_refl}
use native.Mathlib.Omega.{arith}
use lib.ListN.{length}
use Rattle.wire.specs.Sizes.{table_row, most_letters}
use Rattle.rounds.specs.Rounds.{Within}
use Rattle.rounds.specs.Kinds.{Near}
use Rattle.rounds.specs.Place.{cell_place}
use Rattle.rounds.specs.Table.{cell, entry}
use Rattle.rounds.proofs.Upto.{within}
use Rattle.graph.specs.Content.{Graph, vertex_count, path_count}
use Rattle.graph.specs.Good.{GoodGraph}
use Rattle.cover.specs.Walks.{L, Walk}
use Rattle.cover.specs.Cells.{vertex, IsReach, IsDistance}
use Rattle.cover.specs.CoverDistance.{path_at, along, Way, IsCover}
use Rattle.cover.specs.TableRounds.{known}
use Rattle.cover.specs.Finished.{ReachTable, DistanceTable}
use Rattle.cover.specs.Row.{unknown, row_for, IsRow}
use Rattle.cover.proofs.GoodLaws.{label_some, labels-few, path-vertex, on-path}
use Rattle.cover.proofs.One.{reach-one, distance-one}
use Rattle.cover.proofs.TableLaws.{known-cell}
use Rattle.cover.proofs.ReachRounds.{reach-within, reach_settles}
use Rattle.cover.proofs.DistanceRounds.{distance_sixteen_lem, distance_settles}
use Rattle.cover.proofs.LowTables.{low-entry, distance-ends}
use Rattle.cover.proofs.RowLaws.{unknown-size, unknown-entry, Leasts, OnSome, leasts_backs}
use Rattle.cover.proofs.WalkLaws.{walk-join, walk_first, walk-to, walk_from, walk-along, along-few}

-- ---- the row

module _ {g : Graph} (G : GoodGraph g) {reach distance : List ℕ} (R : ReachTable g (path_at g) reach) (D : DistanceTable g (path_at g) reach distance) (v : ℕ) (w : Within (vertex_count g) v) where
  column : {i : ℕ} → Within (path_count g) i → Within table_row i
  column k = within k.low (omega (arith, G.few_paths))

  -- a way is a candidate of the row, and a candidate a way
  way-some : {u s : ℕ} → Way g u v s → OnSome g reach distance v (path_count g) u s
  way-some {u} {s} x =
      let er : x.r ≡ cell cell_place v x.i reach = reach-one g x.reach (R.cells v x.i w (column x.path)) in
      let ed : x.d ≡ cell cell_place v x.i distance = distance-one g x.r x.distance (rw er (D.cells v x.i w (column x.path))) in
      record {
        i = x.i;
        path = x.path;
        behind = record { b = x.a; at = within x.on.low (rw (← er) x.upto); holds = x.holds; is = rw (← er, ← ed) x.sum };
      }

  some-way : {u s : ℕ} → OnSome g reach distance v (path_count g) u s → Way g u v s
  some-way x =
      let c = R.cells v x.i w (column x.path) in
      let y = x.behind in
      record {
        i = x.i;
        path = x.path;
        a = y.b;
        on = within y.at.low (omega (arith, reach-within c));
        holds = y.holds;
        r = cell cell_place v x.i reach;
        reach = c;
        upto = y.at.high;
        d = cell cell_place v x.i distance;
        distance = D.cells v x.i w (column x.path);
        sum = y.is;
      }

  leasts : (row : List ℕ) → vertex_count g ≤ length row → ((u : ℕ) → Within (vertex_count g) u → entry u row ≡ 0) → Leasts (vertex_count g) (OnSome g reach distance v (path_count g)) (row_for g reach distance v row)
  leasts row l z = leasts_backs row g reach distance v (path_count g)
      (λ i k b y. path-vertex G i k b (within y.low (omega (arith, reach-within (R.cells v i w (column k)))))) l z

  -- THE ROW: over a row in which nothing is known, going back along the paths leaves every entry its cover distance
  pub row_is : (row : List ℕ) → vertex_count g ≤ length row → ((u : ℕ) → Within (vertex_count g) u → entry u row ≡ 0) → IsRow g v (row_for g reach distance v row)
  unfolding Near
  row_is row l z = record {
    long = W.long;
    entries = λ u wu. record {
      none = λ e s c. subst (Near (suc s)) e (W.least u s wu (way-some c.way));
      some = λ s e. record { way = some-way (W.attained u s wu e); least = λ t y. subst (Near (suc t)) e (W.least u t wu (way-some y)) };
    };
  }
    where
      W : Leasts (vertex_count g) (OnSome g reach distance v (path_count g)) (row_for g reach distance v row)
      W = leasts row l z

  -- so of the ways one is least
  pub way-least : {u s : ℕ} → Within (vertex_count g) u → Way g u v s → (t : ℕ) × IsCover g u v t
  unfolding Near
  way-least {u} {s} wu y = go (entry u (row_for g reach distance v none)) refl
    where
      none : List ℕ
      none = unknown (vertex_count g)

      long : vertex_count g ≤ length none
      long = rw unknown-size (le_refl _)

      go : (x : ℕ) → entry u (row_for g reach distance v none) ≡ x → (t : ℕ) × IsCover g u v t
      go zero e = absurd (subst (Near (suc s)) e ((leasts none long (λ u _. unknown-entry (vertex_count g) u)).least u s wu (way-some y)))
      go (suc t) e = (t, ((row_is none long (λ u _. unknown-entry (vertex_count g) u)).entries u wu).some t e)

-- ---- when there is one

module _ {g : Graph} (G : GoodGraph g) where
  -- a good graph has its tables
  pub reach-there : (reach : List ℕ) × ReachTable g (path_at g) reach
  reach-there = let s = reach_settles G in (s.last, s.done)

  pub distance-there : {reach : List ℕ} → ReachTable g (path_at g) reach → (distance : List ℕ) × DistanceTable g (path_at g) reach distance
  distance-there R = let s = distance_settles G R in (known s.last, s.done)

  -- a walk shows a way: over a path that holds u
  pub walk-way : {u v l : ℕ} → Within (vertex_count g) u → Walk g u v l → (s : ℕ) × Way g u v s
  walk-way {u} {v} {l} wu x =
      let w = walk-to G x wu in
      let (reach, R) = reach-there in
      let (distance, D) = distance-there R in
      let (i, k, y) = on-path G u wu in
      let (a, on, e) = y in
      let k16 : Within table_row i = within k.low (omega (arith, G.few_paths)) in
      let c = R.cells v i w k16 in
      let d = D.cells v i w k16 in (
        along g (path_at g i) a (cell cell_place v i reach - a) + cell cell_place v i distance,
        record {
          i = i;
          path = k;
          a = a;
          on = on;
          holds = e;
          r = cell cell_place v i reach;
          reach = c;
          upto = c.greatest a (record { on = on; far = l; walk = rw e x });
          d = cell cell_place v i distance;
          distance = d;
          sum = refl;
        },
      )

  -- "It exists exactly when u has a walk to v."
  pub cover_exists : {u v l : ℕ} → u ≢ v → Walk g u v l → (s : ℕ) × IsCover g u v s
  cover_exists h x =
      let wu = walk_from G x h in
      let (reach, R) = reach-there in
      let (distance, D) = distance-there R in
      let (s, y) = walk-way wu x in
      way-least G R D _ (walk-to G x wu) wu y

  -- the converse, with the length: a way is a walk
  pub way-walk : {u v s : ℕ} → Way g u v s → Walk g u v s
  way-walk {u} {v} {s} x =
      let p = path_at g x.i in
      let e : x.a + (x.r - x.a) ≡ x.r = omega arith in
      let l : x.r ≤ length p = reach-within x.reach in
      let first : Walk g (vertex p x.a) (vertex p x.r) (along g p x.a (x.r - x.a)) =
      subst (λ (j : ℕ). Walk g (vertex p x.a) (vertex p j) (along g p x.a (x.r - x.a))) e (walk-along G x.i x.path x.a (x.r - x.a) x.on.low (omega arith)) in
      subst (λ (y : ℕ). Walk g y v s) x.holds (subst (Walk g (vertex p x.a) v) (sym x.sum) (walk-join first (x.distance.attained (omega (arith, x.on))).walk))

  pub cover_walk : {u v s : ℕ} → IsCover g u v s → Walk g u v s
  cover_walk c = way-walk c.way

  -- so a graph gap is never negative
  pub cover_at_least : {u v s : ℕ} → u ≢ v → IsCover g u v s → L g u ≤ s
  cover_at_least {u} {v} {s} h c = go (walk_first (cover_walk c))
    where
      go : (u ≡ v) ⊎ (L g u ≤ s) → L g u ≤ s
      go (inl e) = absurd (h e)
      go (inr l) = l

  -- a distance is less than the sum of all labels may be
  pub distance-few : {i v r d : ℕ} → Within (vertex_count g) v → Within (path_count g) i → IsReach g (path_at g i) v r → IsDistance g (path_at g i) r v d → d < most_letters
  distance-few {i} {v} {r} {d} w k c x =
      let (reach, R) = reach-there in
      let t = distance_sixteen_lem G R in
      let k16 : Within table_row i = within k.low (omega (arith, G.few_paths)) in
      let er : r ≡ cell cell_place v i reach = reach-one g c (R.cells v i w k16) in
      let ed : d ≡ cell cell_place v i (known t.last) = distance-one g r x (rw er (t.done.cells v i w k16)) in
      go (cell cell_place v i t.last) (ed ∙ known-cell t.last (cell_place v i)) (low-entry G (distance-ends G reach t.rounds) v i w k16)
    where
      go : (y : ℕ) → d ≡ y - 1 → (y ≡ 0) ⊎ (y + L g v ≤ most_letters + 1) → d < most_letters
      go y e (inl z) = omega arith
      go y e (inr h) = omega (arith, label_some G v w)

  -- a cover distance is less than twice that
  pub cover_few : {u v s : ℕ} → Within (vertex_count g) v → IsCover g u v s → s < 2 * most_letters
  cover_few w c =
      let x = c.way in
      let r = reach-within x.reach in
      omega (arith, x.sum, distance-few w x.path x.reach x.distance, along-few G x.i x.path x.a (x.r - x.a) x.on.low (omega arith), labels-few G)
