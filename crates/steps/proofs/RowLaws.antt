-- The row of a vertex, in a setting that holds a graph with its tables: its loops' bounds, and what its entries say.
-- Assumes nothing.
use Rattle.std.specs.Prelude.{Option, Some, None}
use Prim.Native.Nat.{ℕ, zero, suc, ◌+◌, ◌-◌, ◌*◌, ◌≤◌, ◌<◌}
use mathlib.Core.Path.{◌≡◌, refl, sym, ap, ◌∙◌}
use mathlib.Core.Logic.{◌≢◌}
use mathlib.Core.List.{List}
use native.Mathlib.Nat.{le_refl}
use native.Mathlib.Omega.{arith}
use lib.ListN.{length, get_or, set, take, drop, length-drop, length-set}
use lib.Seq.{get_or-set_same, get_or-set_other}
use Rattle.wire.proofs.Rest.{rest_part}
use Rattle.wire.specs.Sizes.{table_row, path_room, most_letters}
use Rattle.rounds.specs.Rounds.{Within}
use Rattle.rounds.specs.Place.{cell_place}
use Rattle.rounds.specs.Table.{cell, entry}
use Rattle.rounds.proofs.Upto.{within}
use Rattle.graph.specs.Content.{Graph, vertex_count, path_count}
use Rattle.anchors.specs.Anchors.{AnchorSet}
use Rattle.cover.specs.Walks.{L}
use Rattle.cover.specs.Cells.{vertex}
use Rattle.cover.specs.CoverDistance.{path_at, along}
use Rattle.cover.specs.Row.{unknown, put, below, back, backs, Says, IsRow}
use Rattle.cover.proofs.GoodLaws.{path-vertex, path-short}
use Rattle.cover.proofs.ReachRounds.{reach-within}
use Rattle.cover.proofs.RowLaws.{unknown-size, unknown-entry}
use Rattle.cover.proofs.RowSteps.{sum-few, along-back}
use Rattle.cover.proofs.CoverLaws.{row_is}
use Rattle.cover.proofs.TablesThere.{closed-few}
use Rattle.steps.specs.Setting.{Setting, length_in, below_in, back_in, path_from, backs_in, closed_entry, row_in, Holds}
use Rattle.pair_step.specs.Pairs.{Ends}
use Rattle.steps.specs.Rowing.{SumsFit, BackFits, tables_of, with_anchors, Stands}
use Rattle.steps.proofs.RowTurns.{backs_turn}

less_one : (k : ℕ) → suc k - 1 ≡ k
less_one k = omega arith

module _ {s : Setting} {g : Graph} {a : AnchorSet} (H : Holds s g a) where
  pub held-vertex : {v : ℕ} → Within s.n v → Within (vertex_count g) v
  held-vertex w = within w.low (omega (arith, H.vertices))

  pub held-path : {i : ℕ} → Within s.k i → Within (path_count g) i
  held-path k = within k.low (omega (arith, H.paths_are))

  held-column : {i : ℕ} → Within s.k i → Within table_row i
  held-column k = within k.low (omega (arith, H.paths_are, H.good.few_paths))

  -- the tables' cells have their places
  pub held-cell : (v i : ℕ) → Within s.n v → Within s.k i → (cell_place v i < length s.reach) × (cell_place v i < length s.distance)
  held-cell v i w k =
      let j = held-column k in
      (omega (arith, H.reach.size, H.vertices), omega (arith, H.distance.size, H.vertices))

  -- a closed walk is a small number
  pub held-closed : (v : ℕ) → Within s.n v → entry v s.closed ≤ most_letters
  held-closed v w = closed-few H.good (H.closed v w)

  held-reach : (v i : ℕ) → Within s.n v → Within s.k i → cell cell_place v i s.reach ≤ length (path_at g i)
  held-reach v i w k = reach-within (H.reach.cells v i (held-vertex w) (held-column k))

  -- ---- the places of a path

  module _ (i b : ℕ) (k : Within s.k i) (l : b < length (path_at g i)) where
    place_is : get_or (path_from s.paths i) b 0 ≡ vertex (path_at g i) (suc b)
    unfolding vertex
    place_is = H.paths i b k l ∙ ap (λ (j : ℕ). get_or (path_at g i) j 0) (sym (less_one b))

    place-within : Within s.n (get_or (path_from s.paths i) b 0)
    place-within =
        let w = path-vertex H.good i (held-path k) (suc b) (within (omega arith) l) in
        rw place_is (within w.low (omega (arith, H.vertices)))

    place_label : length_in s.lengths (get_or (path_from s.paths i) b 0) ≡ L g (vertex (path_at g i) (suc b))
    place_label = H.lengths _ place-within ∙ ap (L g) place_is

  -- ---- the way back along a path

  module _ (v i : ℕ) (w : Within s.n v) (k : Within s.k i) where
    sums_fit : (b sum : ℕ) → b ≤ cell cell_place v i s.reach
        → (1 ≤ b → sum ≡ along g (path_at g i) b (cell cell_place v i s.reach - b) + cell cell_place v i s.distance)
        → SumsFit s.lengths (path_from s.paths i) b sum
    unfolding SumsFit below_in
    sums_fit zero sum l e = tt
    sums_fit (suc b) sum l e = (
      omega (arith, e (omega arith), sum-few H.good H.reach H.distance v i (suc b) (held-vertex w) (held-path k) (within (omega arith) l)),
      sums_fit b (below_in s.lengths (path_from s.paths i) b sum) (omega arith) (λ h. next b h l (e (omega arith))),
    )
      where
        next : (b : ℕ) → 1 ≤ b → suc b ≤ cell cell_place v i s.reach
            → sum ≡ along g (path_at g i) (suc b) (cell cell_place v i s.reach - suc b) + cell cell_place v i s.distance
            → below_in s.lengths (path_from s.paths i) b sum ≡ along g (path_at g i) b (cell cell_place v i s.reach - b) + cell cell_place v i s.distance
        next zero h l e = absurd (omega arith)
        next (suc b) h l e =
            let q : suc b + 1 ≡ suc (suc b) = omega arith in
            omega (
              arith,
              held-reach v i w k,
              place_label i b k (omega (arith, held-reach v i w k)),
              rw q at (along-back g (path_at g i) (suc b) (cell cell_place v i s.reach) (omega arith)),
            )

    pub back_fits : BackFits s.n s.lengths (path_from s.paths i) (cell cell_place v i s.reach) (cell cell_place v i s.distance)
    unfolding along
    back_fits = record {
      labels = H.length_room;
      room = rw length-drop (omega (arith, held-reach v i w k, path-short H.good i, H.good.few_vertices, H.path_rooms));
      vertices = λ b h. place-within i b k (omega (arith, held-reach v i w k));
      sums = sums_fit (cell cell_place v i s.reach) (cell cell_place v i s.distance) (le_refl _) (λ h. start);
    }
      where
        start : cell cell_place v i s.distance ≡ along g (path_at g i) (cell cell_place v i s.reach) (cell cell_place v i s.reach - cell cell_place v i s.reach) + cell cell_place v i s.distance
        start = let e : cell cell_place v i s.reach - cell cell_place v i s.reach ≡ 0 = omega arith in rw e (omega arith)

-- ---- a turn of the loop over the paths, in the code's numbers: path i + 1 is lent from 1,024 i on, its cells lie at 16 (v − 1) + i

lent_path : (paths : List ℕ) (i : ℕ) → take (length paths - path_room * i) (drop (path_room * i) paths) ≡ path_from paths (i + 1)
lent_path paths i =
    let e : path_room * i ≡ path_room * (i + 1 - 1) = omega arith in
    rest_part (path_room * i) paths ∙ ap (λ (q : ℕ). drop q paths) e

lent_cell : (table : List ℕ) (v i : ℕ) → get_or table (table_row * (v - 1) + i) 0 ≡ cell cell_place v (i + 1) table
lent_cell table v i = ap (λ (q : ℕ). get_or table q 0) (omega arith)

module _ (s : Setting) (v i : ℕ) where
  pub lent_fits : {g : Graph} {a : AnchorSet} → Holds s g a → Within s.n v → i < s.k
      → BackFits s.n s.lengths (take (length s.paths - path_room * i) (drop (path_room * i) s.paths))
      (get_or s.reach (table_row * (v - 1) + i) 0) (get_or s.distance (table_row * (v - 1) + i) 0)
  lent_fits H w l = rw (lent_path s.paths i, lent_cell s.reach v i, lent_cell s.distance v i) (back_fits H v (i + 1) w (within (omega arith) (omega arith)))

  pub lent_turn : (row : List ℕ) → backs_in s v (i + 1) row
      ≡ back_in s.lengths (take (length s.paths - path_room * i) (drop (path_room * i) s.paths))
      (get_or s.reach (table_row * (v - 1) + i) 0) (get_or s.distance (table_row * (v - 1) + i) 0) (backs_in s v i row)
  lent_turn row = rw (lent_path s.paths i, lent_cell s.reach v i, lent_cell s.distance v i) (backs_turn s v row i)

-- ---- a setting's tables, without its anchors

-- they give the same rows
pub tables-row : (s : Setting) (v : ℕ) → row_in (tables_of s) v ≡ row_in s v
unfolding row_in backs_in
tables-row s v = ap (λ (row : List ℕ). set row (v - 1) (closed_entry (entry v s.closed))) (go s.k)
  where
    go : (j : ℕ) → backs_in (tables_of s) v j (unknown s.n) ≡ backs_in s v j (unknown s.n)
    go zero = refl
    go (suc j) = ap (back_in s.lengths (path_from s.paths (suc j)) (cell cell_place v (suc j) s.reach) (cell cell_place v (suc j) s.distance)) (go j)

-- a row over the tables alone is a row over the setting
pub row_over : (t : Setting) (count : ℕ) (numbers : List ℕ) (ends : Ends) (v : ℕ) → row_in t v ≡ row_in (with_anchors t count numbers ends) v
row_over t count numbers ends v = sym (tables-row t v) ∙ tables-row (with_anchors t count numbers ends) v

-- and the row that stands for a vertex stands for it over the tables alone
pub stands_over : (t : Setting) (u : Option ℕ) (row : List ℕ) (count : ℕ) (numbers : List ℕ) (ends : Ends) → Stands (with_anchors t count numbers ends) u row → Stands t u row
stands_over t None row count numbers ends h = tt
stands_over t (Some v) row count numbers ends h = h ∙ sym (row_over t count numbers ends v)

-- ---- what the row says

module _ {s : Setting} {g : Graph} {a : AnchorSet} (H : Holds s g a) where
  below-is : (i b sum : ℕ) → Within s.k i → b ≤ length (path_at g i)
      → below_in s.lengths (path_from s.paths i) b sum ≡ below g (path_at g i) b sum
  unfolding below_in below
  below-is i zero sum k l = refl
  below-is i (suc b) sum k l = ap (λ (x : ℕ). sum + x) (place_label H i b k (omega arith))

  back_is : (i b sum : ℕ) (row : List ℕ) → Within s.k i → b ≤ length (path_at g i)
      → back_in s.lengths (path_from s.paths i) b sum row ≡ back g (path_at g i) b sum row
  unfolding back_in back
  back_is i zero sum row k l = refl
  back_is i (suc b) sum row k l =
      back_is i b _ _ k (omega arith)
      ∙ ap (λ (x : ℕ). back g (path_at g i) b x (put (get_or (path_from s.paths i) b 0) sum row)) (below-is i b sum k (omega arith))
      ∙ ap (λ (u : ℕ). back g (path_at g i) b (below g (path_at g i) b sum) (put u sum row)) (place_is H i b k (omega arith))

  module _ (v : ℕ) (w : Within s.n v) where
    backs-are : (j : ℕ) (row : List ℕ) → j ≤ s.k → backs_in s v j row ≡ backs g s.reach s.distance v j row
    unfolding backs_in backs
    backs-are zero row l = refl
    backs-are (suc j) row l =
        let k : Within s.k (suc j) = within (omega arith) l in
        back_is (suc j) _ _ _ k (held-reach H v (suc j) w k)
        ∙ ap (back g (path_at g (suc j)) (cell cell_place v (suc j) s.reach) (cell cell_place v (suc j) s.distance)) (backs-are j row (omega arith))

    -- over the paths it is the row of cover distances
    backs-row : IsRow g v (backs_in s v s.k (unknown s.n))
    backs-row =
        rw (backs-are s.k (unknown s.n) (le_refl _), ← H.paths_are)
        (row_is H.good H.reach H.distance v (held-vertex H w) (unknown s.n) (omega (arith, unknown-size s.n, H.vertices)) (λ u _. unknown-entry s.n u))

    backs-long : s.n ≤ length (backs_in s v s.k (unknown s.n))
    backs-long = omega (arith, backs-row.long, H.vertices)

    -- THE ROW of v: the cover distance to v from every other vertex
    pub row_says : (u : ℕ) → Within s.n u → u ≢ v → Says g u v (entry u (row_in s v))
    unfolding row_in
    row_says u wu h =
        rw (get_or-set_other (backs_in s v s.k (unknown s.n)) (v - 1) (u - 1) (closed_entry (entry v s.closed)) 0 (λ e. h (omega arith)))
        (backs-row.entries u (held-vertex H wu))

    -- and for v itself the closed walk
    pub row-own : entry v (row_in s v) ≡ closed_entry (entry v s.closed)
    unfolding row_in
    row-own = get_or-set_same (backs_in s v s.k (unknown s.n)) (v - 1) (closed_entry (entry v s.closed)) 0 (omega (arith, backs-long))

    pub row-long : s.n ≤ length (row_in s v)
    unfolding row_in
    row-long = rw length-set backs-long
