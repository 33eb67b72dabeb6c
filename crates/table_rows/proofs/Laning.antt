-- A row of sixteen cells: filled lane by lane, and written into a table. Assumes nothing.
use Prim.Native.Nat.{ℕ, zero, suc, ◌+◌, ◌-◌, ◌*◌, ◌%◌, ◌≤◌, ◌<◌}
use mathlib.Core.Path.{◌≡◌, refl, sym, ap, ◌∙◌}
use mathlib.Core.Logic.{◌≢◌, if_pos, if_neg}
use mathlib.Core.List.{List}
use native.Mathlib.Nat.{le_refl}
use native.Mathlib.Decide.{ℕ_discrete}
use native.Mathlib.Omega.{arith}
use lib.ListN.{length, get_or, set, length-set}
use lib.Seq.{get_or-set_same, get_or-set_other}
use Rattle.wire.specs.Sizes.{table_row}
use Rattle.rounds.specs.Rounds.{Within, sweep}
use Rattle.rounds.specs.Rule.{Rule, value}
use Rattle.rounds.specs.Place.{Places, cell_place}
use Rattle.rounds.specs.Table.{cell, cell_step, row_step}
use Rattle.rounds.specs.Best.{Sources}
use Rattle.rounds.specs.Kinds.{shift, closer}
use Rattle.rounds.proofs.Upto.{within}
use Rattle.rounds.specs.Loop.{Told, RowMoved}
use Rattle.rounds.proofs.InPlace.{Local}
use Rattle.rounds.proofs.Turns.{Swept}
use mathlib.Core.Bool.{Bool}
use Rattle.rounds.proofs.Gather.{value_ext}
use Rattle.rounds.proofs.Table.{cell-places, row-rest}
use Rattle.table_rows.specs.Lanes.{Lanes, how_far, brought, put_cell, put_row}

-- ---- a loop that fills a row lane by lane

-- lanes before i are f's, and the others as they were
pub record Laned (f : ℕ → ℕ) (old row : List ℕ) (i : ℕ) : Type 0 where
  pub upto : i ≤ table_row
  pub long : length row ≡ table_row
  pub done : (j : ℕ) → j < i → get_or row j 0 ≡ f j
  pub rest : (j : ℕ) → i ≤ j → get_or row j 0 ≡ get_or old j 0

pub laned_none : (f : ℕ → ℕ) (old : List ℕ) → length old ≡ table_row → Laned f old old 0
laned_none f old l = record { upto = omega arith; long = l; done = λ j h. absurd (omega arith); rest = λ j h. refl }

pub laned_more : {f : ℕ → ℕ} {old row : List ℕ} {i : ℕ} (x : ℕ) → i < table_row → Laned f old row i → x ≡ f i → Laned f old (set row i x) (i + 1)
laned_more {f} {old} {row} {i} x h w e = record {
  upto = omega arith;
  long = length-set row i x ∙ w.long;
  done = λ j l. at j (ℕ_discrete j i) l;
  rest = λ j l. get_or-set_other row i j x 0 (omega arith) ∙ w.rest j (omega arith);
}
  where
    at : (j : ℕ) → Dec (j ≡ i) → j < i + 1 → get_or (set row i x) j 0 ≡ f j
    at j (yes q) l = rw q (get_or-set_same row i x 0 (omega (arith, w.long)) ∙ e)
    at j (no d) l = get_or-set_other row i j x 0 d ∙ w.done j (omega arith)

pub laned_done : {f : ℕ → ℕ} {old row : List ℕ} {i : ℕ} → table_row ≤ i → Laned f old row i → Lanes row f
laned_done h w = record { long = w.long; lane = λ j l. w.done j (omega arith) }

-- ---- what an edge brings to a distance entry

pub brought_level : (x far there here : ℕ) → there ≡ here → brought x far there here ≡ shift x far
unfolding brought
brought_level x far there here e = if_pos (ℕ_discrete there here) e _ _

pub brought-none : (x far there here : ℕ) → there ≢ here → brought x far there here ≡ 0
unfolding brought
brought-none x far there here d = if_neg (ℕ_discrete there here) d _ _

-- how far an entry is: less 1, and 0 wraps
pub far-wraps : (x : ℕ) → x < 4294967296 → (x + 4294967295) % 4294967296 ≡ how_far x
unfolding how_far
far-wraps zero l = refl
far-wraps (suc d) l = omega arith

-- the nearer of two entries, by how far they are
pub closer_second : (x y : ℕ) → x < 4294967296 → how_far y < how_far x → closer x y ≡ y
unfolding closer how_far
closer_second zero y b h = refl
closer_second (suc x) zero b h = absurd (omega arith)
closer_second (suc x) (suc y) b h = omega arith

pub closer_stays : (x y : ℕ) → y < 4294967296 → (how_far y < how_far x → ⊥) → closer x y ≡ x
unfolding closer how_far
closer_stays zero zero b h = refl
closer_stays zero (suc y) b h = absurd (h (omega arith))
closer_stays (suc x) zero b h = refl
closer_stays (suc x) (suc y) b h = omega arith

pub closer-none : (x : ℕ) → closer x 0 ≡ x
unfolding closer
closer-none zero = refl
closer-none (suc x) = refl

pub closer-both : {r a b x y : ℕ} → r ≡ closer a b → a ≡ x → b ≡ y → r ≡ closer x y
closer-both e p q = rw (← p, ← q) e

pub shift_none : (l : ℕ) → shift 0 l ≡ 0
unfolding shift
shift_none l = refl

pub shift-some : (x l : ℕ) → 1 ≤ x → shift x l ≡ x + l
unfolding shift
shift-some zero l h = absurd (omega arith)
shift-some (suc x) l h = omega arith

-- ---- a row written into a table

pub put_local : (v : ℕ) (row : List ℕ) → 1 ≤ v → (i : ℕ) → Within 1 i → Local table_row (put_cell v row) (cell cell_place v)
unfolding put_cell
put_local v row l i _ j k s wj wk h = get_or-set_other s (cell_place v k) (cell_place v j) _ 0 (omega arith)

-- what the step of cell i + 1 sets
pub put-cell : (v : ℕ) (row : List ℕ) (i : ℕ) (t : List ℕ) → 1 ≤ v → put_cell v row (i + 1) t ≡ set t (16 * (v - 1) + i) (get_or row i 0)
unfolding put_cell
put-cell v row i t l =
    let p : 16 * (v - 1) + (i + 1) - 1 ≡ 16 * (v - 1) + i = omega arith in
    let q : i + 1 - 1 ≡ i = omega arith in
    rw (p, q)

-- where the row has the values that the cells are to take, this is the row's step
module _ (n : ℕ) (rules : ℕ → Rule) (sources : (i : ℕ) → Within table_row i → Sources n (rules i).links) where
  pub put-row : (v : ℕ) (row s : List ℕ) → Within n v → Lanes row (λ i. value (rules (i + 1)) (λ u. cell cell_place u (i + 1) s) v) → put_row v row s ≡ row_step cell_place rules table_row v s
  unfolding row_step sweep put_cell cell_step
  put-row v row s w r = go table_row (le_refl table_row)
    where
      L : Places cell_place n table_row (16 * n)
      L = cell-places n table_row (16 * n) (le_refl table_row) (le_refl _)

      go : (k : ℕ) → k ≤ table_row → sweep (put_cell v row) k s ≡ sweep (cell_step cell_place rules v) k s
      go zero l = refl
      go (suc k) l =
          let t = sweep (cell_step cell_place rules v) k s in
          let next : Within table_row (suc k) = within (omega arith) l in
          let same : (u : ℕ) → Within n u → cell cell_place u (suc k) t ≡ cell cell_place u (suc k) s =
          λ u wu. row-rest cell_place rules v k (cell_place u (suc k)) s (λ j wj e. absurd (omega (arith, (L.apart u v (suc k) j wu w next (within wj.low (omega arith)) e).1))) in
          let e : k + 1 ≡ suc k = omega arith in
          let q : suc k - 1 ≡ k = omega arith in
          let x : get_or row (suc k - 1) 0 ≡ value (rules (suc k)) (λ u. cell cell_place u (suc k) t) v =
          ap (λ (y : ℕ). get_or row y 0) q ∙ r.lane k (omega arith) ∙ ap (λ (y : ℕ). value (rules y) (λ u. cell cell_place u y s) v) e
          ∙ sym (value_ext (rules (suc k)) _ _ v (same v w) (λ e y. same _ (sources (suc k) next e y))) in
          ap (λ (y : List ℕ). set y (cell_place v (suc k)) (get_or row (suc k - 1) 0)) (go k (omega arith)) ∙ ap (set t (cell_place v (suc k))) x

-- a row written: the table, and whether a cell of it changed
pub put-told : (v : ℕ) (row : List ℕ) {s t : List ℕ} {b : Bool} → Swept 1 (put_cell v row) (λ i _. cell cell_place v i) s table_row t b → (t ≡ put_row v row s) × Told b (RowMoved cell_place table_row v s t) (t ≡ s)
put-told v row w = (w.is, record { moved = λ q. let (_, _, m) = w.told.moved q in (m.0, m.1, rw w.is m.2); still = w.told.still })
