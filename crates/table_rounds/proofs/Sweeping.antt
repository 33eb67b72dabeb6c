-- The loop over the rows of a table, by any rules: what a turn adds where it writes a row that has the values to be taken. Assumes nothing.
use Prim.Native.Nat.{ℕ, ◌+◌, ◌*◌, ◌<◌}
use mathlib.Core.Path.{◌≡◌, refl, ap, ◌∙◌}
use mathlib.Core.Bool.{Bool, true}
use mathlib.Core.List.{List}
use native.Mathlib.Nat.{le_refl}
use native.Mathlib.Numerals.{add-one}
use native.Mathlib.Omega.{arith}
use lib.ListN.{length}
use Rattle.wire.specs.Sizes.{table_row}
use Rattle.rounds.specs.Rounds.{Within, iterate}
use Rattle.rounds.specs.Rule.{Rule, value}
use Rattle.rounds.specs.Place.{cell_place}
use Rattle.rounds.specs.Table.{cell, row_step}
use Rattle.rounds.specs.Best.{Sources}
use Rattle.rounds.specs.Loop.{RowMoved}
use Rattle.rounds.proofs.Upto.{within}
use Rattle.rounds.proofs.InPlace.{Local}
use Rattle.rounds.proofs.Table.{cell-places, row_local}
use Rattle.rounds.proofs.Turns.{Swept, swept_same, swept-moved}
use Rattle.table_rows.specs.Lanes.{Lanes, put_row}
use Rattle.table_rows.proofs.Laning.{put-row}

-- the first v rows are renewed, and the flag says whether a cell is not what it was
abbrev pub RowsSwept : (ℕ → Rule) → List ℕ → ℕ → List ℕ → Bool → Type 0
RowsSwept rules = Swept table_row (row_step cell_place rules table_row) (cell cell_place)

module _ (n : ℕ) (rules : ℕ → Rule) (sources : (i : ℕ) → Within table_row i → Sources n (rules i).links) where
  rows : (i : ℕ) → Within table_row i → Local n (row_step cell_place rules table_row) (λ v. cell cell_place v i)
  rows = row_local cell_place n table_row (16 * n) (cell-places n table_row (16 * n) (le_refl table_row) (le_refl _)) rules

  -- a row that changed nothing
  pub rows_same : {s : List ℕ} {v : ℕ} {t : List ℕ} {b : Bool} (u row : List ℕ) → v < n → RowsSwept rules s v t b
      → Lanes row (λ i. value (rules (i + 1)) (λ u. cell cell_place u (i + 1) t) (v + 1)) → u ≡ put_row (v + 1) row t → u ≡ t → RowsSwept rules s (v + 1) u b
  rows_same {v = v} {t = t} u row l r h p e = swept_same n rows u l r (p ∙ put-row n rules sources (v + 1) row t (within (omega arith) (omega arith)) h) e

  -- a row that changed a cell
  pub rows_moved : {s : List ℕ} {v : ℕ} {t : List ℕ} {b : Bool} (u row : List ℕ) → v < n → RowsSwept rules s v t b
      → Lanes row (λ i. value (rules (i + 1)) (λ u. cell cell_place u (i + 1) t) (v + 1)) → u ≡ put_row (v + 1) row t → length u ≡ length t → RowMoved cell_place table_row (v + 1) t u → RowsSwept rules s (v + 1) u true
  rows_moved {v = v} {t = t} u row l r h p lu (i, k, d) = swept-moved n rows u i l r lu (p ∙ put-row n rules sources (v + 1) row t (within (omega arith) (omega arith)) h) k d

-- one more round
pub iterate-none : {S : Type 0} (round : S → S) (s : S) → s ≡ iterate round 0 s
unfolding iterate
iterate-none round s = refl

pub iterate-more : {S : Type 0} (round : S → S) (k : ℕ) (s t u : S) → t ≡ iterate round k s → u ≡ round t → u ≡ iterate round (k + 1) s
unfolding iterate
iterate-more round k s t u e h = rw (add-one k) (h ∙ ap round e)
