-- The rules of distance and of least walks, as code follows them. Assumes nothing.
use Prim.Native.Nat.{ℕ}
use mathlib.Core.Path.{refl, ap, ◌∙◌}
use mathlib.Core.List.{List}
use Rattle.rounds.specs.Place.{cell_place}
use Rattle.rounds.specs.Table.{cell}
use Rattle.rounds.specs.Kinds.{shift, closer}
use Rattle.table_rows.specs.Lanes.{brought}
use Rattle.table_rows.proofs.Laning.{brought_level, brought-none, closer-none}
use Rattle.table_lanes.specs.Follows.{Follows}
use Rattle.table_rounds.specs.Held.{label_length, near, onward}

pub near_follows : (m : ℕ) (lengths edges reach : List ℕ) (i : ℕ)
    → Follows m edges (near m lengths edges reach i) (λ u v x y. closer x (brought y (label_length lengths u) (cell cell_place u i reach) (cell cell_place v i reach)))
near_follows m lengths edges reach i = record {
  all = refl;
  from = λ e. refl;
  into = λ v e t. t.0;
  link = λ v e x y t. ap (closer x) (brought_level _ _ _ _ t.1);
  none = λ v e x y t d. ap (closer x) (brought-none _ _ _ _ (λ q. d (t, q))) ∙ closer-none x;
}

pub onward_follows : (m : ℕ) (lengths edges : List ℕ) (i : ℕ) → Follows m edges (onward m lengths edges i) (λ u v x y. closer x (shift y (label_length lengths u)))
onward_follows m lengths edges i = record { all = refl; from = λ e. refl; into = λ v e t. t; link = λ v e x y t. refl; none = λ v e x y t d. absurd (d t) }
