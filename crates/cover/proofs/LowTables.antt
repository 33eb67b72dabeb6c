-- What every state of the rounds of distance fulfils, in the middle of a row too: an entry is at most 1 more than the sum of all labels.
-- Assumes nothing.
use Prim.Native.Nat.{ℕ, zero, suc, ◌+◌, ◌*◌, ◌≤◌, zero-le}
use mathlib.Core.Path.{◌≡◌, refl, sym, ◌∙◌, subst}
use mathlib.Core.Logic.{◌⊎◌, inl, inr}
use mathlib.Core.List.{List}
use native.Mathlib.Nat.{le_refl}
use native.Mathlib.Decide.{ℕ_discrete}
use native.Mathlib.Omega.{arith}
use lib.ListN.{length, length-set}
use lib.Seq.{get_or-set_same, get_or-set_other}
use Rattle.wire.specs.Sizes.{table_row, most_letters}
use Rattle.rounds.specs.Rounds.{Within, Rounds}
use Rattle.rounds.specs.Rule.{Rule, value}
use Rattle.rounds.specs.Place.{Places, cell_place}
use Rattle.rounds.specs.Table.{cell, cell_step}
use Rattle.rounds.specs.Best.{Sources}
use Rattle.rounds.specs.Kinds.{least_rule, shift, Near}
use Rattle.rounds.proofs.InPlace.{Keeps, leaves}
use Rattle.rounds.proofs.Gather.{gather-first, gather-one}
use Rattle.rounds.proofs.Fits.{near-order}
use Rattle.rounds.proofs.Table.{cell-places, row_keeps}
use Rattle.rounds.proofs.Upto.{total}
use Rattle.graph.specs.Content.{Graph, vertex_count, edge_count}
use Rattle.graph.specs.Good.{GoodGraph}
use Rattle.cover.specs.Walks.{L, from}
use Rattle.cover.specs.CoverDistance.{path_at}
use Rattle.cover.specs.TableRounds.{table_of, home, edge_links, level_links, column_over, distance_start}
use Rattle.cover.proofs.GoodLaws.{edge-from, labels-few}
use Rattle.cover.proofs.TableLaws.{table_size, table_cell}
use Rattle.cover.proofs.DistanceRounds.{home_sound, distance_sixteen}
use Rattle.cover.proofs.Low.{Low, Gets, as_it_was, newly, nearer, low_step, low-start, fits}

-- what is at least as near, and brought by a link
gets_near : (n : ℕ) (lab f : ℕ → ℕ) (v u : ℕ) → Within n u → (x y z : ℕ) → f v ≡ y → f u ≡ z → Near y x → x ≡ shift z (lab u) → Gets n lab f v x
unfolding Near shift
gets_near n lab f v u w x zero zero e q h s = subst (Gets n lab f v) (e ∙ sym s) as_it_was
gets_near n lab f v u w x zero (suc d) e q h s = subst (Gets n lab f v) (omega arith) (newly u w e (omega arith))
gets_near n lab f v u w zero (suc a) z e q h s = absurd h
gets_near n lab f v u w (suc x) (suc a) z e q h s = nearer {x = suc x} (omega arith) (omega arith)

module _ (g : Graph) where
  -- each column is low
  pub record LowTable (t : List ℕ) : Type 0 where
    pub long : length t ≡ table_row * vertex_count g
    pub columns : (i : ℕ) → Within table_row i → Low (vertex_count g) (L g) (λ v. cell cell_place v i t)

module _ (g : Graph) (sources : Sources (vertex_count g) (edge_links g)) where
  places : Places cell_place (vertex_count g) table_row (table_row * vertex_count g)
  places = cell-places (vertex_count g) table_row (table_row * vertex_count g) (le_refl table_row) (le_refl _)

  -- a cell's step sets that cell
  step_same : (rules : ℕ → Rule) (v i : ℕ) (t : List ℕ) → length t ≡ table_row * vertex_count g → Within (vertex_count g) v → Within table_row i
      → cell cell_place v i (cell_step cell_place rules v i t) ≡ value (rules i) (λ u. cell cell_place u i t) v
  unfolding cell_step
  step_same rules v i t l w k = get_or-set_same t (cell_place v i) _ 0 (omega (arith, places.inside v i w k))

  -- and no other
  step_other : (rules : ℕ → Rule) (v i u j : ℕ) (t : List ℕ) → Within (vertex_count g) v → Within table_row i → Within (vertex_count g) u → Within table_row j
      → ¬ ((u ≡ v) × (j ≡ i)) → cell cell_place u j (cell_step cell_place rules v i t) ≡ cell cell_place u j t
  unfolding cell_step
  step_other rules v i u j t w k wu wj h = get_or-set_other t (cell_place v i) (cell_place u j) _ 0 (λ e. h (places.apart u v j i wu w wj k e))

  step-long : (rules : ℕ → Rule) (v i : ℕ) (t : List ℕ) → length (cell_step cell_place rules v i t) ≡ length t
  unfolding cell_step
  step-long rules v i t = length-set t (cell_place v i) _

  -- a step of the distance rounds keeps every column low, whatever the levels
  pub low_keeps : (r : ℕ → ℕ → ℕ) (v : ℕ) → Within (vertex_count g) v → Keeps table_row (cell_step cell_place (λ i. least_rule (level_links g (r i)) (λ e. L g (from g e))) v) (LowTable g)
  unfolding value
  low_keeps r v w i t k p = record { long = step-long rules v i t ∙ p.long; columns = λ j wj. at j wj (ℕ_discrete j i) }
    where
      rules : ℕ → Rule
      rules i = least_rule (level_links g (r i)) (λ e. L g (from g e))

      f : ℕ → ℕ
      f u = cell cell_place u i t

      gets : {x : ℕ} → Near (f v) x → (x ≡ f v) ⊎ ((e : ℕ) × Within (edge_count g) e × ((level_links g (r i)).Into v e) × (x ≡ shift (f (from g e)) (L g (from g e)))) → Gets (vertex_count g) (L g) f v x
      gets h (inl e) = rw e as_it_was
      gets {x} h (inr (e, l, _, q)) = gets_near (vertex_count g) (L g) f v (from g e) (sources e l) x (f v) (f (from g e)) refl refl h q

      at : (j : ℕ) → Within table_row j → Dec (j ≡ i) → Low (vertex_count g) (L g) (λ u. cell cell_place u j (cell_step cell_place rules v i t))
      at j wj (yes q) = rw q (low_step (vertex_count g) (L g) f (λ u. cell cell_place u i (cell_step cell_place rules v i t)) v w
          (λ u wu h. step_other rules v i u i t w k wu k (λ x. h x.0))
          (subst (Gets (vertex_count g) (L g) f v) (sym (step_same rules v i t p.long w k)) (gets (gather-first near-order _ _ _ (edge_count g)) (gather-one near-order _ _ _ (edge_count g))))
          (p.columns i k))
      at j wj (no h) = low_step (vertex_count g) (L g) (λ u. cell cell_place u j t) (λ u. cell cell_place u j (cell_step cell_place rules v i t)) v w
          (λ u wu _. step_other rules v i u j t w k wu wj (λ x. h x.1))
          (subst (Gets (vertex_count g) (L g) (λ u. cell cell_place u j t) v) (sym (step_other rules v i v j t w k w wj (λ x. h x.1))) as_it_was)
          (p.columns j wj)

-- ---- where the rounds start

-- whatever the levels, at the start every column is low
pub low_begins : (g : Graph) (paths : ℕ → List ℕ) (r : ℕ → ℕ → ℕ) → LowTable g (table_of (vertex_count g) (λ v i. home (paths i) (r i v) v))
low_begins g paths r = record {
  long = table_size (vertex_count g) _;
  columns = λ i k. low-start (vertex_count g) (L g) _ (λ v w. rw (table_cell (vertex_count g) (λ v i. home (paths i) (r i v) v) v i w k) (home-few (paths i) (r i v) v));
}
  where
    home-few : (p : List ℕ) (r v : ℕ) → home p r v ≤ 1
    home-few p r v = go (home p r v) refl
      where
        go : (x : ℕ) → home p r v ≡ x → x ≤ 1
        go zero e = zero-le
        go (suc d) e = omega (arith, (home_sound p r v d e).2)

-- the distance entries never pass one more than the sum of all labels; with the label of its vertex neither
pub low-entry : {g : Graph} → GoodGraph g → {t : List ℕ} → LowTable g t → (v i : ℕ) → Within (vertex_count g) v → Within table_row i
    → (cell cell_place v i t ≡ 0) ⊎ (cell cell_place v i t + L g v ≤ most_letters + 1)
low-entry {g} G {t} p v i w k = go (fits (vertex_count g) (L g) _ (p.columns i k) v w)
  where
    go : {x : ℕ} → (x ≡ 0) ⊎ (x + L g v ≤ suc (total (L g) (vertex_count g))) → (x ≡ 0) ⊎ (x + L g v ≤ most_letters + 1)
    go (inl z) = inl z
    go (inr h) = inr (omega (arith, labels-few G))

-- ---- every state of the rounds of a good graph

module _ {g : Graph} (G : GoodGraph g) where
  -- a distance entry is at most the sum of all labels and 1
  pub distance_begins : (reach : List ℕ) → LowTable g (distance_start g reach)
  distance_begins reach = low_begins g (path_at g) (λ i v. cell cell_place v i reach)

  pub distance_keeps : (reach : List ℕ) (v : ℕ) → Within (vertex_count g) v → Keeps table_row (cell_step cell_place (λ i. (column_over g reach i).rule) v) (LowTable g)
  distance_keeps reach = low_keeps g (edge-from G) (λ i v. cell cell_place v i reach)

  pub distance-ends : (reach : List ℕ) {k : ℕ} {t : List ℕ} → Rounds (distance_sixteen g reach) (distance_start g reach) k t → LowTable g t
  distance-ends reach r = leaves (vertex_count g) _ (LowTable g) (row_keeps cell_place _ (vertex_count g) table_row (LowTable g) (distance_keeps reach)) r (distance_begins reach)
