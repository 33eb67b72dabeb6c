-- A walk along the edges into a vertex: what each turn adds to a row of a table, by any rules that code follows edge by edge. Assumes nothing.
use Prim.Native.Nat.{ℕ, ◌+◌, ◌-◌, ◌*◌, ◌≤◌, ◌<◌}
use mathlib.Core.Path.{◌≡◌, sym, ap, ◌∙◌}
use mathlib.Core.Logic.{◌≢◌}
use mathlib.Core.List.{List}
use native.Mathlib.Omega.{arith}
use lib.ListN.{length, get_or}
use Rattle.wire.specs.Sizes.{table_row}
use Rattle.rounds.specs.Rounds.{Within}
use Rattle.rounds.specs.Gather.{gather}
use Rattle.rounds.specs.Rule.{Rule, value}
use Rattle.rounds.specs.Place.{cell_place}
use Rattle.rounds.specs.Table.{cell}
use Rattle.rounds.specs.Best.{Sources}
use Rattle.rounds.proofs.Gather.{gather_none, gather-take, gather_skip}
use Rattle.table_rows.specs.Lanes.{Lanes}
use Rattle.table_rows.specs.HeldEdges.{source, target, Held}
use Rattle.table_rows.specs.Lists.{IsNext}
use Rattle.table_rows.proofs.Linking.{Passes, gather_idle, Walking, walk-on, walk_turn, walk_end}
use Rattle.table_lanes.specs.Follows.{Follows, gathered}

-- a gathering's last turn, by the candidate's own number
take_last : {X : ℕ → Type 0} (join : ℕ → ℕ → ℕ) (test : (e : ℕ) → Dec (X e)) (candidate : ℕ → ℕ) (first e : ℕ) → 1 ≤ e → X e
    → gather join test candidate first e ≡ join (gather join test candidate first (e - 1)) (candidate e)
take_last {X} join test candidate first e l x =
    let q : e - 1 + 1 ≡ e = omega arith in
    rw q at (gather-take join test candidate first (e - 1) (rw q x))

skip_last : {X : ℕ → Type 0} (join : ℕ → ℕ → ℕ) (test : (e : ℕ) → Dec (X e)) (candidate : ℕ → ℕ) (first e : ℕ) → 1 ≤ e → ¬ X e
    → gather join test candidate first e ≡ gather join test candidate first (e - 1)
skip_last {X} join test candidate first e l x =
    let q : e - 1 + 1 ≡ e = omega arith in
    rw q at (gather_skip join test candidate first (e - 1) (rw q x))

-- cell (v, i + 1) at its place
pub at_cell : (v i : ℕ) (t : List ℕ) → 1 ≤ v → get_or t (16 * (v - 1) + i) 0 ≡ cell cell_place v (i + 1) t
at_cell v i t l = ap (λ (q : ℕ). get_or t q 0) (omega arith)

-- ---- a row, from first values on

module _ (table : List ℕ) (rules : ℕ → Rule) (first : ℕ → ℕ) (v : ℕ) where
  -- over the first k edges, what lane i takes
  unfoldable pub taken_by : ℕ → ℕ → ℕ
  taken_by k i = gather (rules (i + 1)).join ((rules (i + 1)).links.into? v)
      (λ e. (rules (i + 1)).carry v e (cell cell_place ((rules (i + 1)).links.source e) (i + 1) table)) (first i) k

  pub taken_none : (row : List ℕ) → length row ≡ table_row → ((i : ℕ) → i < table_row → get_or row i 0 ≡ first i) → Lanes row (taken_by 0)
  unfolding taken_by
  taken_none row l r = record { long = l; lane = λ i h. r i h ∙ sym (gather_none (rules (i + 1)).join ((rules (i + 1)).links.into? v) _ _) }

  module _ {edges : List ℕ} {m : ℕ} {take : ℕ → ℕ → ℕ → ℕ → ℕ → ℕ} (follows : (i : ℕ) → Follows m edges (rules i) (take i)) where
    -- an edge into v: lane i
    lane_turn : (e i x : ℕ) → 1 ≤ e → target edges e ≡ v → x ≡ taken_by (e - 1) i
        → take (i + 1) (source edges e) v x (cell cell_place (source edges e) (i + 1) table) ≡ taken_by e i
    unfolding taken_by
    lane_turn e i x l t o = go ((rules (i + 1)).links.into? v e)
      where
        f : Follows m edges (rules (i + 1)) (take (i + 1))
        f = follows (i + 1)

        go : Dec ((rules (i + 1)).links.Into v e) → take (i + 1) (source edges e) v x (cell cell_place (source edges e) (i + 1) table) ≡ taken_by e i
        go (yes p) =
            f.link v e x _ p
            ∙ ap (λ (y : ℕ). (rules (i + 1)).join y ((rules (i + 1)).carry v e (cell cell_place (source edges e) (i + 1) table))) o
            ∙ ap (λ (u : ℕ). (rules (i + 1)).join (taken_by (e - 1) i) ((rules (i + 1)).carry v e (cell cell_place u (i + 1) table))) (sym (f.from e))
            ∙ sym (take_last (rules (i + 1)).join ((rules (i + 1)).links.into? v) (λ d. (rules (i + 1)).carry v d (cell cell_place ((rules (i + 1)).links.source d) (i + 1) table)) _ e l p)
        go (no d) = f.none v e x _ t d ∙ o ∙ sym (skip_last (rules (i + 1)).join ((rules (i + 1)).links.into? v) _ _ e l d)

    taken_pass : (row : List ℕ) → Passes (target edges) v m (λ k. Lanes row (taken_by k))
    unfolding taken_by
    taken_pass row j k l h none r = record {
      long = r.long;
      lane = λ i b. r.lane i b ∙ gather_idle (rules (i + 1)).join ((rules (i + 1)).links.into? v) _ _ j k l (λ d x y z. none d x y ((follows (i + 1)).into v d z));
    }

    -- a turn of the walk, over an edge from u
    pub taken_turn : {e x : ℕ} (u : ℕ) (row new : List ℕ) → Walking (target edges) v m e (λ k. Lanes row (taken_by k)) → e ≢ 0 → u ≡ source edges e → 1 ≤ u
        → Lanes new (λ i. take (i + 1) u v (get_or row i 0) (get_or table (16 * (u - 1) + i) 0)) → IsNext (target edges) (target edges e) e m x
        → Walking (target edges) v m x (λ k. Lanes new (taken_by k))
    taken_turn {e} u row new w h q s r n =
        let (k, t) = walk-on w h in
        walk_turn {P = λ k. Lanes row (taken_by k)} {Q = λ k. Lanes new (taken_by k)} w h (taken_pass row) (λ o. record {
          long = r.long;
          lane = λ i b.
              r.lane i b
              ∙ ap (take (i + 1) u v (get_or row i 0)) (at_cell u i table s)
              ∙ ap (λ (y : ℕ). take (i + 1) y v (get_or row i 0) (cell cell_place y (i + 1) table)) q
              ∙ lane_turn e i (get_or row i 0) k.low t (o.lane i b);
        }) n

    -- the end of the walk
    pub taken_end : {e : ℕ} (row : List ℕ) → Walking (target edges) v m e (λ k. Lanes row (taken_by k)) → e ≡ 0
        → Lanes row (λ i. gathered (rules (i + 1)) (λ u. cell cell_place u (i + 1) table) v (first i))
    unfolding taken_by gathered
    taken_end row w z =
        let r = walk_end {P = λ k. Lanes row (taken_by k)} w z (taken_pass row) in
        record { long = r.long; lane = λ i b. r.lane i b ∙ ap (λ (k : ℕ). taken_by k i) (sym (follows (i + 1)).all) }

-- ---- the rules of a table that code follows

-- their links come from vertices
pub sources_held : {n m : ℕ} {edges : List ℕ} {rules : ℕ → Rule} {take : ℕ → ℕ → ℕ → ℕ → ℕ → ℕ} → Held n m edges → ((i : ℕ) → Follows m edges (rules i) (take i))
    → (i : ℕ) → Within table_row i → Sources n (rules i).links
sources_held {n} {edges = edges} {rules = rules} h f i _ e w = rw (f i).from (h.sources e (rw (f i).all at w))

-- a row from its own values on: the values that it is to take
pub renewed : (table : List ℕ) (rules : ℕ → Rule) (v : ℕ) {own row : List ℕ} → Lanes own (λ i. get_or table (16 * v + i) 0)
    → Lanes row (λ i. gathered (rules (i + 1)) (λ u. cell cell_place u (i + 1) table) (v + 1) (get_or own i 0))
    → Lanes row (λ i. value (rules (i + 1)) (λ u. cell cell_place u (i + 1) table) (v + 1))
unfolding gathered value
renewed table rules v {own} {row} o r = record {
  long = r.long;
  lane = λ i b. r.lane i b ∙ ap (λ (x : ℕ). gathered (rules (i + 1)) (λ u. cell cell_place u (i + 1) table) (v + 1) x) (o.lane i b ∙ ap (λ (q : ℕ). get_or table q 0) (omega arith));
}
