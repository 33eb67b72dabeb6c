-- THE THEOREM OF THE ROUNDS for a table in a list: `table_settles`; for one of up to sixteen columns, `sixteen_settles`; for a vector, `vector_settles`.
-- Assumes nothing.
use mathlib.Core.Path.{◌≡◌, refl, sym, ap, ◌∙◌, subst}
use mathlib.Core.Logic.{◌≢◌, ◌⊎◌, inl, inr}
use mathlib.Core.List.{List, List-discrete}
use Prim.Native.Nat.{ℕ, zero, suc, ◌+◌, ◌-◌, ◌*◌, ◌≤◌, ◌<◌}
use native.Mathlib.Nat.{le_refl, add-zero, add-suc}
use native.Mathlib.Decide.{ℕ_discrete}
use native.Mathlib.Omega.{arith}
use lib.ListN.{length, get_or, set, length-set}
use lib.Seq.{get_or-set_same, get_or-set_other, set-get_or, ext_get_or}
use Rattle.rounds.specs.Rounds.{Within, sweep, Rounds}
use Rattle.rounds.specs.Rule.{Rule, value}
use Rattle.rounds.specs.Place.{Places, cell_place, entry_place}
use Rattle.rounds.specs.Table.{cell, cell_step, row_step, table_round, entry, entry_step, vector_round}
use Rattle.rounds.specs.Best.{Link, Column, Sources, Fit, Started, Finished}
use Rattle.rounds.specs.Loop.{Settles}
use Rattle.rounds.proofs.Upto.{within, within-last, within-suc, within_none, within_cases, all_or_not}
use Rattle.rounds.proofs.Counts.{settles_map, rounds_mirror}
use Rattle.rounds.proofs.InPlace.{Local, Keeps, sweep_keeps, round_keeps}
use Rattle.rounds.proofs.Gather.{value_ext, gather-zero, gather-first, gather-each, gather-one}
use Rattle.rounds.proofs.Relax.{Takes, relax}

-- ---- places

-- cell (v, i) of n rows of sixteen lies below 16 n, and no other lies there
pub cell-places : (n wide len : ℕ) → wide ≤ 16 → 16 * n ≤ len → Places cell_place n wide len
cell-places n wide len h l = record {
  inside = λ v i w k. omega arith;
  apart = λ u v i j wu w wi k e. (omega arith, omega arith);
}

-- entry v of n lies below n, and no other lies there
pub entry-places : (n len : ℕ) → n ≤ len → Places entry_place n 1 len
entry-places n len l = record {
  inside = λ v i w k. omega arith;
  apart = λ u v i j wu w wi k e. (omega arith, omega arith);
}

-- ---- a row

module _ (place : ℕ → ℕ → ℕ) (rules : ℕ → Rule) where
  -- what is no place of the row's first j cells stays
  pub row-rest : (v j q : ℕ) (s : List ℕ) → ((i : ℕ) → Within j i → q ≢ place v i) → get_or (sweep (cell_step place rules v) j s) q 0 ≡ get_or s q 0
  unfolding sweep cell_step
  row-rest v zero q s h = refl
  row-rest v (suc j) q s h =
      let d = h (suc j) (within-last j) in
      rw get_or-set_other (row-rest v j q s (λ i w. h i (within-suc w)))

  -- what each cell's step keeps, a row's keeps
  pub row_keeps : (n wide : ℕ) (P : List ℕ → Type 0) → ((v : ℕ) → Within n v → Keeps wide (cell_step place rules v) P) → Keeps n (row_step place rules wide) P
  unfolding row_step
  row_keeps n wide P h v s w p = sweep_keeps wide (cell_step place rules v) P (h v w) wide s (le_refl wide) p

  pub row-long : (v j : ℕ) (s : List ℕ) → length (sweep (cell_step place rules v) j s) ≡ length s
  unfolding sweep cell_step
  row-long v zero s = refl
  row-long v (suc j) s = rw length-set (row-long v j s)

module _ (place : ℕ → ℕ → ℕ) (n wide len : ℕ) (L : Places place n wide len) (rules : ℕ → Rule) where
  -- a row's step leaves the other rows
  pub row_local : (i : ℕ) → Within wide i → Local n (row_step place rules wide) (λ v. cell place v i)
  unfolding row_step
  row_local i k u v s wu w h = row-rest place rules v wide (place u i) s (λ j wj e. h (L.apart u v i j wu w k wj e).0)

  module _ (sources : (i : ℕ) → Within wide i → Sources n (rules i).links) where
    -- the row's first j cells hold what they are to take, by the table before the row
    pub row-cells : (v : ℕ) (s : List ℕ) → Within n v → length s ≡ len → (j i : ℕ) → j ≤ wide → Within j i → cell place v i (sweep (cell_step place rules v) j s) ≡ value (rules i) (λ u. cell place u i s) v
    unfolding sweep cell_step
    row-cells v s w q zero i l k = absurd (within_none k)
    row-cells v s w q (suc j) i l k = go (row-cells v s w q j i (omega arith)) (within_cases k)
      where
        t : List ℕ
        t = sweep (cell_step place rules v) j s

        next : Within wide (suc j)
        next = within (omega arith) l

        same : (u : ℕ) → Within n u → cell place u (suc j) t ≡ cell place u (suc j) s
        same u wu = row-rest place rules v j (place u (suc j)) s (λ k wk e. absurd (omega (arith, (L.apart u v (suc j) k wu w next (within wk.low (omega arith)) e).1)))

        go : (Within j i → cell place v i t ≡ value (rules i) (λ u. cell place u i s) v) → (i ≡ suc j) ⊎ Within j i → cell place v i (set t (place v (suc j)) (value (rules (suc j)) (λ u. cell place u (suc j) t) v)) ≡ value (rules i) (λ u. cell place u i s) v
        go ih (inl e) = rw e (get_or-set_same t (place v (suc j)) _ 0 (omega (arith, row-long place rules v j s, L.inside v (suc j) w next))
            ∙ value_ext (rules (suc j)) _ _ v (same v w) (λ e x. same _ (sources (suc j) next e x)))
        go ih (inr x) = get_or-set_other t (place v (suc j)) (place v i) _ 0 (λ e. absurd (omega (arith, (L.apart v v i (suc j) w w (within x.low (omega arith)) next e).1))) ∙ ih x

    -- after a row's step each of its cells holds what it is to take
    pub row-value : (v i : ℕ) (s : List ℕ) → Within n v → Within wide i → length s ≡ len → cell place v i (row_step place rules wide v s) ≡ value (rules i) (λ u. cell place u i s) v
    unfolding row_step
    row-value v i s w k q = row-cells v s w q wide i (le_refl wide) k

    -- and a table with those cells, and all else as it was, is what the row's step leaves: in whatever order code fills the row
    pub row_is : (v : ℕ) (s t : List ℕ) → Within n v → length s ≡ len → length t ≡ length s
        → ((i : ℕ) → Within wide i → cell place v i t ≡ value (rules i) (λ u. cell place u i s) v)
        → ((q : ℕ) → ((i : ℕ) → Within wide i → q ≢ place v i) → get_or t q 0 ≡ get_or s q 0) → t ≡ row_step place rules wide v s
    unfolding row_step
    row_is v s t w l lt at rest = ext_get_or 0 t (sweep (cell_step place rules v) wide s) (lt ∙ sym (row-long place rules v wide s)) (λ q _. go q (all_or_not (λ i. not? (ℕ_discrete q (place v i))) wide))
      where
        not? : {X : Type 0} → Dec X → Dec (¬ X)
        not? (yes x) = no (λ h. h x)
        not? (no h) = yes h

        on : (q i : ℕ) → Within wide i → Dec (q ≡ place v i) → ¬ (q ≢ place v i) → get_or t q 0 ≡ get_or (sweep (cell_step place rules v) wide s) q 0
        on q i k (yes e) h = rw e (at i k ∙ sym (row-cells v s w l wide i (le_refl wide) k))
        on q i k (no d) h = absurd (h d)

        go : (q : ℕ) → ((i : ℕ) → Within wide i → q ≢ place v i) ⊎ ((i : ℕ) × Within wide i × (¬ (q ≢ place v i))) → get_or t q 0 ≡ get_or (sweep (cell_step place rules v) wide s) q 0
        go q (inl h) = rest q h ∙ sym (row-rest place rules v wide q s h)
        go q (inr (i, k, h)) = on q i k (ℕ_discrete q (place v i)) h

    -- a row's step that leaves its cells leaves the table
    row_fix : (v : ℕ) (s : List ℕ) → Within n v → length s ≡ len → ((i : ℕ) → Within wide i → cell place v i (row_step place rules wide v s) ≡ cell place v i s) → row_step place rules wide v s ≡ s
    row_fix v s w l h = sym (row_is v s s w l refl (λ i k. sym (h i k) ∙ row-value v i s w k l) (λ q _. refl))

-- Columns past `wide` whose cells no step changes may be left out: the rounds are the same.
module _ (place : ℕ → ℕ → ℕ) (rules : ℕ → Rule) (n wide more : ℕ) (P : List ℕ → Type 0)
    (keeps : (v : ℕ) → Within n v → Keeps wide (cell_step place rules v) P)
    (spare : (v i : ℕ) (t : List ℕ) → Within n v → wide < i → i ≤ wide + more → P t → cell_step place rules v i t ≡ t)
  where
    spare_row : (v : ℕ) (t : List ℕ) → Within n v → P t → row_step place rules (wide + more) v t ≡ row_step place rules wide v t
    unfolding row_step sweep
    spare_row v t w p = go more (le_refl more)
      where
        go : (j : ℕ) → j ≤ more → sweep (cell_step place rules v) (wide + j) t ≡ sweep (cell_step place rules v) wide t
        go zero l = rw add-zero
        go (suc j) l = rw add-suc (ap (cell_step place rules v (suc (wide + j))) (go j (omega arith)) ∙ spare v (suc (wide + j)) _ w (omega arith) (omega arith) (sweep_keeps wide (cell_step place rules v) P (keeps v w) wide t (le_refl wide) p))

    spare_round : (t : List ℕ) → P t → table_round place rules (wide + more) n t ≡ table_round place rules wide n t
    unfolding sweep
    spare_round t p = go n (le_refl n)
      where
        go : (m : ℕ) → m ≤ n → sweep (row_step place rules (wide + more)) m t ≡ sweep (row_step place rules wide) m t
        go zero l = refl
        go (suc m) l = ap (row_step place rules (wide + more) (suc m)) (go m (omega arith))
            ∙ spare_row (suc m) _ (within (omega arith) l) (sweep_keeps n (row_step place rules wide) P (row_keeps place rules n wide P keeps) m t (omega arith) p)

    keeps_round : (t : List ℕ) → P t → P (table_round place rules wide n t)
    keeps_round = round_keeps n (row_step place rules wide) P (row_keeps place rules n wide P keeps)

    pub spare_columns : {s t : List ℕ} {k : ℕ} → Rounds (table_round place rules (wide + more) n) s k t → P s → Rounds (table_round place rules wide n) s k t
    spare_columns =
        rounds_mirror (table_round place rules (wide + more) n) (table_round place rules wide n) (λ t. t) P (λ t p. rw (spare_round t p) (keeps_round t p))
        (λ t p. sym (spare_round t p)) (λ _ _ _ _ e. e)

-- Of sixteen columns, those past `wide` that hold 0, by rules that carry 0 as 0, may be left out.
module _ (n wide : ℕ) (rules : ℕ → Rule) (few : wide ≤ 16) (sources : (i : ℕ) → Sources n (rules i).links)
    (carried : (i v e : ℕ) → (rules i).carry v e 0 ≡ 0) (joined : (i : ℕ) → (rules i).join 0 0 ≡ 0)
  where
    -- the cells past `wide` hold 0
    abbrev pub Empty : List ℕ → Type 0
    Empty t = (v i : ℕ) → Within n v → wide < i → i ≤ 16 → cell cell_place v i t ≡ 0

    empty_keeps : (v : ℕ) → Within n v → Keeps wide (cell_step cell_place rules v) Empty
    unfolding cell_step
    empty_keeps v w j t k p u i wu l h = get_or-set_other t (cell_place v j) (cell_place u i) _ 0 (λ e. absurd (omega arith)) ∙ p u i wu l h

    empty_stays : (v i : ℕ) (t : List ℕ) → Within n v → wide < i → i ≤ 16 → Empty t → cell_step cell_place rules v i t ≡ t
    unfolding cell_step value
    empty_stays v i t w l h p =
        let none = gather-zero (rules i).join ((rules i).links.into? v) _ (rules i).links.m (joined i) (p v i w l h)
        (λ e k. ap ((rules i).carry v e) (p ((rules i).links.source e) i (sources i e k) l h) ∙ carried i v e) in
        ap (set t (cell_place v i)) (none ∙ sym (p v i w l h)) ∙ set-get_or t (cell_place v i) 0

    pub empty_columns : {s t : List ℕ} {k : ℕ} → Empty s → Rounds (table_round cell_place rules 16 n) s k t → Rounds (table_round cell_place rules wide n) s k t
    empty_columns {s} {t} {k} p r =
        let e : 16 ≡ wide + (16 - wide) = omega arith in
        spare_columns cell_place rules n wide (16 - wide) Empty empty_keeps (λ v i t w l h q. empty_stays v i t w l (omega arith) q)
        (subst (λ (x : ℕ). Rounds (table_round cell_place rules x n) s k t) e r) p

-- an entry's step leaves the other entries of a vector
pub entry_local : (n : ℕ) (rule : Rule) → Local n (entry_step rule) entry
unfolding cell_step
entry_local n rule u v s wu w h = get_or-set_other s (entry_place v 1) (entry_place u 1) _ 0 (λ e. h (omega arith))

-- ---- the theorem

module _ (place : ℕ → ℕ → ℕ) (n wide : ℕ) (columns : ℕ → Column) (s : List ℕ) (L : Places place n wide (length s)) (W : (i : ℕ) → Within wide i → Fit n (columns i)) where
  -- what is kept from s on: the length, and the places that are no cell's
  abbrev Shape : List ℕ → Type 0
  Shape t = (length t ≡ length s) × ((q : ℕ) → ((v i : ℕ) → Within n v → Within wide i → q ≢ place v i) → get_or t q 0 ≡ get_or s q 0)

  abbrev rules : ℕ → Rule
  rules i = (columns i).rule

  sources : (i : ℕ) → Within wide i → Sources n (rules i).links
  sources i k = (W i k).lawful.sources

  shape : Keeps n (row_step place rules wide) Shape
  unfolding row_step
  shape v t w (l, r) = (row-long place rules v wide t ∙ l, λ q h. row-rest place rules v wide q t (λ i k. h v i w k) ∙ r q h)

  takes : (i : ℕ) → Within wide i → Takes n (columns i) (row_step place rules wide) (λ v. cell place v i) Shape
  unfolding value
  takes i k = record {
    local = row_local place n wide (length s) L rules i k;
    shape = shape;
    keeps = λ v t w q. rw (row-value place n wide (length s) L rules sources v i t w k q.0) (gather-first (W i k).lawful.order _ _ _ (rules i).links.m);
    gains = λ v t w q a. rw (row-value place n wide (length s) L rules sources v i t w k q.0, ← a.leaves)
        (gather-each (W i k).lawful.order ((rules i).links.into? v) (λ e. (rules i).carry v e (cell place ((rules i).links.source e) i t)) _ (rules i).links.m a.e a.listed a.enters);
    one_of = λ v t w q. rw (row-value place n wide (length s) L rules sources v i t w k q.0) (go v t (gather-one (W i k).lawful.order _ _ _ (rules i).links.m));
  }
    where
      go : (v : ℕ) (t : List ℕ) {r : ℕ} → (r ≡ cell place v i t) ⊎ ((e : ℕ) × Within (rules i).links.m e × (rules i).links.Into v e × (r ≡ (rules i).carry v e (cell place ((rules i).links.source e) i t)))
          → (r ≡ cell place v i t) ⊎ ((u : ℕ) × (a : Link (rules i).links u v) × (r ≡ (rules i).carry v a.e (cell place u i t)))
      go v t (inl y) = inl y
      go v t (inr (e, l, h, y)) = inr ((rules i).links.source e, record { e = e; listed = l; leaves = refl; enters = h }, y)

  -- A TABLE whose columns are fit, from its starts: the quiet round comes no later than round n, and leaves every cell its target
  pub table_settles : 1 ≤ wide → Started place n wide columns s → Settles n (table_round place rules wide n) (Finished place n wide columns s) s
  table_settles any at = settles_map (λ t (q, b). record { long = q.0; final = b; rest = q.1 })
      (relax n wide any columns (row_step place rules wide) (cell place) Shape (List-discrete ℕ_discrete) fix W takes s (refl, λ _ _. refl) at)
    where
      fix : (v : ℕ) (t : List ℕ) → Within n v → Shape t → ((i : ℕ) → Within wide i → cell place v i (row_step place rules wide v t) ≡ cell place v i t) → row_step place rules wide v t ≡ t
      fix v t w q h = row_fix place n wide (length s) L rules sources v t w q.0 h

-- A TABLE OF UP TO SIXTEEN COLUMNS, cell (v, i) at place 16(v − 1) + i − 1
pub sixteen_settles : (n wide : ℕ) (columns : ℕ → Column) (s : List ℕ) → 1 ≤ wide → wide ≤ 16 → 16 * n ≤ length s
    → ((i : ℕ) → Within wide i → Fit n (columns i)) → Started cell_place n wide columns s
    → Settles n (table_round cell_place (λ i. (columns i).rule) wide n) (Finished cell_place n wide columns s) s
sixteen_settles n wide columns s any few room W at = table_settles cell_place n wide columns s (cell-places n wide (length s) few room) W any at

-- A VECTOR, entry v at place v − 1
pub vector_settles : (n : ℕ) (c : Column) (s : List ℕ) → n ≤ length s → Fit n c → ((v : ℕ) → Within n v → entry v s ≡ c.starts v)
    → Settles n (vector_round c.rule n) (Finished entry_place n 1 (λ _. c) s) s
unfolding sweep row_step
vector_settles n c s room W at = table_settles entry_place n 1 (λ _. c) s (entry-places n (length s) room) (λ _ _. W) (le_refl 1) (λ v i w k. at v w)
