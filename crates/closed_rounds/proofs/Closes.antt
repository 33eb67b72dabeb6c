-- The loop over sixteen closed walks, and the loop over all of them. Assumes nothing.
use Prim.Native.Nat.{ℕ, ◌+◌, ◌-◌, ◌≤◌, ◌<◌}
use mathlib.Core.Path.{◌≡◌, refl, sym, ap, ◌∙◌, subst}
use mathlib.Core.List.{List}
use native.Mathlib.Decide.{ℕ_discrete, dec_le}
use native.Mathlib.Omega.{arith}
use lib.ListN.{length, get_or, set, length-set}
use lib.Seq.{get_or-set_same, get_or-set_other}
use Rattle.wire.specs.Sizes.{table_row}
use Rattle.rounds.specs.Rounds.{Within, Rounds, sweep}
use Rattle.rounds.specs.Rule.{Rule}
use Rattle.rounds.specs.Place.{cell_place}
use Rattle.rounds.specs.Table.{table_round, entry}
use Rattle.rounds.proofs.Upto.{within}
use Rattle.rounds.proofs.Counts.{rounds-least}
use Rattle.table_rounds.specs.Held.{onward_round, Fitting, Settling}
use Rattle.closed_rounds.specs.Closing.{sixteen_start, ClosedBy}
use Rattle.walk_back.specs.Back.{back_by}

-- what the rounds leave fits
pub settling-last : {n : ℕ} {lengths s : List ℕ} {rules : ℕ → Rule} → Settling n lengths rules s → 1 ≤ n → {k : ℕ} {t : List ℕ} → Rounds (table_round cell_place rules table_row n) s k t → Fitting n lengths t
unfolding sweep
settling-last {n} {lengths} {s} {rules} S l {k} {t} r = subst (Fitting n lengths) (rounds-least (table_round cell_place rules table_row n) r).left (S.fitting k 0 l)

-- the first i of the sixteen are closed, and what was closed before is as it was
pub record Closes (n m : ℕ) (lengths edges table : List ℕ) (base i : ℕ) (old closed : List ℕ) : Type 0 where
  pub long : length closed ≡ length old
  pub before : (v : ℕ) → Within base v → entry v closed ≡ entry v old
  pub done : (j : ℕ) → Within i j → base + j ≤ n → entry (base + j) closed ≡ back_by lengths edges table (base + j) j m - 1

module _ {n m : ℕ} {lengths edges table : List ℕ} {base : ℕ} {old : List ℕ} where
  pub closes-none : Closes n m lengths edges table base 0 old old
  closes-none = record { long = refl; before = λ v w. refl; done = λ j w. absurd (omega arith) }

  pub closes_past : {i : ℕ} {closed : List ℕ} → n ≤ base + i → Closes n m lengths edges table base i old closed → Closes n m lengths edges table base (i + 1) old closed
  closes_past {i} {closed} h w = record { long = w.long; before = w.before; done = λ j k l. w.done j (within k.low (omega arith)) l }

  pub closes-more : {i : ℕ} {closed : List ℕ} (x : ℕ) → base + i < length closed → x ≡ back_by lengths edges table (base + i + 1) (i + 1) m - 1
      → Closes n m lengths edges table base i old closed → Closes n m lengths edges table base (i + 1) old (set closed (base + i) x)
  closes-more {i} {closed} x h e w = record {
    long = length-set closed (base + i) x ∙ w.long;
    before = λ v k. get_or-set_other closed (base + i) (v - 1) x 0 (omega arith) ∙ w.before v k;
    done = λ j k l. at j k l (ℕ_discrete j (i + 1));
  }
    where
      at : (j : ℕ) → Within (i + 1) j → base + j ≤ n → Dec (j ≡ i + 1) → entry (base + j) (set closed (base + i) x) ≡ back_by lengths edges table (base + j) j m - 1
      at j k l (yes q) =
          let p : base + (i + 1) - 1 ≡ base + i = omega arith in
          let r : base + i + 1 ≡ base + (i + 1) = omega arith in
          rw q (ap (λ (y : ℕ). get_or (set closed (base + i) x) y 0) p ∙ get_or-set_same closed (base + i) x 0 h ∙ e ∙ ap (λ (y : ℕ). back_by lengths edges table y (i + 1) m - 1) r)
      at j k l (no d) = get_or-set_other closed (base + i) (base + j - 1) x 0 (omega arith) ∙ w.done j (within k.low (omega arith)) l

  -- all sixteen
  pub closes-all : {i : ℕ} {closed : List ℕ} (count : ℕ) → table_row ≤ i → Rounds (onward_round n m lengths edges) (sixteen_start n base) count table → Closes n m lengths edges table base i old closed
      → (v : ℕ) → base < v → v ≤ base + table_row → v ≤ n → ClosedBy n m lengths edges v (entry v closed)
  closes-all {closed = closed} count h r w v a b l =
      let e : base + (v - base) ≡ v = omega arith in
      record {
        base = base;
        i = v - base;
        column = within (omega arith) (omega arith);
        is = sym e;
        count = count;
        last = table;
        rounds = r;
        closes = rw e at (w.done (v - base) (within (omega arith) (omega arith)) (omega arith));
      }

-- sixteen more
pub closed-more : {n m : ℕ} {lengths edges : List ℕ} (base : ℕ) (closed new : List ℕ)
    → ((v : ℕ) → Within base v → v ≤ n → ClosedBy n m lengths edges v (entry v closed))
    → ((v : ℕ) → Within base v → entry v new ≡ entry v closed)
    → ((v : ℕ) → base < v → v ≤ base + table_row → v ≤ n → ClosedBy n m lengths edges v (entry v new))
    → (v : ℕ) → Within (base + table_row) v → v ≤ n → ClosedBy n m lengths edges v (entry v new)
closed-more {n} {m} {lengths} {edges} base closed new old same more v w l = go (dec_le v base)
  where
    go : Dec (v ≤ base) → ClosedBy n m lengths edges v (entry v new)
    go (yes h) = let k : Within base v = within w.low h in subst (ClosedBy n m lengths edges v) (sym (same v k)) (old v k l)
    go (no h) = more v (omega arith) w.high l
