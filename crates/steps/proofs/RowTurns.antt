-- The loops that make a row, turn by turn in the code's numbers.
-- Assumes nothing.
use Prim.Native.Nat.{ℕ, zero, suc, ◌+◌, ◌-◌, ◌≤◌, ◌<◌, ◌^◌}
use mathlib.Core.Path.{◌≡◌, refl, ap, ◌∙◌}
use mathlib.Core.List.{List, append-nil}
use native.Mathlib.Omega.{arith}
use native.Mathlib.Numerals.{add-one}
use lib.ListN.{length, get_or, set, take, replicate, drop_of_length-le}
use Rattle.wire.specs.Lent.{padded, laid}
use Rattle.rounds.specs.Rounds.{Within}
use Rattle.rounds.specs.Kinds.{closer}
use Rattle.rounds.specs.Place.{cell_place}
use Rattle.rounds.specs.Table.{cell}
use Rattle.cover.specs.Row.{unknown, put}
use Rattle.steps.specs.Setting.{Setting, below_in, back_in, backs_in, path_from, closed_entry, row_in}
use Rattle.steps.specs.Rowing.{SumsFit, BackFits}

less_one : (k : ℕ) → suc k - 1 ≡ k
less_one k = omega arith

-- ---- the nearer of two

module _ (x y : ℕ) where
  pub near_first : x ≡ 0 → y ≡ closer x y
  unfolding closer
  near_first e = rw e

  pub near_second : 1 ≤ x → y ≡ 0 → x ≡ closer x y
  unfolding closer
  near_second l e = go x l
    where
      go : (x : ℕ) → 1 ≤ x → x ≡ closer x y
      go zero l = absurd (omega arith)
      go (suc x) l = rw e

  pub near_less : 1 ≤ x → x ≤ y → x ≡ closer x y
  unfolding closer
  near_less l h = go x y l h
    where
      go : (x y : ℕ) → 1 ≤ x → x ≤ y → x ≡ closer x y
      go zero y l h = absurd (omega arith)
      go (suc x) zero l h = absurd (omega arith)
      go (suc x) (suc y) l h = omega arith

  pub near-more : 1 ≤ y → y ≤ x → y ≡ closer x y
  unfolding closer
  near-more l h = go x y l h
    where
      go : (x y : ℕ) → 1 ≤ y → y ≤ x → y ≡ closer x y
      go x zero l h = absurd (omega arith)
      go zero (suc y) l h = absurd (omega arith)
      go (suc x) (suc y) l h = omega arith

-- ---- back along a path

module _ (lengths path : List ℕ) where
  pub below-first : (a sum : ℕ) → a ≡ 0 → sum ≡ below_in lengths path a sum
  unfolding below_in
  below-first a sum e = rw e

  pub below_more : (a sum : ℕ) → 1 ≤ a → sum + get_or lengths (get_or path (a - 1) 0 - 1) 0 ≡ below_in lengths path a sum
  unfolding below_in
  below_more zero sum l = absurd (omega arith)
  below_more (suc a) sum l = rw (less_one a)

  pub back_end : (a sum : ℕ) (row : List ℕ) → a ≡ 0 → back_in lengths path a sum row ≡ row
  unfolding back_in
  back_end a sum row e = rw e

  pub back_turn : (a sum : ℕ) (row : List ℕ) → 1 ≤ a
      → back_in lengths path a sum row ≡ back_in lengths path (a - 1) (below_in lengths path (a - 1) sum) (put (get_or path (a - 1) 0) sum row)
  unfolding back_in
  back_turn zero sum row l = absurd (omega arith)
  back_turn (suc a) sum row l = rw (less_one a)

  sums_turn : (a sum : ℕ) → 1 ≤ a → SumsFit lengths path a sum → (sum + 1 < 2 ^ 32) × SumsFit lengths path (a - 1) (below_in lengths path (a - 1) sum)
  unfolding SumsFit
  sums_turn zero sum l h = absurd (omega arith)
  sums_turn (suc a) sum l h = rw (less_one a) h

  module _ {n a sum : ℕ} (l : 1 ≤ a) (w : BackFits n lengths path a sum) where
    pub fits-vertex : Within n (get_or path (a - 1) 0)
    fits-vertex = w.vertices (a - 1) (omega arith)

    pub fits_sum : sum + 1 < 2 ^ 32
    fits_sum = (sums_turn a sum l w.sums).0

    pub fits_turn : BackFits n lengths path (a - 1) (below_in lengths path (a - 1) sum)
    fits_turn = record {
      labels = w.labels;
      room = omega (arith, w.room);
      vertices = λ b h. w.vertices b (omega arith);
      sums = (sums_turn a sum l w.sums).1;
    }

-- ---- over the paths

-- a row of n places, all of them made unused, is one in which nothing is known
pub cleared : (n : ℕ) (row old : List ℕ) → length old ≡ n → row ≡ laid n (take 0 old) old → row ≡ unknown n
unfolding laid padded unknown
cleared n row old e h =
    let z : n - 0 ≡ n = omega arith in
    h ∙ rw (drop_of_length-le old {i = n} (omega arith), append-nil) (ap (λ (m : ℕ). replicate {A = ℕ} m 0) z)

module _ (s : Setting) (v : ℕ) (row : List ℕ) where
  pub backs-start : backs_in s v 0 row ≡ row
  unfolding backs_in
  backs-start = refl

  pub backs_turn : (i : ℕ) → backs_in s v (i + 1) row
      ≡ back_in s.lengths (path_from s.paths (i + 1)) (cell cell_place v (i + 1) s.reach) (cell cell_place v (i + 1) s.distance) (backs_in s v i row)
  unfolding backs_in
  backs_turn i = rw (add-one i)

-- ---- the closed walk

pub entry-none : (x : ℕ) → x ≡ 0 → 0 ≡ closed_entry x
unfolding closed_entry
entry-none x e = rw e

pub entry-some : (x : ℕ) → 1 ≤ x → x + 1 ≡ closed_entry x
unfolding closed_entry
entry-some zero l = absurd (omega arith)
entry-some (suc x) l = omega arith

-- ---- the whole row

pub row_made : (s : Setting) (v : ℕ) (row : List ℕ) (x : ℕ) → row ≡ backs_in s v s.k (unknown s.n) → x ≡ closed_entry (get_or s.closed (v - 1) 0)
    → set row (v - 1) x ≡ row_in s v
unfolding row_in
row_made s v row x e h = rw (e, h)
