-- Tables made row by row: their length, and their cells. Assumes nothing.
use Prim.Native.Nat.{ℕ, zero, suc, ◌+◌, ◌-◌, ◌*◌}
use mathlib.Core.Path.{◌≡◌, refl, sym, ap, ◌∙◌}
use mathlib.Core.Logic.{◌⊎◌, inl, inr}
use mathlib.Core.List.{List, [], ◌∷◌, ◌++◌}
use native.Mathlib.Omega.{arith}
use lib.ListN.{length, get_or, length-append, length-map, get_or-append, get_or-map}
use lib.Seq.{get_or-append-add}
use Rattle.wire.specs.Sizes.{table_row}
use Rattle.rounds.specs.Rounds.{Within}
use Rattle.rounds.specs.Place.{cell_place}
use Rattle.rounds.specs.Table.{cell}
use Rattle.rounds.proofs.Upto.{within_none, within_cases}
use Rattle.cover.specs.TableRounds.{row_of, table_of, known}

pub row-size : (k : ℕ) (f : ℕ → ℕ) → length (row_of k f) ≡ k
unfolding row_of
row-size zero f = refl
row-size (suc k) f = length-append (row_of k f) (f (suc k) ∷ []) ∙ omega (arith, row-size k f)

-- entry j of a row
pub row-entry : (k : ℕ) (f : ℕ → ℕ) (j : ℕ) → Within k j → get_or (row_of k f) (j - 1) 0 ≡ f j
unfolding row_of
row-entry zero f j w = absurd (within_none w)
row-entry (suc k) f j w = go (row-entry k f j) (within_cases w)
  where
    go : (Within k j → get_or (row_of k f) (j - 1) 0 ≡ f j) → (j ≡ suc k) ⊎ Within k j → get_or (row_of k f ++ (f (suc k) ∷ [])) (j - 1) 0 ≡ f j
    go ih (inl e) =
        let q : j - 1 ≡ length (row_of k f) + 0 = omega (arith, row-size k f) in
        rw (q, get_or-append-add (row_of k f) (f (suc k) ∷ []) 0 0, e)
    go ih (inr v) = get_or-append (row_of k f) (f (suc k) ∷ []) 0 (j - 1) (omega (arith, row-size k f)) ∙ ih v

pub table_size : (n : ℕ) (f : ℕ → ℕ → ℕ) → length (table_of n f) ≡ table_row * n
unfolding table_of
table_size zero f = refl
table_size (suc n) f = length-append (table_of n f) (row_of table_row (f (suc n))) ∙ omega (arith, table_size n f, row-size table_row (f (suc n)))

-- cell (v, i) of a table
pub table_cell : (n : ℕ) (f : ℕ → ℕ → ℕ) (v i : ℕ) → Within n v → Within table_row i → cell cell_place v i (table_of n f) ≡ f v i
unfolding table_of
table_cell zero f v i w k = absurd (within_none w)
table_cell (suc n) f v i w k = go (λ x. table_cell n f v i x k) (within_cases w)
  where
    go : (Within n v → cell cell_place v i (table_of n f) ≡ f v i) → (v ≡ suc n) ⊎ Within n v → cell cell_place v i (table_of n f ++ row_of table_row (f (suc n))) ≡ f v i
    go ih (inl e) =
        let q : 16 * (v - 1) + i - 1 ≡ length (table_of n f) + (i - 1) = omega (arith, table_size n f) in
        ap (λ (x : ℕ). get_or (table_of n f ++ row_of table_row (f (suc n))) x 0) q ∙ get_or-append-add (table_of n f) (row_of table_row (f (suc n))) (i - 1) 0 ∙ row-entry table_row (f (suc n)) i k ∙ ap (λ (x : ℕ). f x i) (sym e)
    go ih (inr x) = get_or-append (table_of n f) (row_of table_row (f (suc n))) 0 (16 * (v - 1) + i - 1) (omega (arith, table_size n f)) ∙ ih x

-- the distances of what the rounds left
pub known-size : (t : List ℕ) → length (known t) ≡ length t
known-size t = length-map t (λ x. x - 1)

pub known-cell : (t : List ℕ) (q : ℕ) → get_or (known t) q 0 ≡ get_or t q 0 - 1
known-cell t q = get_or-map (λ x. x - 1) t q 0
