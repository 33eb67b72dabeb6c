-- Items one after the other: one more, how many, and what holds of each.
-- Assumes nothing.
use Prim.Native.Nat.{ℕ, zero, suc, ◌+◌, ◌<◌, ◌≤◌}
use mathlib.Core.Path.{◌≡◌, refl, ap, ◌∙◌}
use mathlib.Core.List.{List, [], ◌∷◌, ◌++◌}
use native.Mathlib.Omega.{arith}
use native.Mathlib.Numerals.{add-one}
use lib.ListN.{length}
use Rattle.wire.specs.Found.{Part}
use Rattle.graph.specs.Good.{All}
use Rattle.graph_fill.specs.Filling.{items}

module _ {A : Type 0} (one : ℕ → Part A) where
  content-suc : (i at : ℕ) → (items one (suc i) at).content ≡ (items one i at).content ++ ((one (items one i at).next).content ∷ [])
  unfolding items
  content-suc zero at = refl
  content-suc (suc i) at = ap (λ (l : List A). (one at).content ∷ l) (content-suc i (one at).next)

  next-suc : (i at : ℕ) → (items one (suc i) at).next ≡ (one (items one i at).next).next
  unfolding items
  next-suc zero at = refl
  next-suc (suc i) at = next-suc i (one at).next

  -- one item more stands behind those before it, and begins where they ended
  pub content-more : (i at : ℕ) → (items one (i + 1) at).content ≡ (items one i at).content ++ ((one (items one i at).next).content ∷ [])
  content-more i at = ap (λ (n : ℕ). (items one n at).content) (add-one i) ∙ content-suc i at

  pub next_more : (i at : ℕ) → (items one (i + 1) at).next ≡ (one (items one i at).next).next
  next_more i at = ap (λ (n : ℕ). (items one n at).next) (add-one i) ∙ next-suc i at

  pub length-items : (i at : ℕ) → length (items one i at).content ≡ i
  unfolding items
  length-items zero at = refl
  length-items (suc i) at = ap suc (length-items i (one at).next)

  -- what holds of each of `count` items holds of the one behind the first i, and of the first i
  pub item_holds : (P : A → Type 0) (i count at : ℕ) → i < count → All P (items one count at).content → P (one (items one i at).next).content
  unfolding items All
  item_holds P i zero at h f = absurd (omega arith)
  item_holds P zero (suc count) at h f = f.0
  item_holds P (suc i) (suc count) at h f = item_holds P i count (one at).next (omega arith) f.1

  pub first_hold : (P : A → Type 0) (i count at : ℕ) → i ≤ count → All P (items one count at).content → All P (items one i at).content
  unfolding items All
  first_hold P zero count at h f = tt
  first_hold P (suc i) zero at h f = absurd (omega arith)
  first_hold P (suc i) (suc count) at h f = (f.0, first_hold P i count (one at).next (omega arith) f.1)
