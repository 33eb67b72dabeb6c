-- Where the walks from sixteen vertices start. Assumes nothing.
use Prim.Native.Nat.{ℕ, ◌+◌, ◌*◌, ◌/◌, ◌%◌, ◌<◌}
use mathlib.Core.Path.{◌≡◌, sym, ap, ◌∙◌}
use mathlib.Core.List.{[], ◌∷◌}
use native.Mathlib.Omega.{arith}
use lib.ListN.{get_or}
use Rattle.wire.specs.Sizes.{table_row}
use Rattle.cover.specs.TableRounds.{home}
use Rattle.closed_rounds.specs.Closing.{sixteen_start}
use Rattle.table_starts.proofs.Starts.{table_place}

-- the start of sixteen vertices, place by place
pub sixteen_place : (n base q : ℕ) → q < table_row * n → home ((base + q % 16 + 1) ∷ []) 1 (q / 16 + 1) ≡ get_or (sixteen_start n base) q 0
sixteen_place n base q h = sym (table_place n (λ v i. home ((base + i) ∷ []) 1 v) q h ∙ ap (λ (y : ℕ). home (y ∷ []) 1 (q / 16 + 1)) (omega arith))
