-- Closed walks by the rounds: over the buffers, the least walks from sixteen vertices, and one edge more.
use Rattle.std.specs.Prelude.{ℕ, ◌+◌, ◌-◌, ◌<◌, ◌≡◌, List, [], ◌∷◌}
use Rattle.wire.specs.Sizes.{table_row}
use Rattle.rounds.specs.Rounds.{Within, Rounds}
use Rattle.cover.specs.TableRounds.{table_of, home}
use Rattle.table_rounds.specs.Held.{onward, onward_round, Settling}
use Rattle.walk_back.specs.Back.{back_by}

-- column i starts at the vertex base + i
abbrev pub sixteen_start : ℕ → ℕ → List ℕ
sixteen_start n base = table_of n (λ v i. home ((base + i) ∷ []) 1 v)

-- d is the closed walk of v by what the rounds leave
pub record ClosedBy (n m : ℕ) (lengths edges : List ℕ) (v d : ℕ) : Type 0 where
  pub base : ℕ
  pub i : ℕ
  pub column : Within table_row i
  pub is : v ≡ base + i
  pub count : ℕ
  pub last : List ℕ
  pub rounds : Rounds (onward_round n m lengths edges) (sixteen_start n base) count last
  pub closes : d ≡ back_by lengths edges last v i m - 1

-- the rounds from any sixteen vertices end, and every state fits
pub record Closable (n m : ℕ) (lengths edges : List ℕ) : Type 0 where
  pub settling : (base : ℕ) → base < n → Settling n lengths (onward m lengths edges) (sixteen_start n base)
