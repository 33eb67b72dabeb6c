-- A rule of the rounds, as code follows it edge by edge.
use Rattle.std.specs.Prelude.{ℕ, ◌≡◌, List}
use Rattle.rounds.specs.Gather.{gather}
use Rattle.rounds.specs.Rule.{Rule}
use Rattle.table_rows.specs.HeldEdges.{source, target}

-- `take u v x y` is what v, which has x, takes over an edge from u, which has y: by the rule where the edge is one of its links, else x
pub record Follows (m : ℕ) (edges : List ℕ) (r : Rule) (take : ℕ → ℕ → ℕ → ℕ → ℕ) : Type 0 where
  pub all : r.links.m ≡ m
  pub from : (e : ℕ) → r.links.source e ≡ source edges e
  pub into : (v e : ℕ) → r.links.Into v e → target edges e ≡ v
  pub link : (v e x y : ℕ) → r.links.Into v e → take (source edges e) v x y ≡ r.join x (r.carry v e y)
  pub none : (v e x y : ℕ) → target edges e ≡ v → ¬ (r.links.Into v e) → take (source edges e) v x y ≡ x

-- what entry v takes over the links into it, where each entry u has the value `has u`, from a first value on
unfoldable pub gathered : Rule → (ℕ → ℕ) → ℕ → ℕ → ℕ
gathered r has v first = gather r.join (r.links.into? v) (λ e. r.carry v e (has (r.links.source e))) first r.links.m
