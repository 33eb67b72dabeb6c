-- Where an anchor comes before another there is a step with its gaps: no graph gap is negative.
-- Assumes nothing.
use Prim.Native.Nat.{ℕ, ◌+◌, ◌-◌, ◌≤◌, ◌<◌}
use mathlib.Core.Path.{◌≡◌, refl, sym, subst}
use mathlib.Core.Logic.{◌⊎◌, inl, inr}
use mathlib.Core.List.{List}
use native.Mathlib.Omega.{arith}
use native.Mathlib.Decide.{ℕ_discrete, dec_lt}
use Rattle.graph.specs.Content.{Graph}
use Rattle.graph.specs.Good.{GoodGraph}
use Rattle.anchors.specs.Anchors.{Anchor, y, d}
use Rattle.anchors.specs.GoodAnchors.{GoodAnchor}
use Rattle.cover.specs.Walks.{L, Goes}
use Rattle.cover.specs.Cells.{IsClosed}
use Rattle.cover.proofs.WalkLaws.{goes_first}
use Rattle.cover.proofs.CoverLaws.{cover_at_least}
use Rattle.cover.proofs.GoesLaws.{goes_cover}
use Rattle.cover.proofs.TablesThere.{closed-there}
use Rattle.chain.specs.Steps.{Before, Jump, ahead, round, across, Step}

-- a step of an anchor that comes before another, where no gap is negative
pub step-made : {g : Graph} {A B : Anchor} (s : ℕ) → Before g A B → Jump g A B s → 1 + y A ≤ s + B.x
    → Step g A B ((B.c - (1 + d A)) + (s + B.x - (1 + y A)))
step-made {A = A} {B = B} s b j h = record {
  before = b;
  s = s;
  jump = j;
  read_gap = B.c - (1 + d A);
  in_read = omega (arith, b.rises);
  graph_gap = s + B.x - (1 + y A);
  in_graph = omega arith;
  sum = refl;
}

-- where a walk of at least one edge goes round, the closed walk is L(v) or more
closed-long : {g : Graph} {v l s : ℕ} → Goes g v v l → IsClosed g v s → L g v ≤ s
closed-long {g} {v} {l} {s} x c = go c.attained
  where
    go : ((s ≡ 0) × ((l : ℕ) → Goes g v v l → ⊥)) ⊎ Goes g v v s → L g v ≤ s
    go (inl (_, n)) = absurd (n l x)
    go (inr q) = goes_first q

module _ {g : Graph} (G : GoodGraph g) where
  -- A comes before B: by that alone, on an accepted graph, there is a step of a chain
  pub before-step : {read : List ℕ} {A B : Anchor} → GoodAnchor g read A → GoodAnchor g read B → Before g A B → (k : ℕ) × Step g A B k
  unfolding L
  before-step {A = A} {B = B} a b h = on h.way (ℕ_discrete A.v B.v) (dec_lt (y A) B.x)
    where
      on : ((A.v ≡ B.v) × (y A < B.x)) ⊎ ((l : ℕ) × Goes g A.v B.v l) → Dec (A.v ≡ B.v) → Dec (y A < B.x) → (k : ℕ) × Step g A B k
      on (inl (e, r)) p q = (_, step-made 0 h (ahead e r) (omega arith))
      on (inr (l, w)) (yes e) (yes r) = (_, step-made 0 h (ahead e r) (omega arith))
      on (inr (l, w)) (yes e) (no n) =
          let c = closed-there G A.v in
          (_, step-made _ h (round e n c) (omega (arith, a.in_label, b.some_x, closed-long (subst (λ (t : ℕ). Goes g A.v t l) (sym e) w) c)))
      on (inr (l, w)) (no m) q =
          let (s, c) = goes_cover G m w in
          (_, step-made s h (across m c) (omega (arith, a.in_label, b.some_x, cover_at_least G m c)))
