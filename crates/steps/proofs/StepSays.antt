-- The step that the engines compute between two anchors, by a row that says the distances: it is 0 exactly where the first does not come before the
-- second, and the gap sum plus 1 where it does. Assumes nothing.
use Prim.Native.Nat.{ℕ, zero, suc, ◌+◌, ◌-◌, ◌≤◌, ◌<◌}
use mathlib.Core.Path.{◌≡◌, refl, sym, ap, ◌∙◌, subst}
use mathlib.Core.Logic.{◌≢◌, ◌⊎◌, inl, inr}
use mathlib.Core.List.{List}
use native.Mathlib.Decide.{ℕ_discrete, dec_lt}
use native.Mathlib.Omega.{arith}
use Rattle.rounds.specs.Rounds.{Within}
use Rattle.rounds.specs.Table.{entry}
use Rattle.rounds.proofs.Upto.{within}
use Rattle.graph.specs.Content.{Graph, vertex_count}
use Rattle.graph.specs.Good.{GoodGraph}
use Rattle.anchors.specs.Anchors.{Anchor, y, d}
use Rattle.anchors.specs.GoodAnchors.{GoodAnchor}
use Rattle.cover.specs.Walks.{L, Goes}
use Rattle.cover.specs.Cells.{IsClosed}
use Rattle.cover.specs.CoverDistance.{IsCover}
use Rattle.cover.specs.Row.{Says}
use Rattle.cover.proofs.CoverLaws.{cover_at_least, cover_few}
use Rattle.cover.proofs.GoesLaws.{cover_goes, says_none, closed_none, closed_goes, closed_at_least}
use Rattle.cover.proofs.TablesThere.{closed-few}
use Rattle.chain.specs.Steps.{Before, Jump, ahead, round, across, Step}
use Rattle.pair_step.specs.Pairs.{read_gap_in, graph_gap_in, jump_in, step_in}
use Rattle.steps.specs.Setting.{closed_entry}
use Rattle.pair_step.proofs.PairLaws.{jump-ahead, jump-apart, jump-round, step_late, step-none, step-some}

-- the row says the cover distance to v from every other vertex, and for v itself the closed walk
pub record RowSays (g : Graph) (v : ℕ) (row : List ℕ) : Type 0 where
  pub others : (u : ℕ) → Within (vertex_count g) u → u ≢ v → Says g u v (entry u row)
  pub closed : ℕ
  pub is_closed : IsClosed g v closed
  pub own : entry v row ≡ closed_entry closed

entry_zero : (x : ℕ) → closed_entry x ≡ 0 → x ≡ 0
unfolding closed_entry
entry_zero zero e = refl
entry_zero (suc x) e = absurd (omega arith)

entry-suc : (x t : ℕ) → closed_entry x ≡ suc t → (x ≡ t) × (1 ≤ x)
unfolding closed_entry
entry-suc zero t e = absurd (omega arith)
entry-suc (suc x) t e = (omega arith, omega arith)

back_again : (a b : ℕ) → a + 1 ≤ b → b - (1 + a) + 1 + a ≡ b
back_again a b l = omega arith

read_same : (c d : ℕ) → read_gap_in d c ≡ c - (1 + d)
read_same c d = omega arith

graph_same : (t x y : ℕ) → graph_gap_in (suc t - 1) x y ≡ t + x - (1 + y)
graph_same t x y = omega arith

sum_same : {k p q a b : ℕ} → suc k ≡ p + q + 1 → p ≡ a → q ≡ b → k ≡ a + b
sum_same e f g = omega arith

-- what A's step to B counts: the jump, the way that it shows, and that it comes past A's last letter
pub record Leap (g : Graph) (A B : Anchor) (t : ℕ) : Type 0 where
  pub jump : Jump g A B t
  pub way : ((A.v ≡ B.v) × (y A < B.x)) ⊎ ((l : ℕ) × Goes g A.v B.v l)
  pub past : y A + 1 ≤ t + B.x

module _ {g : Graph} (G : GoodGraph g) {read : List ℕ} {A B : Anchor} (GA : GoodAnchor g read A) (GB : GoodAnchor g read B) {row : List ℕ} (R : RowSays g B.v row) where
  inside : y A ≤ L g A.v
  unfolding L
  inside = GA.in_label

  first : Within (vertex_count g) A.v
  first = within GA.vertex.0 GA.vertex.1

  second : Within (vertex_count g) B.v
  second = within GB.vertex.0 GB.vertex.1

  leap : (t : ℕ) → jump_in row A.v (y A) B.v B.x ≡ suc t → Leap g A B t
  leap t e = on (ℕ_discrete A.v B.v) (dec_lt (y A) B.x)
    where
      on : Dec (A.v ≡ B.v) → Dec (y A < B.x) → Leap g A B t
      on (yes q) (yes h) =
          let z : 0 ≡ t = omega (arith, jump-ahead row A.v (y A) B.v B.x q h) in
          subst (Leap g A B) z (record { jump = ahead q h; way = inl (q, h); past = omega arith })
      on (yes q) (no h) =
          let own : closed_entry R.closed ≡ suc t = sym R.own ∙ ap (λ (u : ℕ). entry u row) (sym q) ∙ sym (jump-round row A.v (y A) B.v B.x (omega arith)) ∙ e in
          let (z, l) = entry-suc R.closed t own in
          let c : IsClosed g A.v R.closed = subst (λ (u : ℕ). IsClosed g u R.closed) (sym q) R.is_closed in
          subst (Leap g A B) z
          (record { jump = round q h c; way = inr (R.closed, subst (λ (u : ℕ). Goes g A.v u R.closed) q (closed_goes c l)); past = omega (arith, closed_at_least c l, inside, GB.some_x) })
      on (no n) q =
          let c : IsCover g A.v B.v t = (R.others A.v first n).some t (sym (jump-apart row A.v (y A) B.v B.x n) ∙ e) in
          record { jump = across n c; way = inr (t, cover_goes G n c); past = omega (arith, cover_at_least G n c, inside, GB.some_x) }

  no_leap : jump_in row A.v (y A) B.v B.x ≡ 0 → ((A.v ≡ B.v) × (y A < B.x)) ⊎ ((l : ℕ) × Goes g A.v B.v l) → ⊥
  no_leap e way = on (ℕ_discrete A.v B.v) (dec_lt (y A) B.x) way
    where
      on : Dec (A.v ≡ B.v) → Dec (y A < B.x) → ((A.v ≡ B.v) × (y A < B.x)) ⊎ ((l : ℕ) × Goes g A.v B.v l) → ⊥
      on (yes q) (yes h) w = omega (arith, jump-ahead row A.v (y A) B.v B.x q h)
      on (yes q) (no h) (inl (_, k)) = h k
      on (yes q) (no h) (inr (l, x)) =
          let own : closed_entry R.closed ≡ 0 = sym R.own ∙ ap (λ (u : ℕ). entry u row) (sym q) ∙ sym (jump-round row A.v (y A) B.v B.x (omega arith)) ∙ e in
          closed_none G second (subst (IsClosed g B.v) (entry_zero R.closed own) R.is_closed) (subst (λ (u : ℕ). Goes g u B.v l) q x)
      on (no n) q (inl (z, _)) = n z
      on (no n) q (inr (l, x)) =
          says_none G n (subst (Says g A.v B.v) (sym (jump-apart row A.v (y A) B.v B.x n) ∙ e) (R.others A.v first n)) x

  -- where the engines' step is 0, A does not come before B
  pub step-not : step_in row A.v (y A) (d A) B.v B.x B.c ≡ 0 → Before g A B → ⊥
  step-not e b = go (jump_in row A.v (y A) B.v B.x) refl
    where
      go : (z : ℕ) → jump_in row A.v (y A) B.v B.x ≡ z → ⊥
      go zero q = no_leap q b.way
      go (suc t) q =
          let p = (leap t q).past in
          omega (arith, step-some row A.v (y A) (d A) B.v B.x B.c b.rises (λ z. omega arith))

  -- and where it is k + 1, A comes before B with gaps k
  pub step_is : (k : ℕ) → step_in row A.v (y A) (d A) B.v B.x B.c ≡ suc k → Step g A B k
  step_is k e = go (jump_in row A.v (y A) B.v B.x) refl (dec_lt (d A) B.c)
    where
      go : (z : ℕ) → jump_in row A.v (y A) B.v B.x ≡ z → Dec (d A < B.c) → Step g A B k
      go z q (no h) = absurd (omega (arith, step_late row A.v (y A) (d A) B.v B.x B.c (omega arith)))
      go zero q (yes h) = absurd (omega (arith, step-none row A.v (y A) (d A) B.v B.x B.c h q))
      go (suc t) q (yes h) =
          let p = leap t q in
          let past = p.past in
          let z = step-some row A.v (y A) (d A) B.v B.x B.c h (λ z. omega arith) in
          record {
            before = record { rises = h; way = p.way };
            s = t;
            jump = p.jump;
            read_gap = B.c - (1 + d A);
            in_read = back_again (d A) B.c (omega arith);
            graph_gap = t + B.x - (1 + y A);
            in_graph = back_again (y A) (t + B.x) (omega arith);
            sum = sum_same (sym e ∙ z ∙ ap (λ (j : ℕ). read_gap_in (d A) B.c + graph_gap_in (j - 1) B.x (y A) + 1) q) (read_same B.c (d A)) (graph_same t B.x (y A));
          }

  -- the row's entry for A's vertex is 0, or more than A's last letter, and small
  pub entry-fits : ((entry A.v row ≡ 0) ⊎ (y A < entry A.v row)) × (entry A.v row ≤ 131072)
  entry-fits = on (ℕ_discrete A.v B.v) (entry A.v row) refl
    where
      on : Dec (A.v ≡ B.v) → (z : ℕ) → entry A.v row ≡ z → ((z ≡ 0) ⊎ (y A < z)) × (z ≤ 131072)
      on q zero e = (inl refl, omega arith)
      on (yes q) (suc t) e =
          let (z, l) = entry-suc R.closed t (sym R.own ∙ ap (λ (u : ℕ). entry u row) (sym q) ∙ e) in
          let c : IsClosed g A.v R.closed = subst (λ (u : ℕ). IsClosed g u R.closed) (sym q) R.is_closed in
          (inr (omega (arith, closed_at_least c l, inside)), omega (arith, closed-few G c))
      on (no n) (suc t) e =
          let c : IsCover g A.v B.v t = (R.others A.v first n).some t e in
          (inr (omega (arith, cover_at_least G n c, inside)), omega (arith, cover_few G second c))
