-- At most one value fits each definition: reach, distance, closed walk, cover distance, tables. Assumes nothing.
use Prim.Native.Nat.{ℕ, zero, suc, ◌-◌, ◌≤◌, ◌<◌}
use mathlib.Core.Path.{◌≡◌, refl, sym, ap, ◌∙◌, subst}
use mathlib.Core.Logic.{◌⊎◌, inl, inr}
use mathlib.Core.List.{List}
use native.Mathlib.Nat.{le_antisymm}
use native.Mathlib.Omega.{arith}
use lib.ListN.{length, get_or}
use lib.Seq.{ext_get_or}
use Rattle.rounds.specs.Rounds.{Within, Rounds}
use Rattle.rounds.proofs.Upto.{within}
use Rattle.rounds.proofs.Counts.{unique}
use Rattle.graph.specs.Content.{Graph, vertex_count}
use Rattle.cover.specs.Walks.{Goes}
use Rattle.cover.specs.Cells.{Hits, IsReach, IsDistance, IsClosed}
use Rattle.cover.specs.CoverDistance.{IsCover}
use Rattle.cover.specs.TableRounds.{reach_round, distance_start, distance_round, known}
use Rattle.cover.specs.TableEntries.{Tables, IsTables}

module _ (g : Graph) where
  -- a vertex has one reach
  pub reach-one : {p : List ℕ} {v r s : ℕ} → IsReach g p v r → IsReach g p v s → r ≡ s
  reach-one {p} {v} a b = le_antisymm (below a b) (below b a)
    where
      below : {x y : ℕ} → IsReach g p v x → IsReach g p v y → x ≤ y
      below {x} {y} a b = go a.attained
        where
          go : (x ≡ 0) ⊎ Hits g p v x → x ≤ y
          go (inl z) = omega arith
          go (inr h) = b.greatest x h

  -- one distance
  pub distance-one : {p : List ℕ} (r : ℕ) {v d e : ℕ} → IsDistance g p r v d → IsDistance g p r v e → d ≡ e
  distance-one zero a b = a.none refl ∙ sym (b.none refl)
  distance-one (suc r) {v} {d} {e} a b = le_antisymm (a.least e (b.attained (omega arith))) (b.least d (a.attained (omega arith)))

  -- one closed walk
  pub closed-one : {v d e : ℕ} → IsClosed g v d → IsClosed g v e → d ≡ e
  closed-one {v} {d} {e} a b = go a.attained b.attained
    where
      go : ((d ≡ 0) × ((l : ℕ) → Goes g v v l → ⊥)) ⊎ Goes g v v d → ((e ≡ 0) × ((l : ℕ) → Goes g v v l → ⊥)) ⊎ Goes g v v e → d ≡ e
      go (inl x) (inl y) = x.0 ∙ sym y.0
      go (inl x) (inr y) = absurd (x.1 e y)
      go (inr x) (inl y) = absurd (y.1 d x)
      go (inr x) (inr y) = le_antisymm (a.least e y) (b.least d x)

  -- one cover distance
  pub cover_one : {u v s t : ℕ} → IsCover g u v s → IsCover g u v t → s ≡ t
  cover_one {s = s} {t = t} a b = le_antisymm (a.least t b.way) (b.least s a.way)

  -- a graph has one set of tables, and one count of rounds for each
  pub tables-one : {t u : Tables} → IsTables g t → IsTables g u → t ≡ u
  tables-one {t} {u} a b = λ i. record { reach = reach i; distance = distance i; closed = closed i; reach_rounds = reach_rounds i; distance_rounds = distance_rounds i }
    where
      reach_rounds : t.reach_rounds ≡ u.reach_rounds
      reach_rounds = (unique (reach_round g) a.reach_count b.reach_count).0

      reach : t.reach ≡ u.reach
      reach = (unique (reach_round g) a.reach_count b.reach_count).1

      last : Rounds (distance_round g t.reach) (distance_start g t.reach) u.distance_rounds b.entries
      last = subst (λ r. Rounds (distance_round g r) (distance_start g r) u.distance_rounds b.entries) (sym reach) b.distance_count

      distance_rounds : t.distance_rounds ≡ u.distance_rounds
      distance_rounds = (unique (distance_round g t.reach) a.distance_count last).0

      distance : t.distance ≡ u.distance
      distance = a.distance_known ∙ ap known (unique (distance_round g t.reach) a.distance_count last).1 ∙ sym b.distance_known

      same : (q : ℕ) → q < length t.closed → get_or t.closed q 0 ≡ get_or u.closed q 0
      same q l =
          let w : Within (vertex_count g) (suc q) = within (omega arith) (omega (arith, a.closed_size)) in
          let e : suc q - 1 ≡ q = omega arith in
          rw e at (closed-one (a.closed_cells (suc q) w) (b.closed_cells (suc q) w))

      closed : t.closed ≡ u.closed
      closed = ext_get_or 0 t.closed u.closed (a.closed_size ∙ sym b.closed_size) same
