-- What an accepted graph fulfils, by numbers: edges, labels and paths at their positions. Assumes nothing.
use Prim.Native.Nat.{ℕ, zero, suc, ◌+◌, ◌-◌, ◌≤◌, ◌<◌, zero-le}
use mathlib.Core.Path.{◌≡◌, refl, sym, ap, ◌∙◌}
use mathlib.Core.Logic.{◌⊎◌, inl, inr}
use mathlib.Core.List.{List, [], ◌∷◌, flatten, Memᴰ}
use native.Mathlib.Nat.{not-suc-le-zero, le_of_suc-le-suc, le_antisymm, le_refl, eq-or-lt_of_le}
use native.Mathlib.Decide.{dec_le}
use native.Mathlib.Omega.{arith}
use lib.ListN.{length, get_or, length-append, get_or-eq_default}
use Rattle.wire.specs.Sizes.{most_letters}
use Rattle.rounds.specs.Rounds.{Within}
use Rattle.rounds.proofs.Upto.{within, total, total_mono}
use Rattle.graph.specs.Content.{Edge, Graph, vertex_count, edge_count, path_count}
use Rattle.graph.specs.Rules.{no_edge}
use Rattle.graph.specs.Good.{All, Next, GoodGraph}
use Rattle.cover.specs.Walks.{L, from, to, Joined}
use Rattle.cover.specs.Cells.{vertex}
use Rattle.cover.specs.CoverDistance.{path_at}

-- ---- elements by their places

less_one : (k : ℕ) → suc k - 1 ≡ k
less_one k = omega arith

module _ {A : Type 0} (d : A) where
  pub all_at : (P : A → Type 0) (xs : List A) → All P xs → (j : ℕ) → j < length xs → P (get_or xs j d)
  unfolding All
  all_at P xs h j l = Rattle.graph.proofs.RoundTrips.all_at P xs j d h l

  pub next_at : (R : A → A → Type 0) (xs : List A) → Next R xs → (j : ℕ) → suc j < length xs → R (get_or xs j d) (get_or xs (suc j) d)
  unfolding Next
  next_at R [] h j l = absurd (not-suc-le-zero l)
  next_at R (x ∷ []) h j l = absurd (not-suc-le-zero (le_of_suc-le-suc l))
  next_at R (x ∷ (y ∷ ys)) h zero l = h.0
  next_at R (x ∷ (y ∷ ys)) h (suc j) l = next_at R (y ∷ ys) h.1 j (le_of_suc-le-suc l)

  pub mem_at : {a : A} {xs : List A} → Memᴰ a xs → (j : ℕ) × (j < length xs) × (get_or xs j d ≡ a)
  mem_at (Memᴰ.head e) = (0, omega arith, sym e)
  mem_at (Memᴰ.tail m) = let (j, l, e) = mem_at m in (suc j, omega arith, e)

-- ---- the sum of all labels

-- a sum from its front
pub total_front : (f : ℕ → ℕ) (n : ℕ) → total f (suc n) ≡ f 1 + total (λ v. f (suc v)) n
unfolding total
total_front f zero = omega arith
total_front f (suc n) = omega (arith, total_front f n)

pub total_ext : (f g : ℕ → ℕ) (n : ℕ) → ((v : ℕ) → Within n v → f v ≡ g v) → total f n ≡ total g n
total_ext f g n h = le_antisymm (total_mono f g n (λ v w. rw (h v w) (le_refl _))) (total_mono g f n (λ v w. rw (h v w) (le_refl _)))

-- a longer sum is no less
pub total_upto : (f : ℕ → ℕ) (m n : ℕ) → m ≤ n → total f m ≤ total f n
unfolding total
total_upto f zero zero l = le_refl 0
total_upto f (suc m) zero l = absurd (not-suc-le-zero l)
total_upto f m (suc n) l = go (λ k. total_upto f m n k) (eq-or-lt_of_le l)
  where
    go : (m ≤ n → total f m ≤ total f n) → (m ≡ suc n) ⊎ (m < suc n) → total f m ≤ total f n + f (suc n)
    go ih (inl e) = rw e (le_refl _)
    go ih (inr k) = omega (arith, ih (le_of_suc-le-suc k))

labels-sum : (ls : List (List ℕ)) → total (λ v. length (get_or ls (v - 1) [])) (length ls) ≡ length (flatten ls)
unfolding total flatten
labels-sum [] = refl
labels-sum (l ∷ ls) = total_front (λ v. length (get_or (l ∷ ls) (v - 1) [])) (length ls)
    ∙ ap (λ (x : ℕ). length l + x) (total_ext (λ v. length (get_or (l ∷ ls) (suc v - 1) [])) (λ v. length (get_or ls (v - 1) [])) (length ls) (λ v w. below v w.low) ∙ labels-sum ls)
    ∙ sym (length-append l (flatten ls))
  where
    below : (v : ℕ) → 1 ≤ v → length (get_or (l ∷ ls) (suc v - 1) []) ≡ length (get_or ls (v - 1) [])
    below zero h = absurd (omega arith)
    below (suc j) h = rw (less_one (suc j), less_one j)

-- a path that is not there is empty
pub path-none : (g : Graph) (i : ℕ) → path_count g < i → length (path_at g i) ≡ 0
unfolding path_at
path-none g i l = ap length (get_or-eq_default g.paths [] {n = i - 1} (omega arith))

-- ---- a good graph

module _ {g : Graph} (G : GoodGraph g) where
  pub edge-from : (e : ℕ) → Within (edge_count g) e → Within (vertex_count g) (from g e)
  unfolding from
  edge-from e w = let (a, b) = all_at no_edge _ g.edges G.edge_ends (e - 1) (omega arith) in within a.0 a.1

  pub edge_to : (e : ℕ) → Within (edge_count g) e → Within (vertex_count g) (to g e)
  unfolding to
  edge_to e w = let (a, b) = all_at no_edge _ g.edges G.edge_ends (e - 1) (omega arith) in within b.0 b.1

  -- "label length | 1 up"
  pub label_some : (v : ℕ) → Within (vertex_count g) v → 1 ≤ L g v
  unfolding L
  label_some v w = all_at [] _ g.labels G.some_letter (v - 1) (omega arith)

  -- "all labels together at most 32,768"
  pub labels-few : total (L g) (vertex_count g) ≤ most_letters
  unfolding L
  labels-few = omega (arith, labels-sum g.labels, G.few_letters)

  -- "vertices of a path | .. 1 to n"; a path that is not there is empty
  pub path-short : (i : ℕ) → length (path_at g i) ≤ vertex_count g
  unfolding path_at
  path-short i = go (dec_le (suc (i - 1)) (path_count g))
    where
      go : Dec (i - 1 < path_count g) → length (get_or g.paths (i - 1) []) ≤ vertex_count g
      go (yes l) = (all_at [] _ g.paths G.path_lengths (i - 1) l).1
      go (no h) = rw (get_or-eq_default g.paths [] {n = i - 1} (omega arith)) zero-le

  module _ (i : ℕ) (k : Within (path_count g) i) where
    pub path-vertex : (a : ℕ) → Within (length (path_at g i)) a → Within (vertex_count g) (vertex (path_at g i) a)
    unfolding path_at vertex
    path-vertex a w = let (l, h) = all_at 0 _ _ (all_at [] _ g.paths G.path_vertices (i - 1) (omega arith)) (a - 1) (omega arith) in within l h

    -- "every path rises in number"
    pub path-rises : (a : ℕ) → 1 ≤ a → a + 1 ≤ length (path_at g i) → vertex (path_at g i) a < vertex (path_at g i) (a + 1)
    unfolding path_at vertex
    path-rises a l h =
        let e : a + 1 - 1 ≡ suc (a - 1) = omega arith in
        rw e (next_at 0 _ _ (all_at [] _ g.paths G.paths_rise (i - 1) (omega arith)) (a - 1) (omega arith))

    -- "a path step that is not an edge" is a fault
    pub path-step : (a : ℕ) → 1 ≤ a → a + 1 ≤ length (path_at g i) → Joined g (vertex (path_at g i) a) (vertex (path_at g i) (a + 1))
    unfolding path_at vertex from to
    path-step a l h =
        let e : a + 1 - 1 ≡ suc (a - 1) = omega arith in
        rw e (listed (next_at 0 _ _ (all_at [] _ g.paths G.path_steps (i - 1) (omega arith)) (a - 1) (omega arith)))
      where
        listed : {u v : ℕ} → Memᴰ (record { from = u; to = v }) g.edges → Joined g u v
        listed m =
            let (j, b, q) = mem_at no_edge m in
            record { number = suc j; listed = within (omega arith) b; leaves = rw (from, less_one j) (ap (λ (x : Edge). x.from) q); enters = rw (to, less_one j) (ap (λ (x : Edge). x.to) q) }

  -- "a vertex on no path" is a fault
  pub on-path : (v : ℕ) → Within (vertex_count g) v → (i : ℕ) × Within (path_count g) i × ((a : ℕ) × Within (length (path_at g i)) a × (vertex (path_at g i) a ≡ v))
  unfolding path_at vertex
  on-path v w =
      let (p, mp, mv) = G.covered v (w.low, w.high) in
      let (i, k, ep) = mem_at [] mp in
      let (a, l, ev) = mem_at 0 mv in
      (suc i, within (omega arith) k, rw (less_one i, ep) (suc a, within (omega arith) l, rw (less_one a) ev))
