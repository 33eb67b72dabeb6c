-- The next anchor of the plain pass: what it looks back over, and what it takes. Assumes nothing.
use Prim.Native.Nat.{ℕ, ◌+◌, ◌-◌, ◌≤◌, ◌<◌}
use mathlib.Core.Path.{◌≡◌, refl, sym, ◌∙◌}
use mathlib.Core.Logic.{◌⊎◌, inl, inr}
use mathlib.Core.List.{List}
use native.Mathlib.Omega.{arith}
use lib.ListN.{length, get_or, take, set}
use lib.Seq.{length-take-le}
use Rattle.std.proofs.lemmas.List.{get_or-take}
use Rattle.rounds.specs.Rounds.{Within}
use Rattle.rounds.specs.Table.{entry}
use Rattle.pair_step.specs.Pairs.{Greatest, EndsFit, RowFits, step_from}
use Rattle.steps.specs.Setting.{Setting, anchor_of, row_in, step_of, Prepared}
use Rattle.steps.proofs.SettingLaws.{AnchorFits, anchor-fits, ends_fit, row_fits}
use Rattle.read_order.specs.Order.{Among, ReadOrder, BestFirst}
use Rattle.read_order.proofs.InOrder.{first-low, first_more}
use Rattle.plain_look.specs.Looking.{LooksBack}

-- the greatest of the candidates of the same anchors, by another name
greatest_as : {own weight r : ℕ} {step score : ℕ → ℕ} {P Q : ℕ → Type 0} → ((i : ℕ) → P i → Q i) → ((i : ℕ) → Q i → P i) → Greatest own weight step score P r
    → Greatest own weight step score Q r
greatest_as {own} {weight} {r} {step} {score} {P} {Q} to from t = record { heavy = t.heavy; each = λ i m l. t.each i (from i m) l; which = on t.which }
  where
    on : (r ≡ own) ⊎ ((i : ℕ) × P i × (1 ≤ step i) × (score i + weight ≡ r + (step i - 1))) → (r ≡ own) ⊎ ((i : ℕ) × Q i × (1 ≤ step i) × (score i + weight ≡ r + (step i - 1)))
    on (inl e) = inl e
    on (inr (i, p, l, e)) = inr (i, to i p, l, e)

module _ {s : Setting} {order S : List ℕ} {q : ℕ} (p : Prepared s) (o : ReadOrder s.count s.numbers order) (h : q < s.count) (b : BestFirst s order S q) where
  taken-long : length (take q order) ≡ q
  taken-long = length-take-le q order (omega (arith, o.size))

  taken_at : (i : ℕ) → i < q → get_or (take q order) i 0 ≡ get_or order i 0
  taken_at i l = get_or-take q order i 0 l

  -- the next anchor
  pub next_anchor : Within s.count (get_or order q 0)
  next_anchor = o.there q h

  pub next_fits : AnchorFits s.n (anchor_of s (get_or order q 0))
  next_fits = anchor-fits p.holds (get_or order q 0) next_anchor

  pub next_ends : EndsFit (length S) s.ends
  next_ends = rw b.size (ends_fit p.holds)

  pub next_row : (row : List ℕ) → row ≡ row_in s (anchor_of s (get_or order q 0)).v → RowFits (length S) s.ends row
  next_row row e = rw (b.size, e) (row_fits p.holds _ next_fits.vertex (get_or order q 0) next_anchor refl)

  pub next_back : LooksBack (length (take q order)) (take q order) S
  next_back = record {
    room = omega arith;
    there = λ i l. let k : i < q = omega (arith, taken-long) in rw (taken_at i k, b.size) (o.there i (omega arith));
    small = λ i l. let k : i < q = omega (arith, taken-long) in rw (taken_at i k) (first-low o b p i k (omega arith));
  }

  to : (i : ℕ) → Among (take q order) (length (take q order)) i → Among order q i
  to i (k, l, e) = let m : k < q = omega (arith, taken-long) in (k, m, sym (taken_at k m) ∙ e)

  from : (i : ℕ) → Among order q i → Among (take q order) (length (take q order)) i
  from i (k, l, e) = (k, omega (arith, taken-long), taken_at k l ∙ e)

  -- it takes the greatest of the candidates of those that it looks back over
  pub next_best : {x : ℕ} (row : List ℕ) → row ≡ row_in s (anchor_of s (get_or order q 0)).v
      → Greatest (anchor_of s (get_or order q 0)).weight (anchor_of s (get_or order q 0)).weight
      (step_from s.ends row (anchor_of s (get_or order q 0)).v (anchor_of s (get_or order q 0)).x (anchor_of s (get_or order q 0)).c) (λ i. entry i S)
      (Among (take q order) (length (take q order))) x
      → BestFirst s order (set S (get_or order q 0 - 1) x) (q + 1)
  unfolding step_of
  next_best row e t = first_more o b h (greatest_as to from (rw e at t))
