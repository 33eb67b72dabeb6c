-- The steps of `number_in` at a place of a file, as equations: what the reader's loop goes by.
-- Assumes nothing.
use Prim.Native.Nat.{ℕ, zero, suc, ◌+◌, ◌-◌, ◌*◌, ◌^◌, ◌≤◌, ◌<◌}
use mathlib.Core.Path.{◌≡◌, refl, sym, ap, ap₂, ◌∙◌}
use mathlib.Core.List.{List, [], ◌∷◌}
use mathlib.Core.Bool.{and-false}
use native.Mathlib.Omega.{arith}
use native.Mathlib.Numerals.{add-one, sub-one}
use lib.ListN.{length, get_or, drop, drop_of_length-le}
use lib.Seq.{drop-cons}
use lib.Arith.{digits_lt}
use borrow.Author.Tests.{lt-ltb, le-ltb, eq-eqb, ne_eqb}
use Rattle.wire.specs.Refusals.{bytes_end, bad_number}
use Rattle.wire.specs.Numbers.{ended, number_in}
use Rattle.wire.specs.Found.{Found, good, fault, Part}

-- what was read is one content and one place
pub read_same : {x y a b : ℕ} → ◌≡◌ {A = Found (Part ℕ)} (good (record { content = x; next = a })) (good (record { content = y; next = b })) → (x ≡ y) × (a ≡ b)
read_same e = (ap content_of e, ap next_of e)
  where
    content_of : Found (Part ℕ) → ℕ
    content_of (good p) = p.content
    content_of (fault k q) = k

    next_of : Found (Part ℕ) → ℕ
    next_of (good p) = p.next
    next_of (fault k q) = q

pub ended-refused : (b start at w acc : ℕ) → b ≡ 0 → start < at → ended b start at w acc ≡ fault bad_number start
unfolding ended
ended-refused b start at w acc e h = simp (eq-eqb b 0 e, lt-ltb start at h)

pub ended_whole : (b start at w acc : ℕ) → (b ≡ 0 → ⊥) → ended b start at w acc ≡ good (record { content = b * w + acc; next = at + 1 })
unfolding ended
ended_whole b start at w acc n = simp (ne_eqb b 0 n)

pub ended-first : (b start at w acc : ℕ) → at ≤ start → ended b start at w acc ≡ good (record { content = b * w + acc; next = at + 1 })
unfolding ended
ended-first b start at w acc h = simp (le-ltb start at h, and-false)

-- ---- the steps, at a list

pub none_in : (l end start at w acc : ℕ) → number_in l [] end start at w acc ≡ fault bytes_end end
unfolding number_in
none_in l end start at w acc = refl

module _ (b : ℕ) (s : List ℕ) (end start at w acc : ℕ) where
  pub great_in : 15 < b → number_in 0 (b ∷ s) end start at w acc ≡ fault bad_number start
  unfolding number_in
  great_in h = simp (lt-ltb 15 b h)

  pub fifth_in : b ≤ 15 → number_in 0 (b ∷ s) end start at w acc ≡ ended b start at w acc
  unfolding number_in
  fifth_in h = simp (le-ltb 15 b h)

  pub last_in : (l : ℕ) → b < 128 → number_in (suc l) (b ∷ s) end start at w acc ≡ ended b start at w acc
  unfolding number_in
  last_in l h = simp (lt-ltb b 128 h)

  pub next_in : (l : ℕ) → 128 ≤ b → number_in (suc l) (b ∷ s) end start at w acc ≡ number_in l s end start (at + 1) (w * 128) ((b - 128) * w + acc)
  unfolding number_in
  next_in l h = simp (le-ltb b 128 h)

-- ---- the steps, at a place of a file

module _ (s : List ℕ) (end start at w acc : ℕ) where
  pub read_end : (l : ℕ) → length s ≤ at → number_in l (drop at s) end start at w acc ≡ fault bytes_end end
  read_end l h = rw (drop_of_length-le s h) (none_in l end start at w acc)

  pub read_great : (l : ℕ) → l ≡ 0 → at < length s → 15 < get_or s at 0 → number_in l (drop at s) end start at w acc ≡ fault bad_number start
  read_great l e h g = rw (e, drop-cons s at 0 h) (great_in (get_or s at 0) (drop (suc at) s) end start at w acc g)

  pub read_fifth : (l : ℕ) → l ≡ 0 → at < length s → get_or s at 0 ≤ 15
      → number_in l (drop at s) end start at w acc ≡ ended (get_or s at 0) start at w acc
  read_fifth l e h g = rw (e, drop-cons s at 0 h) (fifth_in (get_or s at 0) (drop (suc at) s) end start at w acc g)

  pub read-last : (l : ℕ) → (l ≡ 0 → ⊥) → at < length s → get_or s at 0 < 128
      → number_in l (drop at s) end start at w acc ≡ ended (get_or s at 0) start at w acc
  read-last zero n h g = absurd (n refl)
  read-last (suc l) n h g = rw (drop-cons s at 0 h) (last_in (get_or s at 0) (drop (suc at) s) end start at w acc l g)

  pub read_more : (l : ℕ) → (l ≡ 0 → ⊥) → at < length s → 128 ≤ get_or s at 0
      → number_in l (drop at s) end start at w acc
      ≡ number_in (l - 1) (drop (at + 1) s) end start (at + 1) (w * 128) ((get_or s at 0 - 128) * w + acc)
  read_more zero n h g = absurd (n refl)
  read_more (suc l) n h g =
      rw (drop-cons s at 0 h) (next_in (get_or s at 0) (drop (suc at) s) end start at w acc l g)
      ∙ ap₂ (λ (k j : ℕ). number_in k (drop j s) end start (at + 1) (w * 128) ((get_or s at 0 - 128) * w + acc)) (sym (sub-one (suc l))) (sym (add-one at))

-- w is the weight of a group that at most l more may follow
abbrev pub Weight : ℕ → ℕ → Type 0
Weight zero w = w ≡ 2 ^ 28
Weight (suc l) w = Weight l (w * 128)

pub weight_le : (l w : ℕ) → Weight l w → w ≤ 2 ^ 28
weight_le zero w e = omega arith
weight_le (suc l) w h = omega (arith, weight_le l (w * 128) h)

pub weight-more : (l w : ℕ) → (l ≡ 0 → ⊥) → Weight l w → Weight (l - 1) (w * 128)
weight-more zero w n h = absurd (n refl)
weight-more (suc l) w n h = rw (sub-one (suc l)) h

-- a group on top of what the groups before it make
pub group_lt : (b m w acc k : ℕ) → b < m → acc < w → m * w ≤ k → b * w + acc < k
group_lt b m w acc k hb ha hk = omega (arith, digits_lt hb ha)
