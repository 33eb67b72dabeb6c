-- Rooms of zeros, and their front parts. Assumes nothing.
use Prim.Native.Nat.{ℕ, zero, suc, ◌≤◌}
use mathlib.Core.Path.{◌≡◌, refl, ap, ◌∙◌}
use mathlib.Core.List.{List}
use native.Mathlib.Decide.{dec_le}
use native.Mathlib.Omega.{arith}
use lib.ListN.{length, get_or, take, length-replicate, length-take, get_or-eq_default}
use lib.Seq.{get_or-take, length-take-le}
use Rattle.wire_lent.specs.Zeros.{zeros}

zeros-long : (k : ℕ) → length (zeros k) ≡ k
unfolding zeros
zeros-long k = length-replicate {A = ℕ} k 0

zeros_at : (k q : ℕ) → get_or (zeros k) q 0 ≡ 0
unfolding zeros
zeros_at zero q = refl
zeros_at (suc k) zero = refl
zeros_at (suc k) (suc q) = zeros_at k q

module _ (k : ℕ) {room : List ℕ} (is : room ≡ zeros k) where
  pub room-long : length room ≡ k
  room-long = ap length is ∙ zeros-long k

  pub front_long : (n : ℕ) → n ≤ k → length (take n room) ≡ n
  front_long n h = length-take-le n room (omega (arith, room-long))

  pub front_flat : (n q : ℕ) → get_or (take n room) q 0 ≡ 0
  front_flat n q = go (dec_le n q)
    where
      go : Dec (n ≤ q) → get_or (take n room) q 0 ≡ 0
      go (yes h) = get_or-eq_default (take n room) 0 {n = q} (omega (arith, length-take n room))
      go (no h) = get_or-take n room q 0 (omega arith) ∙ ap (λ (x : List ℕ). get_or x q 0) is ∙ zeros_at k q
