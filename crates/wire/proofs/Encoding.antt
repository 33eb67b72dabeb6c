-- The encoding, by its equations: nothing after them looks at how deep `encode_in` may go.
-- Assumes nothing.
use Prim.Native.Nat.{ℕ, zero, suc, ◌+◌, ◌-◌, ◌*◌, ◌/◌, ◌%◌, ◌^◌, ◌≤◌, ◌<◌}
use mathlib.Core.Path.{◌≡◌, refl, sym, ap, ◌∙◌}
use mathlib.Core.List.{List, [], ◌∷◌}
use native.Mathlib.Omega.{arith}
use native.Mathlib.Nat.{lt_of_not-le}
use native.Mathlib.Decide.{dec_le}
use lib.ListN.{length}
use lib.Pow.{pow_mono, pow-add}
use lib.Count.{count_leading_zeros, leading_length}
use borrow.Author.Tests.{lt-ltb, le-ltb}
use Rattle.wire.specs.Numbers.{encode_in, encode}

-- one order or the other
pub split {ℓ} : {X : Type ℓ} (a b : ℕ) → (a ≤ b → X) → (b < a → X) → X
split a b f g = elim (dec_le a b) [ yes h ↦ f h | no h ↦ g (lt_of_not-le h) ]

-- x has at most l groups after the first
abbrev pub Small : ℕ → ℕ → Type 0
Small zero x = x < 128
Small (suc l) x = Small l (x / 128)

pub one_in : (l x : ℕ) → x < 128 → encode_in l x ≡ x ∷ []
unfolding encode_in
one_in zero x h = refl
one_in (suc l) x h = simp (lt-ltb x 128 h)

pub more_in : (l x : ℕ) → 128 ≤ x → encode_in (suc l) x ≡ (x % 128 + 128) ∷ encode_in l (x / 128)
unfolding encode_in
more_in l x h = simp (le-ltb x 128 h)

same : (l m x : ℕ) → Small l x → Small m x → encode_in l x ≡ encode_in m x
same zero m x h k = one_in 0 x h ∙ sym (one_in m x h)
same (suc l) zero x h k = one_in (suc l) x k ∙ sym (one_in 0 x k)
same (suc l) (suc m) x h k =
    split 128 x
    (λ g. more_in l x g ∙ ap (λ (t : List ℕ). (x % 128 + 128) ∷ t) (same l m (x / 128) h k) ∙ sym (more_in m x g))
    (λ g. one_in (suc l) x g ∙ sym (one_in (suc m) x g))

pub encode_one : (x : ℕ) → x < 128 → encode x ≡ x ∷ []
unfolding encode
encode_one x h = one_in 4 x h

pub encode-more : (x : ℕ) → 128 ≤ x → x < 2 ^ 32 → encode x ≡ (x % 128 + 128) ∷ encode (x / 128)
unfolding encode
encode-more x h k = more_in 3 x h ∙ ap (λ (t : List ℕ). (x % 128 + 128) ∷ t) (same 3 4 (x / 128) (omega arith) (omega arith))

-- ---- how long it is

-- m is x's length in bits
short_bits : (x m : ℕ) → x < 128 → 2 ^ m ≤ 2 * x + 1 → m ≤ 7
short_bits x m h l = split m 7 (λ g. g) (λ g. absurd (omega (arith, pow_mono {i = 8} {j = m} g)))

some_bits : (x m : ℕ) → 0 < x → x < 2 ^ m → 0 < m
some_bits x zero p h = omega arith
some_bits x (suc m) p h = omega arith

long_bits : (x m : ℕ) → 128 ≤ x → x < 2 ^ m → 7 < m
long_bits x m h k = split m 7 (λ g. absurd (omega (arith, pow_mono {i = m} {j = 7} g))) (λ g. g)

few_bits : (l x m : ℕ) → x < 128 → 0 < x → x < 2 ^ m → 2 ^ m ≤ 2 * x + 1 → length (encode_in l x) ≡ (m + 6) / 7
few_bits l x m g p h k = ap length (one_in l x g) ∙ omega (arith, short_bits x m g k, some_bits x m p h)

bits : (l x m : ℕ) → Small l x → 0 < x → x < 2 ^ m → 2 ^ m ≤ 2 * x + 1 → length (encode_in l x) ≡ (m + 6) / 7
bits zero x m s p h k = few_bits 0 x m s p h k
bits (suc l) x m s p h k =
    split 128 x
    (λ g.
    let b : 7 < m = long_bits x m g h in
    let e : (m - 7) + 7 ≡ m = omega arith in
    let f : 2 ^ m ≡ 2 ^ (m - 7) * 128 = ap (λ (j : ℕ). 2 ^ j) (sym e) ∙ pow-add 2 (m - 7) 7 in
    let h' : x / 128 < 2 ^ (m - 7) = omega arith in
    ap length (more_in l x g)
    ∙ ap suc (bits l (x / 128) (m - 7) s (omega arith) h' (omega arith))
    ∙ omega arith)
    (λ g. few_bits (suc l) x m g p h k)

-- by the leading zeros of x as a word of 32 bits
pub length-encode : (x : ℕ) → 0 < x → x < 2 ^ 32 → (38 - count_leading_zeros 32 x) / 7 ≡ length (encode x)
unfolding encode
length-encode x p h =
    let t = leading_length 32 x h in
    let e : 38 - count_leading_zeros 32 x ≡ t.0 + 6 = omega arith in
    ap (λ (j : ℕ). j / 7) e ∙ sym (bits 4 x t.0 (omega arith) p t.2 t.3)

pub encode-some : (x : ℕ) → 0 < length (encode x)
unfolding encode
encode-some x = split 128 x (λ g. rw (more_in 3 x g) (omega arith)) (λ g. rw (one_in 4 x g) (omega arith))

pub encode_most : (x : ℕ) → length (encode x) ≤ 5
unfolding encode
encode_most x = go 4 x
  where
    go : (l x : ℕ) → length (encode_in l x) ≤ l + 1
    go zero x = omega arith
    go (suc l) x = split 128 x (λ g. rw (more_in l x g) (omega (arith, go l (x / 128)))) (λ g. rw (one_in (suc l) x g) (omega arith))
