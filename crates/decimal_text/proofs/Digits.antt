-- A number in base ten, by its equations, and how long it is.
-- Assumes nothing.
use Prim.Native.Nat.{ℕ, zero, suc, ◌+◌, ◌/◌, ◌%◌, ◌≤◌, ◌<◌}
use mathlib.Core.Path.{◌≡◌, refl, sym, ap, ◌∙◌}
use mathlib.Core.List.{List, [], ◌∷◌, ◌++◌}
use native.Mathlib.Omega.{arith}
use lib.ListN.{length, drop, set, length-append}
use borrow.Author.Tests.{lt-ltb, le-ltb}
use Rattle.wire.specs.Lent.{front}
use Rattle.wire.proofs.Encoding.{split}
use Rattle.wire.proofs.Putting.{put_one}
use Rattle.decimal_text.specs.Decimal.{digit, decimal_in, decimal}

one_in : (l x : ℕ) → x < 10 → decimal_in l x ≡ digit x ∷ []
unfolding decimal_in
one_in zero x h = refl
one_in (suc l) x h = simp (lt-ltb x 10 h)

more_in : (l x : ℕ) → 10 ≤ x → decimal_in (suc l) x ≡ decimal_in l (x / 10) ++ (digit (x % 10) ∷ [])
unfolding decimal_in
more_in l x h = simp (le-ltb x 10 h)

same : (l m x : ℕ) → x ≤ l → x ≤ m → decimal_in l x ≡ decimal_in m x
same zero m x h k = let z : x < 10 = omega arith in one_in 0 x z ∙ sym (one_in m x z)
same (suc l) zero x h k = let z : x < 10 = omega arith in one_in (suc l) x z ∙ sym (one_in 0 x z)
same (suc l) (suc m) x h k =
    split 10 x
    (λ g. more_in l x g ∙ ap (λ (t : List ℕ). t ++ (digit (x % 10) ∷ [])) (same l m (x / 10) (omega arith) (omega arith)) ∙ sym (more_in m x g))
    (λ g. one_in (suc l) x g ∙ sym (one_in (suc m) x g))

pub decimal-one : (x : ℕ) → x < 10 → decimal x ≡ digit x ∷ []
unfolding decimal
decimal-one x h = one_in x x h

pub decimal-more : (x : ℕ) → 10 ≤ x → decimal x ≡ decimal (x / 10) ++ (digit (x % 10) ∷ [])
unfolding decimal
decimal-more x h =
    same x (suc x) x (omega arith) (omega arith)
    ∙ more_in x x h
    ∙ ap (λ (t : List ℕ). t ++ (digit (x % 10) ∷ [])) (same x (x / 10) (x / 10) (omega arith) (omega arith))

-- ---- how long it is

pub more-long : (x : ℕ) → 10 ≤ x → length (decimal x) ≡ length (decimal (x / 10)) + 1
more-long x h = ap length (decimal-more x h) ∙ length-append (decimal (x / 10)) (digit (x % 10) ∷ [])

pub decimal-some : (x : ℕ) → 0 < length (decimal x)
decimal-some x = split 10 x (λ g. omega (arith, more-long x g)) (λ g. rw (decimal-one x g) (omega arith))

-- a digit more than a tenth of it has
longer : (n x : ℕ) → 1 ≤ n → length (decimal (x / 10)) ≤ n → length (decimal x) ≤ n + 1
longer n x p h = split 10 x (λ g. omega (arith, more-long x g)) (λ g. rw (decimal-one x g) (omega arith))

-- up to ten digits
abbrev pub ten_digits : ℕ
ten_digits = 10000000000

pub decimal_most : (x : ℕ) → x < ten_digits → length (decimal x) ≤ 10
decimal_most x h =
    let x1 = x / 10 in
    let x2 = x1 / 10 in
    let x3 = x2 / 10 in
    let x4 = x3 / 10 in
    let x5 = x4 / 10 in
    let x6 = x5 / 10 in
    let x7 = x6 / 10 in
    let x8 = x7 / 10 in
    let x9 = x8 / 10 in
    let l : length (decimal x9) ≤ 1 = rw (decimal-one x9 (omega arith)) (omega arith) in
    longer 9 x (omega arith) (longer 8 x1 (omega arith) (longer 7 x2 (omega arith) (longer 6 x3 (omega arith) (longer 5 x4 (omega arith)
    (longer 4 x5 (omega arith) (longer 3 x6 (omega arith) (longer 2 x7 (omega arith) (longer 1 x8 (omega arith) l))))))))

-- ---- the digits written

-- a number of one digit
pub digit-put : (d : List ℕ) (x : ℕ) → x < 10 → 0 < length d → (1 ≡ length (decimal x)) × (set d 0 (x + 48) ≡ front (decimal x) d)
digit-put d x h r = rw (decimal-one x h) (refl, put_one d [] 0 (x + 48) refl r)

-- the digits before the last, and the last
pub digits_put : (d e : List ℕ) (x at : ℕ) → 10 ≤ x → length (decimal x) ≤ length d → at ≡ length (decimal (x / 10)) → e ≡ front (decimal (x / 10)) d
    → (at + 1 ≡ length (decimal x)) × (set e at (x % 10 + 48) ≡ front (decimal x) d)
digits_put d e x at h r n p =
    let l = more-long x h in
    let m : at + 1 ≡ length (decimal x) = omega arith in (
      m,
      ap (λ (t : List ℕ). set t at (x % 10 + 48)) (p ∙ ap (λ (k : ℕ). decimal (x / 10) ++ drop k d) (sym n))
          ∙ put_one d (decimal (x / 10)) at (x % 10 + 48) (sym n) (omega arith)
          ∙ ap (λ (t : List ℕ). t ++ drop (at + 1) d) (sym (decimal-more x h))
          ∙ ap (λ (k : ℕ). decimal x ++ drop k d) m,
    )
