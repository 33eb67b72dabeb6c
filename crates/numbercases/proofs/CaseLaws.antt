-- One more digit, and one more pair of digits. Assumes nothing.
use Prim.Native.Nat.{ℕ, suc, ◌+◌, ◌-◌, ◌*◌, ◌/◌, ◌%◌, ◌≤◌, ◌<◌}
use mathlib.Core.Path.{◌≡◌, sym, ap, ◌∙◌, subst}
use mathlib.Core.List.{List}
use native.Mathlib.Omega.{arith}
use native.Mathlib.Numerals.{add-one}
use lib.ListN.{length, get_or, drop, set, drop_of_length-le}
use lib.Seq.{drop-cons, get_or-set_same, get_or-set_other}
use borrow.Author.Count.{below_more}
use Rattle.numbercases.specs.Digits.{digit_byte}
use Rattle.numbercases.specs.Cases.{decimal_from, Pair, Pairs}
use Rattle.numbercases.proofs.DigitLaws.{digit_low}

pub decimal_end : (s : List ℕ) (i value : ℕ) → length s ≤ i → decimal_from value (drop i s) ≡ value
unfolding decimal_from
decimal_end s i value h = rw (drop_of_length-le s h)

pub decimal-more : (s : List ℕ) (i value d : ℕ) → i < length s → d ≤ 9 → digit_byte d ≡ get_or s i 0
    → decimal_from value (drop i s) ≡ decimal_from (value * 10 + d) (drop (i + 1) s)
unfolding decimal_from
decimal-more s i value d h l e =
    let r : get_or s i 0 - 48 ≡ d = omega (arith, sym e ∙ digit_low d (omega arith)) in
    ap (decimal_from value) (drop-cons s i 0 h)
    ∙ ap (λ (k : ℕ). decimal_from (value * 10 + k) (drop (suc i) s)) r
    ∙ ap (λ (k : ℕ). decimal_from (value * 10 + d) (drop k s)) (sym (add-one i))

one_pair : (s : List ℕ) (k high low : ℕ) → high ≤ 15 → low ≤ 15 → digit_byte high ≡ get_or s (2 * k) 0
    → digit_byte low ≡ get_or s (2 * k + 1) 0 → Pair (high * 16 + low) s k
one_pair s k high low h l e f =
    let p : (high * 16 + low) / 16 ≡ high = omega arith in
    let q : (high * 16 + low) % 16 ≡ low = omega arith in
    (ap digit_byte p ∙ e, ap digit_byte q ∙ f)

pub pairs_more : (s out : List ℕ) (i high low : ℕ) → i < length out → high ≤ 15 → low ≤ 15
    → digit_byte high ≡ get_or s (2 * i) 0 → digit_byte low ≡ get_or s (2 * i + 1) 0 → Pairs i out s
    → Pairs (i + 1) (set out i (high * 16 + low)) s
pairs_more s out i high low q h l e f all =
    let b = high * 16 + low in
    below_more (λ (k : ℕ). Pair (get_or (set out i b) k 0) s k) i
    (λ k m. subst (λ (x : ℕ). Pair x s k) (sym (get_or-set_other out i k b 0 (λ g. omega arith))) (all k m))
    (subst (λ (x : ℕ). Pair x s i) (sym (get_or-set_same out i b 0 q)) (one_pair s i high low h l e f))
