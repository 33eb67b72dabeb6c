-- Lent buffers: what `laid` and `front` hold, and what a loop that writes place after place leaves.
-- Assumes nothing.
use Prim.Native.Nat.{ℕ, zero, suc, ◌+◌, ◌-◌, ◌≤◌, ◌<◌}
use mathlib.Core.Path.{◌≡◌, refl, sym, ap, ◌∙◌}
use mathlib.Core.List.{List, ◌++◌}
use native.Mathlib.Omega.{arith}
use native.Mathlib.Numerals.{add-one}
use native.Mathlib.Decide.{dec_le}
use lib.ListN.{length, take, drop, get_or, set, replicate, length-append, length-replicate, length-drop, length-set, get_or-append, get_or-eq_default, take-append-drop}
use lib.Seq.{set_at, take-suc, drop-cons, length-take-le, append_snoc, get_or-append-add, get_or-drop, take-length, take_at, drop-append-add, drop-drop}
use Rattle.wire.specs.Lent.{padded, laid, front}

-- ---- what stands where

pub length-padded : (full : ℕ) (used : List ℕ) → length used ≤ full → length (padded full used) ≡ full
unfolding padded
length-padded full used h = simp (length-append, length-replicate) (omega arith)

zeros_at : (k n : ℕ) → get_or {A = ℕ} (replicate k 0) n 0 ≡ 0
zeros_at zero n = refl
zeros_at (suc k) zero = refl
zeros_at (suc k) (suc n) = zeros_at k n

padded-rest : (full : ℕ) (used : List ℕ) (i : ℕ) → length used ≤ i → get_or (padded full used) i 0 ≡ 0
unfolding padded
padded-rest full used i h =
    let e : i ≡ length used + (i - length used) = omega arith in
    ap (λ (k : ℕ). get_or (used ++ replicate (full - length used) 0) k 0) e
    ∙ get_or-append-add used (replicate (full - length used) 0) (i - length used) 0
    ∙ zeros_at (full - length used) (i - length used)

-- a place of a padded list holds what the used list has there, and 0 past its end
pub padded_at : (full : ℕ) (used : List ℕ) (i : ℕ) → get_or (padded full used) i 0 ≡ get_or used i 0
unfolding padded
padded_at full used i =
    elim (dec_le (length used) i) [
      | yes h ↦ padded-rest full used i h ∙ sym (get_or-eq_default used 0 h)
      | no h ↦ get_or-append used (replicate (full - length used) 0) 0 i (omega arith)
    ]

module _ (full : ℕ) (used old : List ℕ) (fits : length used ≤ full) where
  -- up to the full size: the used places, and 0 in the others
  pub laid_at : (i : ℕ) → i < full → get_or (laid full used old) i 0 ≡ get_or used i 0
  unfolding laid
  laid_at i h =
      get_or-append (padded full used) (drop full old) 0 i (rw (length-padded full used fits) h) ∙ padded_at full used i

  -- from the full size on: as it was
  pub laid_beyond : (i : ℕ) → full ≤ i → get_or (laid full used old) i 0 ≡ get_or old i 0
  unfolding laid
  laid_beyond i h =
      let l = length-padded full used fits in
      let e : i ≡ length (padded full used) + (i - full) = omega arith in
      let k : full + (i - full) ≡ i = omega arith in
      ap (λ (j : ℕ). get_or (padded full used ++ drop full old) j 0) e
      ∙ get_or-append-add (padded full used) (drop full old) (i - full) 0
      ∙ get_or-drop full old (i - full) 0
      ∙ ap (λ (j : ℕ). get_or old j 0) k

  pub length-laid : full ≤ length old → length (laid full used old) ≡ length old
  unfolding laid
  length-laid h = simp (length-append, length-drop, length-replicate) (omega arith)

-- ---- a loop that writes place after place

-- the places before i hold what p has there, and the others what they held
pub record Filled (p out old : List ℕ) (i : ℕ) : Type 0 where
  pub upto : i ≤ length p
  pub long : length out ≡ length old
  pub same : out ≡ take i p ++ drop i old

pub filled_none : (p old : List ℕ) → Filled p old old 0
filled_none p old = record { upto = omega arith; long = refl; same = refl }

write_more : (p old : List ℕ) (i : ℕ) → i < length p → i < length old
    → set (take i p ++ drop i old) i (get_or p i 0) ≡ take (i + 1) p ++ drop (i + 1) old
write_more p old i h k =
    rw (add-one, drop-cons old i 0, set_at (take i p) _ _ (get_or p i 0) i (length-take-le i p (omega arith)), take-suc p i 0, append_snoc)

pub filled_more : (p out old : List ℕ) (i v : ℕ) → i < length p → length p ≤ length old → v ≡ get_or p i 0 → Filled p out old i
    → Filled p (set out i v) old (i + 1)
filled_more p out old i v h k e f =
    record { upto = omega arith; long = simp length-set f.long; same = rw (f.same, e) (write_more p old i h (omega arith)) }

-- all of p is written: it stands at the front
pub filled-done : (p out old : List ℕ) (i : ℕ) → length p ≤ i → Filled p out old i → out ≡ front p old
filled-done p out old i h f =
    let e : i ≡ length p = omega (arith, f.upto) in
    f.same ∙ rw (e, take-length)

-- a loop that writes 0 from the place `from` up to the full size starts so, goes on so, and ends so
pub zeros-none : (from full : ℕ) (old : List ℕ) → from ≤ full → full ≤ length old → Filled (padded full (take from old)) old old from
unfolding padded
zeros-none from full old h k =
    let l : length (take from old) ≡ from = length-take-le from old (omega arith) in
    record {
      upto = simp (length-append, l) (omega arith);
      long = refl;
      same = sym (ap (λ (t : List ℕ). t ++ drop from old) (take_at (take from old) _ from l) ∙ take-append-drop from old);
    }

module _ (from full : ℕ) (out old : List ℕ) (i : ℕ) (h : from ≤ full) (k : full ≤ length old) where
  zeros-length : length (take from old) ≡ from
  zeros-length = length-take-le from old (omega arith)

  padded-length : length (padded full (take from old)) ≡ full
  padded-length = length-padded full (take from old) (omega (arith, zeros-length))

  pub zeros-more : from ≤ i → i < full → Filled (padded full (take from old)) out old i → Filled (padded full (take from old)) (set out i 0) old (i + 1)
  zeros-more g j f =
      filled_more (padded full (take from old)) out old i 0 (omega (arith, padded-length)) (omega (arith, padded-length))
      (sym (padded-rest full (take from old) i (omega (arith, zeros-length))))
      f

  pub zeros-done : full ≤ i → Filled (padded full (take from old)) out old i → out ≡ laid full (take from old) old
  unfolding laid
  zeros-done g f =
      filled-done (padded full (take from old)) out old i (rw padded-length g) f ∙ rw padded-length

-- the used places first, at the front, and then 0 up to the full size
pub laid-after : (full : ℕ) (used out old : List ℕ) (n : ℕ) → length used ≡ n → n ≤ full → out ≡ front used old
    → laid full (take n out) out ≡ laid full used old
unfolding laid padded
laid-after full used out old n l h e =
    let t : take n out ≡ used = rw e (take_at used (drop (length used) old) n l) in
    let k : full ≡ length used + (full - n) = omega arith in
    let d : drop full out ≡ drop full old =
    ap (drop full) e
    ∙ ap (λ (m : ℕ). drop m (used ++ drop (length used) old)) k
    ∙ drop-append-add used (drop (length used) old) (full - n)
    ∙ drop-drop (full - n) (length used) old
    ∙ rw (← k) in
    rw (t, d)
