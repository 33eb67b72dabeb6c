-- What callers need of the format: a number that was written is read back; what was read is the bytes of its encoding; a refusal is 1 or 2.
-- Assumes nothing.
use Prim.Native.Nat.{ℕ, zero, suc, ◌+◌, ◌-◌, ◌*◌, ◌/◌, ◌%◌, ◌^◌, ◌≤◌, ◌<◌}
use mathlib.Core.Path.{◌≡◌, sym, ap, ap₂, ◌∙◌, subst}
use mathlib.Core.Logic.{◌⊎◌, inl, inr}
use mathlib.Core.List.{List, [], ◌∷◌, ◌++◌}
use native.Mathlib.Omega.{arith}
use native.Mathlib.Nat.{add-mul, mul_assoc, mul_comm, mul_left_comm}
use lib.ListN.{length, get_or, take, drop, length-append, length-drop}
use lib.Seq.{drop-append_seam, take-append_seam, get_or-drop, drop-drop, take-nil, length-take-le}
use Rattle.wire.specs.Numbers.{encode_in, encode, ended, number_in, number_at}
use Rattle.wire.specs.Refusals.{bytes_end, bad_number}
use Rattle.wire.proofs.Reading.{read_same, ended-refused, ended_whole, ended-first, none_in, great_in, fifth_in, last_in, next_in}
use Rattle.wire.proofs.Encoding.{split, one_in, more_in, encode-some}
use Rattle.wire.specs.Found.{good, fault}

ended-right : (b start at w acc : ℕ) → (b ≡ 0 → at ≤ start) → ended b start at w acc ≡ good (record { content = b * w + acc; next = at + 1 })
ended-right b start at w acc h =
    split 1 b (λ g. ended_whole b start at w acc (λ e. omega arith)) (λ g. ended-first b start at w acc (h (omega arith)))

-- ---- what was written is read back

-- x has at most l groups after the first, and the fifth is below 16
abbrev pub Below : ℕ → ℕ → Type 0
Below zero x = x < 16
Below (suc l) x = Below l (x / 128)

-- a group g, and the number y in the groups above it
groups : (y g w acc : ℕ) → y * (w * 128) + (g * w + acc) ≡ (g + y * 128) * w + acc
groups y g w acc =
    let p = add-mul g (y * 128) w in
    let q : y * (w * 128) ≡ y * 128 * w = simp (mul_assoc, mul_comm, mul_left_comm) in
    omega arith

back_in : (l x : ℕ) (rest : List ℕ) (end start at w acc : ℕ) → Below l x → (x ≡ 0 → at ≤ start)
    → number_in l (encode_in l x ++ rest) end start at w acc ≡ good (record { content = x * w + acc; next = at + length (encode_in l x) })
back_in zero x rest end start at w acc h z =
    ap (λ (t : List ℕ). number_in 0 (t ++ rest) end start at w acc) (one_in 0 x (omega arith))
    ∙ fifth_in x rest end start at w acc (omega arith)
    ∙ ended-right x start at w acc z
    ∙ ap (λ (t : List ℕ). good (record { content = x * w + acc; next = at + length t })) (sym (one_in 0 x (omega arith)))
back_in (suc l) x rest end start at w acc h z =
    split 128 x
    (λ g.
    let b : ℕ = x % 128 + 128 in
    let e : (b - 128) * w + acc ≡ x % 128 * w + acc = ap (λ (k : ℕ). k * w + acc) (omega arith) in
    let n : at + 1 + length (encode_in l (x / 128)) ≡ at + length (encode_in (suc l) x) = omega (arith, ap length (more_in l x g)) in
    ap (λ (t : List ℕ). number_in (suc l) (t ++ rest) end start at w acc) (more_in l x g)
    ∙ next_in b (encode_in l (x / 128) ++ rest) end start at w acc l (omega arith)
    ∙ ap (λ (k : ℕ). number_in l (encode_in l (x / 128) ++ rest) end start (at + 1) (w * 128) k) e
    ∙ back_in l (x / 128) rest end start (at + 1) (w * 128) (x % 128 * w + acc) h (λ q. absurd (omega arith))
    ∙ ap₂ (λ (v k : ℕ). good (record { content = v; next = k })) (groups (x / 128) (x % 128) w acc ∙ ap (λ (k : ℕ). k * w + acc) (omega arith)) n)
    (λ g.
    ap (λ (t : List ℕ). number_in (suc l) (t ++ rest) end start at w acc) (one_in (suc l) x g)
    ∙ last_in x rest end start at w acc l g
    ∙ ended-right x start at w acc z
    ∙ ap (λ (t : List ℕ). good (record { content = x * w + acc; next = at + length t })) (sym (one_in (suc l) x g)))

-- The form to go on with: where what is left begins with x's encoding, x is read, and what is left then is what follows it.
pub number_suffix : (s : List ℕ) (at x : ℕ) (rest : List ℕ) → x < 2 ^ 32 → drop at s ≡ encode x ++ rest
    → (number_at s at ≡ good (record { content = x; next = at + length (encode x) })) × (drop (at + length (encode x)) s ≡ rest)
unfolding number_at encode
number_suffix s at x rest h e = (
  ap (λ (t : List ℕ). number_in 4 t (length s) at at 1 0) e
      ∙ back_in 4 x rest (length s) at at 1 0 (omega arith) (λ q. omega arith)
      ∙ ap (λ (v : ℕ). good (record { content = v; next = at + length (encode x) })) (omega arith),
  sym (drop-drop (length (encode x)) at s) ∙ ap (drop (length (encode x))) e ∙ drop-append_seam (encode x) rest,
)

pub number-encode : (before : List ℕ) (x : ℕ) (rest : List ℕ) → x < 2 ^ 32
    → number_at (before ++ (encode x ++ rest)) (length before) ≡ good (record { content = x; next = length before + length (encode x) })
number-encode before x rest h =
    (number_suffix (before ++ (encode x ++ rest)) (length before) x rest h (drop-append_seam before (encode x ++ rest))).0

-- ---- what was read is the bytes of its encoding

-- each byte is below 256, as the rule for a slice gives it: `λ i. (c.shared-slice-known.given i).fits`
abbrev pub Bytes : List ℕ → Type 0
Bytes s = (i : ℕ) → get_or s i 0 < 256

-- what `ended` took
ended_took : (b start at w acc v : ℕ) (c : ℕ) → ended b start at w acc ≡ good (record { content = v; next = c })
    → (v ≡ b * w + acc) × (c ≡ at + 1) × (b ≡ 0 → at ≤ start)
ended_took b start at w acc v c e =
    split 1 b
    (λ g. let f = read_same (sym (ended_whole b start at w acc (λ q. omega arith)) ∙ e) in (sym f.0, sym f.1, λ q. omega arith))
    (λ g.
    split at start
    (λ h. let f = read_same (sym (ended-first b start at w acc h) ∙ e) in (sym f.0, sym f.1, λ q. h))
    (λ h. let f = sym (ended-refused b start at w acc (omega arith) h) ∙ e in let z : ◌≡◌ {A = ℕ} 0 1 = cc in absurd (omega arith)))

-- s begins with the encoding of a number x, which the groups before it make v
pub record Took (l : ℕ) (s : List ℕ) (start at w acc v : ℕ) (c : ℕ) : Type 0 where
  pub x : ℕ
  pub rest : List ℕ
  pub below : Below l x
  pub value : v ≡ x * w + acc
  pub bytes : s ≡ encode_in l x ++ rest
  pub next : c ≡ at + length (encode_in l x)
  pub first : x ≡ 0 → at ≤ start

took_one : (l b : ℕ) (s : List ℕ) (start at w acc v : ℕ) (c : ℕ) → Below l b → b < 128 → ended b start at w acc ≡ good (record { content = v; next = c })
    → Took l (b ∷ s) start at w acc v c
took_one l b s start at w acc v c h g e =
    let t = ended_took b start at w acc v c e in
    record {
      x = b;
      rest = s;
      below = h;
      value = t.0;
      bytes = ap (λ (u : List ℕ). u ++ s) (sym (one_in l b g));
      next = ap (λ (k : ℕ). k) t.1 ∙ omega (arith, ap length (one_in l b g));
      first = t.2;
    }

below-few : (l b : ℕ) → b < 128 → Below (suc l) b
below-few zero b h = omega arith
below-few (suc l) b h = below-few l (b / 128) (omega arith)

took_more : (l b : ℕ) (s : List ℕ) (start at w acc v : ℕ) (c : ℕ) → 128 ≤ b → b < 256 → start ≤ at
    → Took l s start (at + 1) (w * 128) ((b - 128) * w + acc) v c → Took (suc l) (b ∷ s) start at w acc v c
took_more l b s start at w acc v c g k o t =
    let y : ℕ = t.x in
    let n : ℕ = (b - 128) + y * 128 in
    let pos : 0 < y = split 1 y (λ p. p) (λ p. absurd (omega (arith, t.first (omega arith)))) in
    let q : n / 128 ≡ y = omega arith in
    let r : n % 128 + 128 ≡ b = omega arith in
    let e : encode_in (suc l) n ≡ b ∷ encode_in l y =
    more_in l n (omega arith) ∙ ap₂ (λ (i j : ℕ). i ∷ encode_in l j) r q
    in
    record {
      x = n;
      rest = t.rest;
      below = subst (Below l) (sym q) t.below;
      value = t.value ∙ groups y (b - 128) w acc;
      bytes = ap (λ (u : List ℕ). b ∷ u) t.bytes ∙ ap (λ (u : List ℕ). u ++ t.rest) (sym e);
      next = t.next ∙ omega (arith, ap length e);
      first = λ z. absurd (omega arith);
    }

took : (l : ℕ) (s : List ℕ) (end start at w acc v : ℕ) (c : ℕ) → Bytes s → start ≤ at
    → number_in l s end start at w acc ≡ good (record { content = v; next = c }) → Took l s start at w acc v c
took l [] end start at w acc v c h o e =
    let f = sym (none_in l end start at w acc) ∙ e in
    let z : ◌≡◌ {A = ℕ} 0 1 = cc in
    absurd (omega arith)
took zero (b ∷ s) end start at w acc v c h o e =
    split b 15
    (λ g. took_one 0 b s start at w acc v c (omega arith) (omega arith) (sym (fifth_in b s end start at w acc g) ∙ e))
    (λ g.
    let f = sym (great_in b s end start at w acc g) ∙ e in
    let z : ◌≡◌ {A = ℕ} 0 1 = cc in
    absurd (omega arith))
took (suc l) (b ∷ s) end start at w acc v c h o e =
    split 128 b
    (λ g.
    took_more l b s start at w acc v c g (h 0) o
    (took l s end start (at + 1) (w * 128) ((b - 128) * w + acc) v c (λ i. h (suc i)) (omega arith) (sym (next_in b s end start at w acc l g) ∙ e)))
    (λ g. took_one (suc l) b s start at w acc v c (below-few l b g) g (sym (last_in b s end start at w acc l g) ∙ e))

-- What a value that was read says: it fits a u32, the place after it is within the file, and the bytes between are its encoding.
pub record Reads (s : List ℕ) (at x : ℕ) (c : ℕ) : Type 0 where
  pub fits : x < 2 ^ 32
  pub next : c ≡ at + length (encode x)
  pub within : c ≤ length s
  pub bytes : take (length (encode x)) (drop at s) ≡ encode x
  pub suffix : drop at s ≡ encode x ++ drop c s

pub number-value : (s : List ℕ) (at x : ℕ) (c : ℕ) → Bytes s → number_at s at ≡ good (record { content = x; next = c }) → Reads s at x c
unfolding number_at encode
number-value s at x c h e =
    let t = took 4 (drop at s) (length s) at at 1 0 x c (λ i. rw get_or-drop (h (at + i))) (omega arith) e in
    let v : x ≡ t.x = omega (arith, t.value) in
    let n : c ≡ at + length (encode x) = t.next ∙ ap (λ (k : ℕ). at + length (encode k)) (sym v) in
    let b : drop at s ≡ encode x ++ t.rest = t.bytes ∙ ap (λ (k : ℕ). encode k ++ t.rest) (sym v) in
    let m = simp (length-append, length-drop) at (ap length b) in
    record {
      fits = omega (arith, t.below);
      next = n;
      within = omega (arith, encode-some x);
      bytes = rw b (take-append_seam (encode x) t.rest);
      suffix = b ∙ ap (λ (u : List ℕ). encode x ++ u)
          (sym (ap (λ (k : ℕ). drop k s) n
          ∙ sym (drop-drop (length (encode x)) at s)
          ∙ ap (drop (length (encode x))) b
          ∙ drop-append_seam (encode x) t.rest));
    }

-- ---- a refusal is 1 at the file's end, or 2 at the number's first byte

abbrev pub Refusal : ℕ → ℕ → ℕ → ℕ → Type 0
Refusal end start k p = ((k ≡ bytes_end) × (p ≡ end)) ⊎ ((k ≡ bad_number) × (p ≡ start))

ended-fault : (b start at w acc end k p : ℕ) → ended b start at w acc ≡ fault k p → Refusal end start k p
ended-fault b start at w acc end k p e =
    split 1 b
    (λ g. let f = sym (ended_whole b start at w acc (λ q. omega arith)) ∙ e in let z : ◌≡◌ {A = ℕ} 0 1 = cc in absurd (omega arith))
    (λ g.
    split at start
    (λ h. let f = sym (ended-first b start at w acc h) ∙ e in let z : ◌≡◌ {A = ℕ} 0 1 = cc in absurd (omega arith))
    (λ h. let f = sym (ended-refused b start at w acc (omega arith) h) ∙ e in inr (cc, cc)))

fault_in : (l : ℕ) (s : List ℕ) (end start at w acc k p : ℕ) → number_in l s end start at w acc ≡ fault k p → Refusal end start k p
fault_in l [] end start at w acc k p e = let f = sym (none_in l end start at w acc) ∙ e in inl (cc, cc)
fault_in zero (b ∷ s) end start at w acc k p e =
    split b 15
    (λ g. ended-fault b start at w acc end k p (sym (fifth_in b s end start at w acc g) ∙ e))
    (λ g. let f = sym (great_in b s end start at w acc g) ∙ e in inr (cc, cc))
fault_in (suc l) (b ∷ s) end start at w acc k p e =
    split 128 b
    (λ g. fault_in l s end start (at + 1) (w * 128) ((b - 128) * w + acc) k p (sym (next_in b s end start at w acc l g) ∙ e))
    (λ g. ended-fault b start at w acc end k p (sym (last_in b s end start at w acc l g) ∙ e))

pub number-fault : (s : List ℕ) (at k p : ℕ) → number_at s at ≡ fault k p → Refusal (length s) at k p
unfolding number_at
number-fault s at k p e = fault_in 4 (drop at s) (length s) at at 1 0 k p e

-- ---- where the place after a number is, whatever the bytes; and what is read of a file that is cut short

within_in : (l : ℕ) (t : List ℕ) (end start at w acc v : ℕ) (c : ℕ) → number_in l t end start at w acc ≡ good (record { content = v; next = c })
    → (at < c) × (c ≤ at + length t)
within_in l [] end start at w acc v c e =
    let f = sym (none_in l end start at w acc) ∙ e in
    let z : ◌≡◌ {A = ℕ} 0 1 = cc in
    absurd (omega arith)
within_in zero (b ∷ t) end start at w acc v c e =
    split b 15
    (λ g.
    let q = ap (λ (k : ℕ). k) (ended_took b start at w acc v c (sym (fifth_in b t end start at w acc g) ∙ e)).1 in
    (omega arith, omega arith))
    (λ g.
    let f = sym (great_in b t end start at w acc g) ∙ e in
    let z : ◌≡◌ {A = ℕ} 0 1 = cc in
    absurd (omega arith))
within_in (suc l) (b ∷ t) end start at w acc v c e =
    split 128 b
    (λ g.
    let q = within_in l t end start (at + 1) (w * 128) ((b - 128) * w + acc) v c (sym (next_in b t end start at w acc l g) ∙ e) in
    (omega arith, omega arith))
    (λ g.
    let q = ap (λ (k : ℕ). k) (ended_took b start at w acc v c (sym (last_in b t end start at w acc l g) ∙ e)).1 in
    (omega arith, omega arith))

pub number-within : (s : List ℕ) (at x : ℕ) (c : ℕ) → number_at s at ≡ good (record { content = x; next = c }) → (at < c) × (c ≤ length s)
unfolding number_at
number-within s at x c e =
    let q = within_in 4 (drop at s) (length s) at at 1 0 x c e in
    let l = length-drop at s in
    (omega arith, omega arith)

-- of the first i bytes a number is read as before if it ends within them, and else "bytes end within the file"
cut_in : (l : ℕ) (t : List ℕ) (end start at w acc v : ℕ) (c : ℕ) (i cut : ℕ) → number_in l t end start at w acc ≡ good (record { content = v; next = c })
    → ((c ≤ at + i) × (number_in l (take i t) cut start at w acc ≡ good (record { content = v; next = c }))) ⊎ (number_in l (take i t) cut start at w acc ≡ fault 1 cut)
cut_in l t end start at w acc v c zero cut e = inr (none_in l cut start at w acc)
cut_in l [] end start at w acc v c (suc i) cut e = inr (none_in l cut start at w acc)
cut_in zero (b ∷ t) end start at w acc v c (suc i) cut e =
    split b 15
    (λ g.
    let f = sym (fifth_in b t end start at w acc g) ∙ e in
    let q = ap (λ (k : ℕ). k) (ended_took b start at w acc v c f).1 in
    inl (omega arith, fifth_in b (take i t) cut start at w acc g ∙ f))
    (λ g.
    let f = sym (great_in b t end start at w acc g) ∙ e in
    let z : ◌≡◌ {A = ℕ} 0 1 = cc in
    absurd (omega arith))
cut_in (suc l) (b ∷ t) end start at w acc v c (suc i) cut e =
    split 128 b
    (λ g.
    let n = next_in b (take i t) cut start at w acc l g in
    elim (cut_in l t end start (at + 1) (w * 128) ((b - 128) * w + acc) v c i cut (sym (next_in b t end start at w acc l g) ∙ e)) [
      | inl h ↦ inl (omega (arith, h.0), n ∙ h.1)
      | inr h ↦ inr (n ∙ h)
    ])
    (λ g.
    let f = sym (last_in b t end start at w acc l g) ∙ e in
    let q = ap (λ (k : ℕ). k) (ended_took b start at w acc v c f).1 in
    inl (omega arith, last_in b (take i t) cut start at w acc l g ∙ f))

drop-take : (n j : ℕ) (l : List ℕ) → drop n (take j l) ≡ take (j - n) (drop n l)
drop-take zero j l = let z : j ≡ j - 0 = omega arith in ap (λ (k : ℕ). take k l) z
drop-take (suc n) zero l = let z : 0 ≡ 0 - suc n = omega arith in ap (λ (k : ℕ). take k (drop (suc n) l)) z
drop-take (suc n) (suc j) [] = sym (take-nil (suc j - suc n))
drop-take (suc n) (suc j) (x ∷ l) = let z : j - n ≡ suc j - suc n = omega arith in drop-take n j l ∙ ap (λ (k : ℕ). take k (drop n l)) z

pub number_cut : (s : List ℕ) (at x : ℕ) (c : ℕ) (j : ℕ) → j ≤ length s → number_at s at ≡ good (record { content = x; next = c })
    → ((c ≤ j) × (number_at (take j s) at ≡ good (record { content = x; next = c }))) ⊎ (number_at (take j s) at ≡ fault 1 j)
unfolding number_at
number_cut s at x c j h e =
    let w = within_in 4 (drop at s) (length s) at at 1 0 x c e in
    let d : drop at (take j s) ≡ take (j - at) (drop at s) = drop-take at j s in
    let n : length (take j s) ≡ j = length-take-le j s h in
    elim (cut_in 4 (drop at s) (length s) at at 1 0 x c (j - at) j e) [
      | inl q ↦ inl (omega (arith, q.0), ap₂ (λ (t : List ℕ) (k : ℕ). number_in 4 t k at at 1 0) d n ∙ q.1)
      | inr q ↦ inr (ap₂ (λ (t : List ℕ) (k : ℕ). number_in 4 t k at at 1 0) d n ∙ q)
    ]
