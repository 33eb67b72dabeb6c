-- The writer's loop: what stands in the output after some of the groups.
-- Assumes nothing.
use Prim.Native.Nat.{ℕ, suc, ◌+◌, ◌/◌, ◌%◌, ◌^◌, ◌≤◌, ◌<◌}
use mathlib.Core.Path.{◌≡◌, refl, sym, ap, ◌∙◌}
use mathlib.Core.List.{List, [], ◌∷◌, ◌++◌}
use native.Mathlib.Omega.{arith}
use native.Mathlib.Numerals.{add-one}
use lib.ListN.{length, drop, set, get_or, length-append, length-drop}
use lib.Seq.{drop-cons, set_at, append_snoc}
use Rattle.wire.specs.Numbers.{encode}
use Rattle.wire.specs.Lent.{front}
use Rattle.wire.proofs.Encoding.{encode_one, encode-more, encode-some}

-- one more element where d goes on
pub put_one : (d done : List ℕ) (at b : ℕ) → length done ≡ at → at < length d
    → set (done ++ drop at d) at b ≡ (done ++ (b ∷ [])) ++ drop (at + 1) d
put_one d done at b e h =
    ap (λ (t : List ℕ). set (done ++ t) at b) (drop-cons d at 0 h)
    ∙ set_at done (get_or d at 0) (drop (suc at) d) b at e
    ∙ sym (append_snoc done b (drop (suc at) d))
    ∙ ap (λ (n : ℕ). (done ++ (b ∷ [])) ++ drop n d) (sym (add-one at))

-- the groups `done` stand at the front of d, and v is still to be written at `at`
pub record Putting (d : List ℕ) (x : ℕ) (out : List ℕ) (v at : ℕ) : Type 0 where
  pub done : List ℕ
  pub count : length done ≡ at
  pub out-is : out ≡ done ++ drop at d
  pub whole : done ++ encode v ≡ encode x
  pub fits : v < 2 ^ 32

pub put-none : (d : List ℕ) (x : ℕ) → x < 2 ^ 32 → Putting d x d x 0
put-none d x h = record { done = []; count = refl; out-is = refl; whole = refl; fits = h }

module _ (d : List ℕ) (x : ℕ) (out : List ℕ) (v at : ℕ) (p : Putting d x out v at) (room : length (encode x) ≤ length d) where
  pub put-room : at < length d
  put-room = omega (arith, simp length-append at (ap length p.whole), encode-some v)

  pub put-length : length out ≡ length d
  put-length = ap length p.out-is ∙ length-append p.done (drop at d) ∙ simp length-drop (omega (arith, put-room))

  pub put-more : 128 ≤ v → Putting d x (set out at (v % 128 + 128)) (v / 128) (at + 1)
  put-more h = record {
    done = p.done ++ ((v % 128 + 128) ∷ []);
    count = length-append p.done ((v % 128 + 128) ∷ []) ∙ omega arith;
    out-is = ap (λ (o : List ℕ). set o at (v % 128 + 128)) p.out-is ∙ put_one d p.done at (v % 128 + 128) p.count put-room;
    whole = append_snoc p.done (v % 128 + 128) (encode (v / 128)) ∙ ap (λ (t : List ℕ). p.done ++ t) (sym (encode-more v h p.fits)) ∙ p.whole;
    fits = omega arith;
  }

  pub put_last : v < 128 → (at + 1 ≡ length (encode x)) × (set out at v ≡ front (encode x) d)
  put_last h =
      let e : p.done ++ (v ∷ []) ≡ encode x = ap (λ (t : List ℕ). p.done ++ t) (sym (encode_one v h)) ∙ p.whole in
      let n : at + 1 ≡ length (encode x) = omega (arith, simp length-append at (ap length e)) in (
        n,
        ap (λ (o : List ℕ). set o at v) p.out-is
            ∙ put_one d p.done at v p.count put-room
            ∙ ap (λ (t : List ℕ). t ++ drop (at + 1) d) e
            ∙ ap (λ (k : ℕ). encode x ++ drop k d) n,
      )
