-- The loop that fills the labels: what holds after i of them, and how it goes on.
-- Assumes nothing.
use Prim.Native.Nat.{ℕ, ◌+◌, ◌-◌, ◌<◌, ◌≤◌}
use mathlib.Core.Path.{◌≡◌, refl, sym, ap, ◌∙◌}
use mathlib.Core.List.{List, [], ◌∷◌, ◌++◌, map, flatten}
use native.Mathlib.Omega.{arith}
use lib.ListN.{length, length-take, take, drop, set, length-append, length-drop, length-map}
use lib.Seq.{length-take-le}
use borrow.Rule.Slice.PartMut.{mid_of, put_mid}
use Rattle.wire.specs.Found.{good, Part}
use Rattle.wire.specs.Lent.{front}
use Rattle.wire.specs.Sizes.{full_letters}
use Rattle.wire.proofs.Rest.{put_rest}
use Rattle.graph.specs.Reading.{labels_from}
use Rattle.graph_fill.specs.Filling.{items, one_number, one_label, labels_in}
use Rattle.graph_fill.proofs.Items.{content-more, next_more, length-items}
use Rattle.graph_fill.proofs.Fronts.{front-more}
use Rattle.graph_fill.proofs.Packing.{flatten-more, lengths-more}
use Rattle.graph_fill.proofs.Decoding.{label_stands}

-- the first i labels, of `sum` letters, stand at the front; the next one is at the place `at`
pub record LabelsFilled (s : List ℕ) (start : ℕ) (letters₀ lengths₀ letters lengths : List ℕ) (at sum i : ℕ) : Type 0 where
  pub place : at ≡ (labels_in s i start).next
  pub count : sum ≡ length (flatten (labels_in s i start).content)
  pub few : sum ≤ full_letters
  pub packed : letters ≡ front (flatten (labels_in s i start).content) letters₀
  pub numbers : lengths ≡ front (map length (labels_in s i start).content) lengths₀

pub labels-none : (s : List ℕ) (start : ℕ) (letters₀ lengths₀ : List ℕ) → LabelsFilled s start letters₀ lengths₀ letters₀ lengths₀ start 0 0
unfolding items flatten
labels-none s start letters₀ lengths₀ = record { place = refl; count = refl; few = omega arith; packed = refl; numbers = refl }

label_is_lem : (s : List ℕ) (at len first : ℕ) → len ≡ (one_number s at).content → first ≡ (one_number s at).next
    → ◌≡◌ {A = Part (List ℕ)} (record { content = take len (drop first s); next = first + len }) (one_label s at)
unfolding one_label
label_is_lem s at len first e f = rw (e, f)

module _ (n : ℕ) (lengths₀ : List ℕ) {s : List ℕ} {start : ℕ} {letters₀ letters lengths : List ℕ} {at sum i len first : ℕ} (ok : labels_from n 0 s start ≡ good (labels_in s n start))
    (v : len ≡ (one_number s at).content) (f : first ≡ (one_number s at).next) (p : LabelsFilled s start letters₀ (take n lengths₀) letters lengths at sum i)
    (h : i < length (take n lengths₀)) where
  -- the label at hand stands in the file, and its letters have room
  pub label_fits : (first + len ≤ length s) × (sum + len ≤ full_letters)
  label_fits =
      let t = label_stands i n 0 s start (labels_in s n start) (omega (arith, length-take n lengths₀)) ok in
      let e : one_number s at ≡ one_number s (labels_in s i start).next = ap (one_number s) p.place in
      (rw (v, f, e) t.within, rw (v, e, p.count) (omega (arith, t.few)))

  -- one label more: its length, then its letters in the rest that `ys` is when it is back
  pub labels-more : (ys : List ℕ) (end put : ℕ)
      → end ≡ first + len
      → put ≡ length (mid_of first (end - first) s)
      → ys ≡ front (mid_of first (end - first) s) (mid_of sum (length letters - sum) letters)
      → LabelsFilled s start letters₀ (take n lengths₀) (put_mid sum (length letters - sum) letters ys) (set lengths i len) end (sum + put) (i + 1)
  labels-more ys end put e q' g' =
      let one = one_label s in
      let k = label_fits in
      let w = label_is_lem s at len first v f ∙ ap one p.place in
      let label = take len (drop first s) in
      let ls = (labels_in s i start).content in
      let z : end - first ≡ len = omega arith in
      let q : put ≡ length label = q' ∙ rw z in
      let g : ys ≡ front label (mid_of sum (length letters - sum) letters) = g' ∙ rw z in
      let l : length label ≡ len = length-take-le len (drop first s) (simp length-drop (omega (arith, k.0))) in
      let m : (labels_in s (i + 1) start).content ≡ ls ++ (label ∷ []) =
      content-more one i start ∙ ap (λ (t : Part (List ℕ)). ls ++ (t.content ∷ [])) (sym w) in
      let c : flatten (labels_in s (i + 1) start).content ≡ flatten ls ++ label = ap flatten m ∙ flatten-more ls label in
      let d : sum + put ≡ length (flatten (labels_in s (i + 1) start).content) = rw c (simp length-append (omega (arith, p.count))) in
      let b : put_mid sum (length letters - sum) letters ys ≡ front (flatten (labels_in s (i + 1) start).content) letters₀ =
      put_rest letters₀ (flatten ls) label letters ys sum p.count p.packed g ∙ rw c in
      record {
        place = e ∙ ap (λ (t : Part (List ℕ)). t.next) w ∙ sym (next_more one i start);
        count = d;
        few = omega (arith, k.1);
        packed = b;
        numbers = front-more (map length ls) _ lengths _ i len
            (length-map ls length ∙ length-items one i start)
            h
            p.numbers
            (ap (map length) m ∙ lengths-more ls label ∙ rw l);
      }
