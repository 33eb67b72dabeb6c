-- The labels, letter by letter and label by label: the steps of the two loops.
-- Assumes nothing.
use Prim.Native.Nat.{ℕ, zero, suc, ◌+◌, ◌-◌, ◌≤◌, ◌<◌}
use mathlib.Core.Path.{◌≡◌, refl, sym, ap, ◌∙◌}
use mathlib.Core.List.{List, [], ◌∷◌, flatten}
use mathlib.Core.Bool.{Bool}
use native.Mathlib.Omega.{arith}
use native.Mathlib.Nat.{add-zero, zero-add}
use native.Mathlib.Numerals.{sub-one}
use lib.ListN.{length, get_or, length-append}
use lib.Dec.{ltb}
use borrow.Author.Tests.{lt-ltb, le-ltb}
use Rattle.wire.specs.Cases.{pick}
use Rattle.wire.specs.Found.{Found, good, fault, Part, and_then, refuse}
use Rattle.wire.specs.Numbers.{number, number_at}
use Rattle.wire.specs.Refusals.{bytes_end}
use Rattle.graph.specs.Rules.{letter_fault, length_fault}
use Rattle.graph.specs.Reading.{letters_from, labels_from}
use Rattle.graph_parts.specs.Answers.{letters_answer, labels_answer}
use Rattle.graph.proofs.Steps.{letters-step, letters-none}
use Rattle.wire.proofs.Reading.{read_same}
use Rattle.graph_parts.proofs.Passing.{refuse-none, refuse-some, number_read, number-stop}

-- ---- letters

pub letters-done : (left : ℕ) (s : List ℕ) (at : ℕ) → left ≤ 0 → letters_from left s at ≡ good []
unfolding letters_from
letters-done left s at h = let e : left ≡ 0 = omega arith in rw e

-- the letter at the place, and the others
abbrev letter_on : ℕ → List ℕ → ℕ → Found (List ℕ)
letter_on left s at = refuse (letter_fault (get_or s at 0)) at (and_then (letters_from left s (at + 1)) (λ ls. good (get_or s at 0 ∷ ls)))

letters-suc : (left : ℕ) (s : List ℕ) (at : ℕ) → 0 < left
    → letters_from left s at ≡ pick (ltb at (length s)) (letter_on (left - 1) s at) (fault bytes_end (length s))
unfolding letters_from
letters-suc zero s at h = absurd (omega arith)
letters-suc (suc left) s at h =
    ap (λ (k : ℕ). pick (ltb at (length s)) (letter_on k s at) (fault bytes_end (length s))) (sym (sub-one (suc left)))

answer-more : (x next b : ℕ) (y : Found (List ℕ)) → letters_answer x next (and_then y (λ ls. good (b ∷ ls))) ≡ letters_answer x next y
answer-more x next b (good l) = refl
answer-more x next b (fault k p) = refl

module _ (left : ℕ) (s : List ℕ) (at : ℕ) (h : 0 < left) where
  pub letters_end : length s ≤ at → letters_from left s at ≡ fault bytes_end (length s)
  letters_end g =
      letters-suc left s at h
      ∙ ap (λ (b : Bool). pick b (letter_on (left - 1) s at) (fault bytes_end (length s))) (le-ltb at (length s) g)

  there : at < length s → letters_from left s at ≡ letter_on (left - 1) s at
  there g =
      letters-suc left s at h
      ∙ ap (λ (b : Bool). pick b (letter_on (left - 1) s at) (fault bytes_end (length s))) (lt-ltb at (length s) g)

  pub letters_bad : at < length s → (letter_fault (get_or s at 0) ≡ 0 → ⊥) → letters_from left s at ≡ fault (letter_fault (get_or s at 0)) at
  letters_bad g n = there g ∙ refuse-some (letter_fault (get_or s at 0)) at _ n

  pub letters-next : (x next : ℕ) → at < length s → letter_fault (get_or s at 0) ≡ 0
      → letters_answer x next (letters_from left s at) ≡ letters_answer x next (letters_from (left - 1) s (at + 1))
  letters-next x next g e =
      ap (letters_answer x next) (there g ∙ refuse-none (letter_fault (get_or s at 0)) at _ e)
      ∙ answer-more x next (get_or s at 0) (letters_from (left - 1) s (at + 1))

-- ---- labels

-- what follows a label's length
abbrev label_on : ℕ → ℕ → List ℕ → ℕ → ℕ → ℕ → Found (Part (List (List ℕ)))
label_on left sum s at len a =
    refuse (length_fault sum len) at
    (and_then (letters_from len s a) (λ l.
    and_then (labels_from left (sum + len) s (a + len)) (λ r.
    good (record { content = l ∷ r.content; next = r.next }))))

labels-done : (left sum : ℕ) (s : List ℕ) (at : ℕ) → left ≤ 0 → labels_from left sum s at ≡ good (record { content = []; next = at })
unfolding labels_from
labels-done left sum s at h = let e : left ≡ 0 = omega arith in rw e

-- no label is left: the letters of those before
pub labels_end : (left sum : ℕ) (s : List ℕ) (at : ℕ) → left ≤ 0 → good (record { content = sum; next = at }) ≡ labels_answer sum (labels_from left sum s at)
unfolding flatten
labels_end left sum s at h =
    ap (λ (i : ℕ). good (record { content = i; next = at })) (sym (add-zero sum)) ∙ sym (ap (labels_answer sum) (labels-done left sum s at h))

labels-suc : (left sum : ℕ) (s : List ℕ) (at : ℕ) → 0 < left → labels_from left sum s at ≡ number s at (label_on (left - 1) sum s at)
unfolding labels_from
labels-suc zero sum s at h = absurd (omega arith)
labels-suc (suc left) sum s at h = ap (λ (k : ℕ). number s at (label_on k sum s at)) (sym (sub-one (suc left)))

-- the letters that were counted are there
pub letters-good : (x next : ℕ) (y : Found (List ℕ)) {v : ℕ} {c : ℕ} → letters_answer x next y ≡ good (record { content = v; next = c })
    → (l : List ℕ) × (y ≡ good l) × (next ≡ c)
letters-good x next (good l) e = (l, refl, (read_same e).1)
letters-good x next (fault k p) e = let z : ◌≡◌ {A = ℕ} 0 1 = cc in absurd (omega arith)

pub letters-fault : (x next : ℕ) (y : Found (List ℕ)) {k p : ℕ} → letters_answer x next y ≡ fault k p → y ≡ fault k p
letters-fault x next (good l) e = let z : ◌≡◌ {A = ℕ} 0 1 = cc in absurd (omega arith)
letters-fault x next (fault k p) e = cc

length-letters : (left : ℕ) (s : List ℕ) (at : ℕ) (l : List ℕ) → letters_from left s at ≡ good l → length l ≡ left
length-letters zero s at l e = ap length (letters-none s at l e)
length-letters (suc left) s at l e =
    let t = letters-step left s at l e in ap length t.whole ∙ ap suc (length-letters left s (at + 1) t.rest t.rest_is)

label_more : (sum : ℕ) (l : List ℕ) (y : Found (Part (List (List ℕ))))
    → labels_answer sum (and_then y (λ r. good (record { content = l ∷ r.content; next = r.next }))) ≡ labels_answer (sum + length l) y
unfolding flatten
label_more sum l (good r) =
    ap (λ (k : ℕ). good (record { content = k; next = r.next }))
    (ap (λ (k : ℕ). sum + k) (length-append l (flatten r.content)) ∙ omega arith)
label_more sum l (fault k p) = refl

module _ (left sum : ℕ) (s : List ℕ) (at : ℕ) (h : 0 < left) where
  pub labels-stop : {k p : ℕ} → number_at s at ≡ fault k p → labels_from left sum s at ≡ fault k p
  labels-stop e = labels-suc left sum s at h ∙ number-stop s at (label_on (left - 1) sum s at) e

  module _ {len : ℕ} {a : ℕ} (e : number_at s at ≡ good (record { content = len; next = a })) where
    from-length : labels_from left sum s at ≡ label_on (left - 1) sum s at len a
    from-length = labels-suc left sum s at h ∙ number_read s at (label_on (left - 1) sum s at) e

    pub labels-long : (length_fault sum len ≡ 0 → ⊥) → labels_from left sum s at ≡ fault (length_fault sum len) at
    labels-long n = from-length ∙ refuse-some (length_fault sum len) at _ n

    -- the label's letters, and the labels after it
    from-letters : length_fault sum len ≡ 0
        → labels_from left sum s at
        ≡ and_then (letters_from len s a) (λ l.
        and_then (labels_from (left - 1) (sum + len) s (a + len)) (λ r.
        good (record { content = l ∷ r.content; next = r.next })))
    from-letters f = from-length ∙ refuse-none (length_fault sum len) at _ f

    pub labels_letter : {k p : ℕ} → length_fault sum len ≡ 0 → letters_answer len (a + len) (letters_from len s a) ≡ fault k p
        → labels_from left sum s at ≡ fault k p
    labels_letter f g = from-letters f ∙ rw (letters-fault len (a + len) (letters_from len s a) g)

    pub labels_next : {x : ℕ} {d : ℕ} → length_fault sum len ≡ 0 → letters_answer len (a + len) (letters_from len s a) ≡ good (record { content = x; next = d })
        → labels_answer sum (labels_from left sum s at) ≡ labels_answer (sum + len) (labels_from (left - 1) (sum + len) s d)
    labels_next {x} {d} f g =
        let t = letters-good len (a + len) (letters_from len s a) g in
        ap (labels_answer sum) (from-letters f)
        ∙ ap
        (λ (y : Found (List ℕ)). labels_answer sum (and_then y (λ l.
        and_then (labels_from (left - 1) (sum + len) s (a + len)) (λ r.
        good (record { content = l ∷ r.content; next = r.next })))))
        t.1
        ∙ label_more sum t.0 (labels_from (left - 1) (sum + len) s (a + len))
        ∙ ap (λ (k : ℕ). labels_answer (sum + k) (labels_from (left - 1) (sum + len) s (a + len))) (length-letters len s a t.0 t.1)
        ∙ ap (λ (k : ℕ). labels_answer (sum + len) (labels_from (left - 1) (sum + len) s k)) t.2

-- ---- what was answered was found

-- n labels were read: their letters together, and the place after them
pub record LabelsFound (n : ℕ) (s : List ℕ) (at sum next : ℕ) : Type 0 where
  pub labels : Part (List (List ℕ))
  pub found : labels_from n 0 s at ≡ good labels
  pub letters : sum ≡ length (flatten labels.content)
  pub ends : labels.next ≡ next

pub labels-good : (n : ℕ) (s : List ℕ) (at : ℕ) {x : ℕ} {c : ℕ} → labels_answer 0 (labels_from n 0 s at) ≡ good (record { content = x; next = c })
    → LabelsFound n s at x c
labels-good n s at {x} {c} e = go (labels_from n 0 s at) refl e
  where
    go : (y : Found (Part (List (List ℕ)))) → labels_from n 0 s at ≡ y → labels_answer 0 y ≡ good (record { content = x; next = c }) → LabelsFound n s at x c
    go (good p) f g = record {
      labels = p;
      found = f;
      letters = sym (read_same g).0 ∙ zero-add (length (flatten p.content));
      ends = (read_same g).1;
    }
    go (fault k p) f g = let z : ◌≡◌ {A = ℕ} 0 1 = cc in absurd (omega arith)

pub labels-fault : (sum : ℕ) (y : Found (Part (List (List ℕ)))) {k p : ℕ} → labels_answer sum y ≡ fault k p → y ≡ fault k p
labels-fault sum (good q) e = let z : ◌≡◌ {A = ℕ} 0 1 = cc in absurd (omega arith)
labels-fault sum (fault k p) e = cc
