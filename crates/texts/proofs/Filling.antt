-- A text with places for numbers, piece by piece. Assumes nothing.
use Rattle.std.proofs.Common.{◌≡◌, ℕ, ◌+◌, ◌-◌, ◌≤◌, ◌<◌, List, [], ◌∷◌, ◌++◌, length, get_or, take, drop, refl, sym, ap, ◌∙◌, arith, add-one, drop-cons, length-drop, append_assoc, append-nil, subst}
use Rattle.std.proofs.lemmas.List.{take_more, drop-drop}
use Rattle.std.proofs.lemmas.Grind.{common_steps}
use Rattle.std.proofs.KnownBytes.{Appends-trans, Appends-nil}
use Rattle.std.specs.declared.option.Option.{Option}
use Rattle.std.specs.Prelude.{OnOk, Ok, Err}
use Rattle.std.specs.declared.result.Result.{Result}
use Rattle.std.specs.Io.KnownBytes.{Appends}
use borrow.Author.Tests.{eq-eqb, ne_eqb}
use Rattle.texts.specs.Filled.{first_text, filled}

filled_mark : (y : ℕ) (ys ns : List ℕ) → y ≡ 35 → filled (y ∷ ys) ns ≡ first_text ns ++ filled ys (drop 1 ns)
unfolding filled
filled_mark y ys ns e = simp (eq-eqb y 35 e)

filled_passed : (y : ℕ) (ys ns : List ℕ) → (y ≡ 35 → ⊥) → filled (y ∷ ys) ns ≡ y ∷ filled ys ns
unfolding filled
filled_passed y ys ns e = simp (ne_eqb y 35 e)

filled_end : (xs ns : List ℕ) (i : ℕ) → length xs ≤ i → filled (drop i xs) ns ≡ []
unfolding filled
filled_end xs ns i h = grind (arith, common_steps)

-- from a to b the text before `start` was written, with the first numbers; the piece from there to i has no mark
pub record Filling (a b : Option (List ℕ)) (xs ns : List ℕ) (at start i : ℕ) : Type 0 where
  pub begun : start ≤ i
  pub met : at ≤ i
  pub done : List ℕ
  pub written : Appends a b done
  pub same : filled xs ns ≡ done ++ (take (i - start) (drop start xs) ++ filled (drop i xs) (drop at ns))

pub filling_first : (a : Option (List ℕ)) (xs ns : List ℕ) → Filling a a xs ns 0 0 0
filling_first a xs ns = record { begun = omega arith; met = omega arith; done = []; written = Appends-nil a; same = refl }

-- the byte at i and those after it
left_at : (xs ns : List ℕ) (i : ℕ) → i < length xs → filled (drop i xs) ns ≡ filled (get_or xs i 0 ∷ drop (i + 1) xs) ns
left_at xs ns i h = rw (add-one, ← drop-cons xs i 0 h)

-- the piece with one byte more
piece_more : (xs : List ℕ) (start i : ℕ) → start ≤ i → i < length xs → take (i + 1 - start) (drop start xs) ≡ take (i - start) (drop start xs) ++ (get_or xs i 0 ∷ [])
piece_more xs start i s h =
    let n = i - start in
    let e : i + 1 - start ≡ n + 1 = omega arith in
    let b : n < length (drop start xs) = simp length-drop (omega arith) in
    let g : get_or (drop start xs) n 0 ≡ get_or xs i 0 = grind (arith, common_steps) in
    rw e (take_more (drop start xs) n 0 b ∙ ap (λ x. take n (drop start xs) ++ (x ∷ [])) g)

-- the byte at i is no mark
pub filling_passed : {a b : Option (List ℕ)} {xs ns : List ℕ} {at start i : ℕ} → Filling a b xs ns at start i → i < length xs → (get_or xs i 0 ≡ 35 → ⊥) → Filling a b xs ns at start (i + 1)
filling_passed {a} {b} {xs} {ns} {at} {start} {i} f h e =
    let left = left_at xs (drop at ns) i h ∙ filled_passed (get_or xs i 0) (drop (i + 1) xs) (drop at ns) e in
    let more = piece_more xs start i f.begun h in
    record {
      begun = omega (arith, f.begun);
      met = omega (arith, f.met);
      done = f.done;
      written = f.written;
      same = f.same ∙ rw (left, more, append_assoc (take (i - start) (drop start xs)) (get_or xs i 0 ∷ []) (filled (drop (i + 1) xs) (drop at ns)));
    }

-- it is one
pub filling_mark : {a b : Option (List ℕ)} (c d : Option (List ℕ)) {xs ns : List ℕ} {at start i : ℕ} → Filling a b xs ns at start i → i < length xs → get_or xs i 0 ≡ 35
    → Appends b c (take (i - start) (drop start xs)) → Appends c d (first_text (drop at ns)) → Filling a d xs ns (at + 1) (i + 1) (i + 1)
filling_mark {a} {b} c d {xs} {ns} {at} {start} {i} f h e p q =
    let piece = take (i - start) (drop start xs) in
    let first = first_text (drop at ns) in
    let rest = filled (drop (i + 1) xs) (drop (at + 1) ns) in
    let left : filled (drop i xs) (drop at ns) ≡ first ++ rest =
    left_at xs (drop at ns) i h ∙ filled_mark (get_or xs i 0) (drop (i + 1) xs) (drop at ns) e
    ∙ ap (λ l. first ++ filled (drop (i + 1) xs) l) (drop-drop 1 at ns) in
    let none : i + 1 - (i + 1) ≡ 0 = omega arith in
    let whole : f.done ++ (piece ++ (first ++ rest)) ≡ ((f.done ++ piece) ++ first) ++ rest =
    sym (append_assoc f.done piece (first ++ rest)) ∙ sym (append_assoc (f.done ++ piece) first rest) in
    record {
      begun = omega arith;
      met = omega (arith, f.met);
      done = (f.done ++ piece) ++ first;
      written = Appends-trans a c d (f.done ++ piece) first (Appends-trans a b c f.done piece f.written p) q;
      same = rw none (f.same ∙ ap (λ l. f.done ++ (piece ++ l)) left ∙ whole);
    }

-- after the last byte
pub filling_end : {E : Type 0} {a b : Option (List ℕ)} (c : Option (List ℕ)) {xs ns : List ℕ} {at start i : ℕ} (r : Result (Unit {0}) E) → Filling a b xs ns at start i → i ≡ length xs
    → OnOk r (Appends b c (take (length xs - start) (drop start xs))) → OnOk r (Appends a c (filled xs ns))
filling_end {E} {a} {b} c {xs} {ns} {at} {start} {i} (Ok u) f h p =
    let none = filled_end xs (drop at ns) i (omega arith) in
    let piece = take (length xs - start) (drop start xs) in
    let same : filled xs ns ≡ f.done ++ piece = f.same ∙ rw (none, h, append-nil) in
    subst (Appends a c) (sym same) (Appends-trans a b c f.done piece f.written p)
filling_end c (Err e) f h p = p
