-- Changes, byte by byte. Assumes nothing.
use Rattle.std.proofs.Common.{◌≡◌, ℕ, ◌+◌, ◌-◌, ◌*◌, ◌%◌, ◌^◌, ◌≤◌, ◌<◌, List, ◌∷◌, length, get_or, drop, set, sym, ap, ◌∙◌, arith, add-one, drop-cons, drop_of_length-le}
use Rattle.std.proofs.lemmas.Bool.Decides.{nat_tests}
use native.Mathlib.Nat.{mod-add-mod}
use Rattle.changes.specs.declared.Change.{Change}
use Rattle.changes.specs.Changes.{taken, made, changes_from, changes_in}

pub taken_digit : (s : Change) (b : ℕ) → 48 ≤ b → b ≤ 57 → taken s b ≡ record { list = s.list; at = s.at; value = (s.value * 10 % 2 ^ 32 + (b - 48)) % 2 ^ 32 }
unfolding taken
taken_digit s b l h = grind (arith, nat_tests, mod-add-mod (s.value * 10) (2 ^ 32) (b - 48))

pub taken_equals : (s : Change) (b : ℕ) → b ≡ 61 → taken s b ≡ record { list = s.list; at = s.value; value = 0 }
unfolding taken
taken_equals s b e = grind (arith, nat_tests)

pub taken_end : (s : Change) (b : ℕ) → b ≡ 59 → taken s b ≡ s
unfolding taken
taken_end s b e = grind (arith, nat_tests)

pub taken_letter : (s : Change) (b : ℕ) → (48 ≤ b → b ≤ 57 → ⊥) → (b ≡ 61 → ⊥) → (b ≡ 59 → ⊥) → taken s b ≡ record { list = b; at = 0; value = 0 }
unfolding taken
taken_letter s b d e f = grind (arith, nat_tests)

-- the byte at i and those after it
left_at : {A : Type 0} (entry : ℕ → A) (list : ℕ) (s : Change) (text : List ℕ) (i : ℕ) (xs : List A) → i < length text
    → made entry list (changes_from s (drop i text)) xs ≡ made entry list (changes_from s (get_or text i 0 ∷ drop (i + 1) text)) xs
left_at entry list s text i xs h = rw (add-one, ← drop-cons text i 0 h)

passes : {A : Type 0} (entry : ℕ → A) (list : ℕ) (s : Change) (b : ℕ) (bs : List ℕ) (xs : List A) → (b ≡ 59 → ⊥)
    → made entry list (changes_from s (b ∷ bs)) xs ≡ made entry list (changes_from (taken s b) bs) xs
unfolding changes_from made
passes entry list s b bs xs e = grind (arith, nat_tests)

passes_other : {A : Type 0} (entry : ℕ → A) (list : ℕ) (s : Change) (b : ℕ) (bs : List ℕ) (xs : List A) → b ≡ 59 → ((taken s b).list ≡ list → ⊥)
    → made entry list (changes_from s (b ∷ bs)) xs ≡ made entry list (changes_from (taken s b) bs) xs
unfolding changes_from made
passes_other entry list s b bs xs e f = grind (arith, nat_tests)

makes : {A : Type 0} (entry : ℕ → A) (list : ℕ) (s : Change) (b : ℕ) (bs : List ℕ) (xs : List A) → b ≡ 59 → (taken s b).list ≡ list
    → made entry list (changes_from s (b ∷ bs)) xs ≡ made entry list (changes_from (taken s b) bs) (set xs (taken s b).at (entry (taken s b).value))
unfolding changes_from made
makes entry list s b bs xs e f = grind (arith, nat_tests)

-- the changes of the bytes from i on, which go on with s, are those that are still to be made
pub record Changing {A : Type 0} (entry : ℕ → A) (list : ℕ) (text : List ℕ) (start : List A) (s : Change) (i : ℕ) (xs : List A) : Type 0 where
  pub same : made entry list (changes_from s (drop i text)) xs ≡ made entry list (changes_in text) start

-- the byte at i ends no change
pub changing_passed : {A : Type 0} {entry : ℕ → A} {list : ℕ} {text : List ℕ} {start : List A} {s : Change} {i : ℕ} {xs : List A} (t : Change) (ys : List A)
    → Changing entry list text start s i xs → i < length text → t ≡ taken s (get_or text i 0) → ys ≡ xs → (get_or text i 0 ≡ 59 → ⊥)
    → Changing entry list text start t (i + 1) ys
changing_passed {A} {entry} {list} {text} {start} {s} {i} {xs} t ys c h e q f =
    record { same = rw (e, q) (sym (left_at entry list s text i xs h ∙ passes entry list s (get_or text i 0) (drop (i + 1) text) xs f) ∙ c.same) }

-- it ends one of another list
pub changing_other : {A : Type 0} {entry : ℕ → A} {list : ℕ} {text : List ℕ} {start : List A} {s : Change} {i : ℕ} {xs : List A} (t : Change) (ys : List A)
    → Changing entry list text start s i xs → i < length text → t ≡ taken s (get_or text i 0) → ys ≡ xs → get_or text i 0 ≡ 59 → (t.list ≡ list → ⊥)
    → Changing entry list text start t (i + 1) ys
changing_other {A} {entry} {list} {text} {start} {s} {i} {xs} t ys c h e q f g =
    let other : (taken s (get_or text i 0)).list ≡ list → ⊥ = λ k. g (ap (λ (u : Change). u.list) e ∙ k) in
    record { same = rw (e, q) (sym (left_at entry list s text i xs h ∙ passes_other entry list s (get_or text i 0) (drop (i + 1) text) xs f other) ∙ c.same) }

-- it ends one of the list
pub changing_made : {A : Type 0} {entry : ℕ → A} {list : ℕ} {text : List ℕ} {start : List A} {s : Change} {i : ℕ} {xs : List A} (t : Change) (ys : List A)
    → Changing entry list text start s i xs → i < length text → t ≡ taken s (get_or text i 0) → ys ≡ set xs t.at (entry t.value) → get_or text i 0 ≡ 59 → t.list ≡ list
    → Changing entry list text start t (i + 1) ys
changing_made {A} {entry} {list} {text} {start} {s} {i} {xs} t ys c h e q f g =
    let u = taken s (get_or text i 0) in
    let same : u.list ≡ list = ap (λ (v : Change). v.list) (sym e) ∙ g in
    let put : ys ≡ set xs u.at (entry u.value) = q ∙ ap (λ (v : Change). set xs v.at (entry v.value)) e in
    record { same = rw (e, put) (sym (left_at entry list s text i xs h ∙ makes entry list s (get_or text i 0) (drop (i + 1) text) xs f same) ∙ c.same) }

-- after the last
pub changing_ends : {A : Type 0} {entry : ℕ → A} {list : ℕ} {text : List ℕ} {start : List A} {s : Change} {i : ℕ} {xs : List A}
    → Changing entry list text start s i xs → length text ≤ i → xs ≡ made entry list (changes_in text) start
unfolding changes_from made
changing_ends {text = text} c h = rw (drop_of_length-le text h) at c.same
