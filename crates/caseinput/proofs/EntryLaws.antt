-- Runs of entries, entry by entry, and buffers, run by run. Assumes nothing.
use Rattle.std.proofs.Common.{◌≡◌, ℕ, suc, ◌+◌, ◌-◌, ◌≤◌, ◌<◌, List, drop, set, refl, sym, ap, ◌∙◌, arith, Some}
use native.Mathlib.Numerals.{unary_clauses}
use Rattle.std.specs.declared.option.Option.{Option}
use Rattle.caseinput.specs.Reading.{Read, number_of, entries_read, run_read, runs_read, after_run, after_buffer}

-- i of n entries are read: those that are left, from what is known, give the whole run
pub record Running {A : Type 0} (value : List ℕ → A) (size n i at : ℕ) (space : List A) (known : Option (List ℕ)) (start : Read A) : Type 0 where
  pub rest : List ℕ
  pub left : known ≡ Some rest
  pub same : entries_read value size n at start ≡ entries_read value size (n - i) (at + i) (record { rest = rest; space = space })

pub running_first : {A : Type 0} (value : List ℕ → A) (size n at : ℕ) (space : List A) (known : Option (List ℕ)) (xs : List ℕ)
    → known ≡ Some xs → Running value size n 0 at space known (record { rest = xs; space = space })
running_first value size n at space known xs e = record { rest = xs; left = e; same = simp unary_clauses refl }

pub running_more : {A : Type 0} {value : List ℕ → A} {size n i at : ℕ} {space : List A} {known : Option (List ℕ)} {start : Read A} (new : Option (List ℕ)) (x : A) (after : List A)
    → Running value size n i at space known start → i < n → ((xs : List ℕ) → known ≡ Some xs → (x ≡ value xs) × (new ≡ Some (drop size xs)))
    → after ≡ set space (at + i) x → Running value size n (i + 1) at after new start
unfolding entries_read
running_more {A} {value} {size} {n} {i} {at} {space} {known} {start} new x after r h f e =
    let got = f r.rest r.left in
    let more : n - i ≡ suc (n - (i + 1)) = omega arith in
    let next : at + i + 1 ≡ at + (i + 1) = omega arith in
    let put : set space (at + i) (value r.rest) ≡ after = ap (set space (at + i)) (sym got.0) ∙ sym e in
    record {
      rest = drop size r.rest;
      left = got.1;
      same = r.same
          ∙ ap (λ k. entries_read value size k (at + i) (record { rest = r.rest; space = space })) more
          ∙ ap (λ j. entries_read value size (n - (i + 1)) j (record { rest = drop size r.rest; space = set space (at + i) (value r.rest) })) next
          ∙ ap (λ s. entries_read value size (n - (i + 1)) (at + (i + 1)) (record { rest = drop size r.rest; space = s })) put;
    }

-- all n are read
pub run_ends : {A : Type 0} {value : List ℕ → A} {size n i at : ℕ} {after : List A} {new : Option (List ℕ)} (space : List A) (xs : List ℕ)
    → Running value size n i at after new (record { rest = drop 8 xs; space = space }) → n ≤ i → n ≡ number_of (drop 4 xs) → at ≡ number_of xs
    → (new ≡ Some (after_run value size space xs).rest) × (after ≡ (after_run value size space xs).space)
unfolding entries_read run_read
run_ends {A} {value} {size} {n} {i} {at} {after} {new} space xs r h p q =
    let none : n - i ≡ 0 = omega arith in
    let start : Read A = record { rest = drop 8 xs; space = space } in
    let last : ◌≡◌ {A = Read A} (record { rest = r.rest; space = after }) (after_run value size space xs) =
    sym (r.same ∙ ap (λ k. entries_read value size k (at + i) (record { rest = r.rest; space = after })) none)
    ∙ ap (λ k. entries_read value size k at start) p ∙ ap (λ j. entries_read value size (number_of (drop 4 xs)) j start) q in
    (r.left ∙ ap (λ s. Some s.rest) last, ap (λ s. s.space) last)

-- i of k runs are read: those that are left, from what is known, give the whole buffer
pub record Repeating {A : Type 0} (value : List ℕ → A) (size k i : ℕ) (space : List A) (known : Option (List ℕ)) (start : Read A) : Type 0 where
  pub rest : List ℕ
  pub left : known ≡ Some rest
  pub same : runs_read value size k start ≡ runs_read value size (k - i) (record { rest = rest; space = space })

pub repeating_first : {A : Type 0} (value : List ℕ → A) (size k : ℕ) (space : List A) (known : Option (List ℕ)) (xs : List ℕ)
    → known ≡ Some xs → Repeating value size k 0 space known (record { rest = xs; space = space })
repeating_first value size k space known xs e = record { rest = xs; left = e; same = simp unary_clauses refl }

pub repeating_more : {A : Type 0} {value : List ℕ → A} {size k i : ℕ} {space : List A} {known : Option (List ℕ)} {start : Read A} (new : Option (List ℕ)) (after : List A)
    → Repeating value size k i space known start → i < k
    → ((xs : List ℕ) → known ≡ Some xs → (tt {0} ≡ tt {0}) × (new ≡ Some (after_run value size space xs).rest) × (after ≡ (after_run value size space xs).space))
    → Repeating value size k (i + 1) after new start
unfolding runs_read
repeating_more {A} {value} {size} {k} {i} {space} {known} {start} new after r h f =
    let got = f r.rest r.left in
    let more : k - i ≡ suc (k - (i + 1)) = omega arith in
    record {
      rest = (after_run value size space r.rest).rest;
      left = got.1;
      same = r.same
          ∙ ap (λ j. runs_read value size j (record { rest = r.rest; space = space })) more
          ∙ ap (λ s. runs_read value size (k - (i + 1)) (record { rest = (after_run value size space r.rest).rest; space = s })) (sym got.2);
    }

-- all k are read
pub buffer_ends : {A : Type 0} {value : List ℕ → A} {size k i : ℕ} {after : List A} {new : Option (List ℕ)} (space : List A) (xs : List ℕ)
    → Repeating value size k i after new (record { rest = drop 8 xs; space = space }) → k ≤ i → k ≡ number_of (drop 4 xs)
    → (new ≡ Some (after_buffer value size space xs).rest) × (after ≡ (after_buffer value size space xs).space)
unfolding runs_read
buffer_ends {A} {value} {size} {k} {i} {after} {new} space xs r h p =
    let none : k - i ≡ 0 = omega arith in
    let start : Read A = record { rest = drop 8 xs; space = space } in
    let last : ◌≡◌ {A = Read A} (record { rest = r.rest; space = after }) (after_buffer value size space xs) =
    sym (r.same ∙ ap (λ j. runs_read value size j (record { rest = r.rest; space = after })) none)
    ∙ ap (λ j. runs_read value size j start) p in
    (r.left ∙ ap (λ s. Some s.rest) last, ap (λ s. s.space) last)
