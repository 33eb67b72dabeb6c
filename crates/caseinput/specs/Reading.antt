-- What reading finds, where the bytes that the reader has left are known. Past their end everything reads as 0.
use Rattle.std.specs.Prelude.{ℕ, ◌+◌, ◌*◌, ◌<◌, ◌≡◌, List, length, get_or, take, drop, min, Some, IfOk, zero, suc, set}
use Rattle.std.specs.declared.option.Option.{Option}
use Rattle.std.specs.declared.result.Result.{Result}

-- a read of known bytes, xs, gave what `value` says of them, and left the bytes that `rest` says
abbrev pub Reads : {A E : Type 0} → Option (List ℕ) → Option (List ℕ) → Result A E → (List ℕ → A) → (List ℕ → List ℕ) → Type 0
Reads old new r value rest = (xs : List ℕ) → old ≡ Some xs → IfOk r (λ x. (x ≡ value xs) × (new ≡ Some (rest xs)))

-- it filled a space with them as far as both go
abbrev pub Fills : {E : Type 0} → Option (List ℕ) → Option (List ℕ) → Result ℕ E → List ℕ → Type 0
Fills old new r space = (xs : List ℕ) → old ≡ Some xs → IfOk r (λ n. (n ≡ min (length space) (length xs)) × (take n space ≡ take n xs) × (new ≡ Some (drop n xs)))

-- the first n places of a list hold the first n bytes
abbrev pub Holds : ℕ → List ℕ → List ℕ → Type 0
Holds n space xs = (k : ℕ) → k < n → get_or space k 0 ≡ get_or xs k 0

-- it filled the whole of a space
abbrev pub FillsAll : {A E : Type 0} → Option (List ℕ) → Option (List ℕ) → Result A E → List ℕ → Type 0
FillsAll old new r space = (xs : List ℕ) → old ≡ Some xs → IfOk r (λ _. Holds (length space) space xs × (new ≡ Some (drop (length space) xs)))

-- the first byte
abbrev pub byte_of : List ℕ → ℕ
byte_of xs = get_or xs 0 0

-- the number that the first four bytes write, lowest first
abbrev pub number_of : List ℕ → ℕ
number_of xs = get_or xs 0 0 + get_or xs 1 0 * 256 + get_or xs 2 0 * 65536 + get_or xs 3 0 * 16777216

-- the first n of them, as many as a number before them says, are kept at the front of a space, as far as it has room; none of the others
abbrev pub KeepsFile : {E : Type 0} → Option (List ℕ) → Option (List ℕ) → Result ℕ E → List ℕ → Type 0
KeepsFile old new r space = (xs : List ℕ) → old ≡ Some xs
    → IfOk r (λ n. (n ≡ min (number_of xs) (length space)) × Holds n space (drop 4 xs) × (new ≡ Some (drop (4 + number_of xs) xs)))

-- what is left of the bytes, and a space that entries are read into
pub record Read (A : Type 0) : Type 0 where
  pub rest : List ℕ
  pub space : List A

-- n entries, each of `size` bytes, to the places from `at` on, where they are there
unfoldable pub entries_read : {A : Type 0} → (List ℕ → A) → ℕ → ℕ → ℕ → Read A → Read A
entries_read value size zero at s = s
entries_read value size (suc n) at s = entries_read value size n (at + 1) (record { rest = drop size s.rest; space = set s.space at (value s.rest) })

-- a run: its first place, how many entries, the entries
unfoldable pub run_read : {A : Type 0} → (List ℕ → A) → ℕ → Read A → Read A
run_read value size s = entries_read value size (number_of (drop 4 s.rest)) (number_of s.rest) (record { rest = drop 8 s.rest; space = s.space })

-- k runs
unfoldable pub runs_read : {A : Type 0} → (List ℕ → A) → ℕ → ℕ → Read A → Read A
runs_read value size zero s = s
runs_read value size (suc k) s = runs_read value size k (run_read value size s)

-- a read of known bytes, xs, with what is in `space`, gave n and left in `after` what `last` says
abbrev pub ReadsInto : {A B E : Type 0} → Option (List ℕ) → Option (List ℕ) → Result B E → List A → List A → (List ℕ → B) → (List ℕ → Read A) → Type 0
ReadsInto old new r space after value last = (xs : List ℕ) → old ≡ Some xs
    → IfOk r (λ x. (x ≡ value xs) × (new ≡ Some (last xs).rest) × (after ≡ (last xs).space))

-- a run
abbrev pub after_run : {A : Type 0} → (List ℕ → A) → ℕ → List A → List ℕ → Read A
after_run value size space xs = run_read value size (record { rest = xs; space = space })

-- a buffer: its size, how many runs, the runs
abbrev pub after_buffer : {A : Type 0} → (List ℕ → A) → ℕ → List A → List ℕ → Read A
after_buffer value size space xs = runs_read value size (number_of (drop 4 xs)) (record { rest = drop 8 xs; space = space })
