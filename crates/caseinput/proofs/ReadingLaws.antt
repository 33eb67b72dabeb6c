-- What reads of known bytes leave in a space. Assumes nothing.
use Rattle.std.proofs.Common.{◌≡◌, ℕ, ◌+◌, ◌-◌, ◌≤◌, List, ◌++◌, length, get_or, take, drop, refl, sym, ap, ◌∙◌, subst, arith, Some, None, length-take-le, length-drop, length-append}
use Rattle.std.proofs.lemmas.List.{take_at, drop_at, drop-drop, take-append-le, get_or_append_left}
use Rattle.std.proofs.Math.Seq.{take-add, take-append-add}
use Rattle.std.specs.declared.option.Option.{Option}
use Rattle.std.specs.Io.KnownBytes.{Consumes}
use Rattle.std.specs.Int.{from_le_bytes, w32}
use Rattle.caseinput.specs.Reading.{Holds, byte_of, number_of}
use borrow.Rule.Slice.PartMut.{put_mid}

-- known bytes that begin with bs, and lose them
consumed : (new : Option (List ℕ)) (xs bs : List ℕ) → Consumes (Some xs) new bs → (zs : List ℕ) × (xs ≡ bs ++ zs) × (new ≡ Some zs)
consumed None xs bs h = absurd h
consumed (Some zs) xs bs h = (zs, h, refl)

-- after n bytes of xs one read more gives k bytes, in the space from n on
pub read_more : (old new : Option (List ℕ)) (xs space buf : List ℕ) (n m k : ℕ)
    → (n ≤ length xs) × (take n space ≡ take n xs) × (old ≡ Some (drop n xs))
    → n ≤ length space → k ≤ length buf → Consumes old new (take k buf)
    → (n + k ≤ length xs) × (take (n + k) (put_mid n m space buf) ≡ take (n + k) xs) × (new ≡ Some (drop (n + k) xs))
read_more old new xs space buf n m k (within, same, left) fits few took =
    let c = consumed new (drop n xs) (take k buf) (subst (λ o. Consumes o new (take k buf)) left took) in
    let zs = c.0 in
    let split : drop n xs ≡ take k buf ++ zs = c.1 in
    let size : length (take k buf) ≡ k = length-take-le k buf few in
    let front : length (take n space) ≡ n = length-take-le n space fits in
    let whole : length xs - n ≡ k + length zs = sym (length-drop n xs) ∙ ap length split ∙ length-append (take k buf) zs ∙ ap (λ l. l + length zs) size in
    let there : take (n + k) (put_mid n m space buf) ≡ take n space ++ take k buf =
    ap (λ j. take (j + k) (take n space ++ (buf ++ drop m (drop n space)))) (sym front)
    ∙ take-append-add (take n space) (buf ++ drop m (drop n space)) k
    ∙ ap (λ l. take n space ++ l) (take-append-le k buf (drop m (drop n space)) few) in
    let from : take (n + k) xs ≡ take n xs ++ take k buf = take-add n k xs ∙ ap (λ l. take n xs ++ take k l) split ∙ ap (λ l. take n xs ++ l) (take_at (take k buf) zs k size) in (
      omega (arith, whole, within),
      there ∙ ap (λ l. l ++ take k buf) same ∙ sym from,
      c.2 ∙ ap Some (sym (drop_at (take k buf) zs k size) ∙ ap (drop k) (sym split) ∙ drop-drop k n xs),
    )

-- a whole space of one byte, and of four
pub byte_read : (new : Option (List ℕ)) (space xs : List ℕ) → length space ≡ 1 → Holds (length space) space xs × (new ≡ Some (drop (length space) xs))
    → (get_or space 0 0 ≡ byte_of xs) × (new ≡ Some (drop 1 xs))
byte_read new space xs size (same, left) = (same 0 (omega arith), left ∙ ap (λ k. Some (drop k xs)) size)

pub number_read : (new : Option (List ℕ)) (space xs : List ℕ) → length space ≡ 4 → Holds (length space) space xs × (new ≡ Some (drop (length space) xs))
    → (from_le_bytes w32 space ≡ number_of xs) × (new ≡ Some (drop 4 xs))
number_read new space xs size (same, left) =
    let a : get_or space 0 0 ≡ get_or xs 0 0 = same 0 (omega arith) in
    let b : get_or space 1 0 ≡ get_or xs 1 0 = same 1 (omega arith) in
    let c : get_or space 2 0 ≡ get_or xs 2 0 = same 2 (omega arith) in
    let d : get_or space 3 0 ≡ get_or xs 3 0 = same 3 (omega arith) in
    (omega (arith, a, b, c, d), left ∙ ap (λ k. Some (drop k xs)) size)

-- one byte more
pub skip_more : (new : Option (List ℕ)) (xs : List ℕ) (n : ℕ) → new ≡ Some (drop 1 (drop n xs)) → new ≡ Some (drop (n + 1) xs)
skip_more new xs n e = e ∙ ap Some (drop-drop 1 n xs)

-- a file: its length, the bytes that are kept, the others
pub file_kept : (new : Option (List ℕ)) (xs buf rest : List ℕ) (n kept : ℕ) → n ≡ number_of xs → kept ≡ length buf → kept ≤ n → Holds (length buf) buf (drop 4 xs)
    → new ≡ Some (drop (n - kept) (drop (length buf) (drop 4 xs)))
    → Holds kept (buf ++ rest) (drop 4 xs) × (new ≡ Some (drop (4 + number_of xs) xs))
file_kept new xs buf rest n kept e size most same left =
    let whole : drop (n - kept) (drop (length buf) (drop 4 xs)) ≡ drop (4 + number_of xs) xs =
    ap (drop (n - kept)) (drop-drop (length buf) 4 xs) ∙ drop-drop (n - kept) (4 + length buf) xs
    ∙ ap (λ k. drop k xs) (omega arith) in
    (λ k h. get_or_append_left buf rest 0 k (omega arith) ∙ same k (omega arith), left ∙ ap Some whole)
