-- What a reader gave to the front of a room, part after part.
-- Assumes nothing.
use Rattle.std.proofs.Common.{◌≡◌, ℕ, ◌+◌, ◌≤◌, List, ◌++◌, Option, Some, None, length, take, sym, ap, subst, ◌∙◌, append_assoc, length-take-le}
use Rattle.std.proofs.Math.Seq.{take-append-add}
use Rattle.std.proofs.lemmas.List.{take-append-le}
use Rattle.std.specs.Io.KnownBytes.{Consumes}

consumes_then : (a b c : Option (List ℕ)) (s t : List ℕ) → Consumes a b s → Consumes b c t → Consumes a c (s ++ t)
consumes_then None b c s t p q = tt
consumes_then (Some x) None c s t p q = absurd p
consumes_then (Some x) (Some y) None s t p q = absurd q
consumes_then (Some x) (Some y) (Some z) s t p q = p ∙ ap (λ (l : List ℕ). s ++ l) q ∙ sym (append_assoc s t z)

-- the front of the room grows by the k bytes that were read after it
pub gave_more : (a b c : Option (List ℕ)) (room buf rest : List ℕ) (n k : ℕ) → n ≤ length room → k ≤ length buf → Consumes a b (take n room)
    → Consumes b c (take k buf) → Consumes a c (take (n + k) (take n room ++ (buf ++ rest)))
gave_more a b c room buf rest n k h l p q =
    let joined : take (n + k) (take n room ++ (buf ++ rest)) ≡ take n room ++ take k buf =
    ap (λ (m : ℕ). take (m + k) (take n room ++ (buf ++ rest))) (sym (length-take-le n room h))
    ∙ take-append-add (take n room) (buf ++ rest) k
    ∙ ap (λ (t : List ℕ). take n room ++ t) (take-append-le k buf rest l) in
    subst (Consumes a c) (sym joined) (consumes_then a b c (take n room) (take k buf) p q)
