-- The first fault of letters and of vertices that were cut out of their buffer: that of the places that they came from.
-- Assumes nothing.
use Prim.Native.Nat.{ℕ, zero, suc, ◌+◌, ◌-◌, ◌≤◌, ◌<◌}
use mathlib.Core.Path.{◌≡◌, refl, ap, ap₂}
use mathlib.Core.List.{List}
use native.Mathlib.Omega.{arith}
use lib.ListN.{length, get_or, take, drop}
use Rattle.wire.specs.Found.{first}
use Rattle.graph.specs.Content.{Edge}
use Rattle.graph.specs.Rules.{letter_fault, vertex_fault}
use Rattle.graph.specs.Entries.{numbers_in}
use Rattle.graph_content.specs.Faults.{letters_fault, vertices_fault}
use Rattle.graph_content.proofs.Encoded.{length-numbers, numbers_part, numbers_at, numbers_between}

-- t from place i on holds what s holds from the place `at` on
abbrev Same : ℕ → List ℕ → ℕ → List ℕ → ℕ → Type 0
Same left t i s at = (j : ℕ) → j < left → get_or t (i + j) 0 ≡ get_or s (at + j) 0

same_head : (left i at : ℕ) (t s : List ℕ) → Same (suc left) t i s at → get_or t i 0 ≡ get_or s at 0
same_head left i at t s e =
    let a : i + 0 ≡ i = omega arith in
    let b : at + 0 ≡ at = omega arith in
    let h : get_or t (i + 0) 0 ≡ get_or s (at + 0) 0 = e 0 (omega arith) in
    rw (a, b) at h

same_rest : (left i at : ℕ) (t s : List ℕ) → Same (suc left) t i s at → Same left t (i + 1) s (at + 1)
same_rest left i at t s e j h =
    let a : i + suc j ≡ i + 1 + j = omega arith in
    let b : at + suc j ≡ at + 1 + j = omega arith in
    let k : get_or t (i + suc j) 0 ≡ get_or s (at + suc j) 0 = e (suc j) (omega arith) in
    rw (a, b) at k

letters-same : (left i at : ℕ) (t s : List ℕ) → Same left t i s at → letters_fault left t i ≡ letters_fault left s at
unfolding letters_fault
letters-same zero i at t s e = refl
letters-same (suc left) i at t s e =
    ap₂ (λ (x f : ℕ). first (letter_fault x) f) (same_head left i at t s e)
    (letters-same left (i + 1) (at + 1) t s (same_rest left i at t s e))

vertices-same : (n : ℕ) (es : List Edge) (left i at last : ℕ) (t s : List ℕ) → Same left t i s at
    → vertices_fault n es left i last t ≡ vertices_fault n es left at last s
unfolding vertices_fault
vertices-same n es zero i at last t s e = refl
vertices-same n es (suc left) i at last t s e =
    let r = vertices-same n es left (i + 1) (at + 1) (get_or s at 0) t s (same_rest left i at t s e) in
    rw (same_head left i at t s e) (ap (first (vertex_fault n es last (get_or s at 0))) r)

-- the numbers of a part are those of the buffer
numbers-same : (left at : ℕ) (s : List ℕ) → Same left (numbers_in left at s) 0 s at
numbers-same left at s j h = let z : 0 + j ≡ j = omega arith in rw z (numbers_at left at j s h)

pub letters-cut : (at end len : ℕ) (s : List ℕ) → end ≡ at + len → end ≤ length s
    → letters_fault (length (take (end - at) (drop at s))) (take (end - at) (drop at s)) 0 ≡ letters_fault len s at
letters-cut at end len s e h =
    rw (numbers_between at end len s e h, length-numbers len at s) (letters-same len 0 at (numbers_in len at s) s (numbers-same len at s))

pub vertices-cut : (n : ℕ) (es : List Edge) (len at : ℕ) (s p : List ℕ) → p ≡ numbers_in len at s
    → vertices_fault n es (length p) 0 0 p ≡ vertices_fault n es len at 0 s
vertices-cut n es len at s p e =
    rw (e, length-numbers len at s) (vertices-same n es len 0 at 0 (numbers_in len at s) s (numbers-same len at s))

-- the first letters of a buffer
pub letters-front : (len : ℕ) (s : List ℕ) → len ≤ length s → letters_fault (length (take len s)) (take len s) 0 ≡ letters_fault len s 0
letters-front len s h = rw (numbers_part len 0 s (omega arith), length-numbers len 0 s) (letters-same len 0 0 (numbers_in len 0 s) s (numbers-same len 0 s))
