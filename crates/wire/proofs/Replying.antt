-- What was replied at the end was replied on the way.
-- Assumes nothing.
use Prim.Native.Nat.{ℕ}
use mathlib.Core.Path.{◌≡◌, refl}
use mathlib.Core.Logic.{◌⊎◌, inl, inr}
use mathlib.Core.Bool.{Bool, true, false}
use native.Mathlib.Omega.{arith}
use Rattle.wire.specs.Cases.{pick}
use Rattle.wire.specs.Found.{Found, good, fault, Reply, accepted, refused, in_file, on_accepted}

pub accepted-same : {A : Type 0} (a b : A) → accepted a ≡ accepted b → a ≡ b
accepted-same a b e = cc

pub on-accepted : {A B : Type 0} (x : Reply A) (go : A → Reply B) (b : B) → on_accepted x go ≡ accepted b
    → (a : A) × (x ≡ accepted a) × (go a ≡ accepted b)
on-accepted (accepted a) go b e = (a, refl, e)
on-accepted (refused k f p) go b e = let z : ◌≡◌ {A = ℕ} 0 1 = cc in absurd (omega arith)

pub on-refused : {A B : Type 0} (x : Reply A) (go : A → Reply B) (k f p : ℕ) → on_accepted x go ≡ refused k f p
    → (x ≡ refused k f p) ⊎ ((a : A) × (x ≡ accepted a) × (go a ≡ refused k f p))
on-refused (accepted a) go k f p e = inr (a, refl, e)
on-refused (refused j h q) go k f p e = inl cc

pub file-accepted : {A : Type 0} (file : ℕ) (x : Found A) (a : A) → in_file file x ≡ accepted a → x ≡ good a
file-accepted file (good b) a e = cc
file-accepted file (fault k p) a e = let z : ◌≡◌ {A = ℕ} 0 1 = cc in absurd (omega arith)

pub file-refused : {A : Type 0} (file : ℕ) (x : Found A) (k f p : ℕ) → in_file file x ≡ refused k f p → (x ≡ fault k p) × (f ≡ file)
file-refused file (good a) k f p e = let z : ◌≡◌ {A = ℕ} 0 1 = cc in absurd (omega arith)
file-refused file (fault j q) k f p e = (cc, cc)

pub test_accepted : {A : Type 0} (t : Bool) (x : Reply A) (k f p : ℕ) (a : A) → pick t x (refused k f p) ≡ accepted a → (t ≡ true) × (x ≡ accepted a)
test_accepted true x k f p a e = (refl, e)
test_accepted false x k f p a e = let z : ◌≡◌ {A = ℕ} 0 1 = cc in absurd (omega arith)

pub test_refused : {A : Type 0} (t : Bool) (x : Reply A) (j g q k f p : ℕ) → pick t x (refused j g q) ≡ refused k f p
    → ((t ≡ true) × (x ≡ refused k f p)) ⊎ ((t ≡ false) × (k ≡ j) × (f ≡ g) × (p ≡ q))
test_refused true x j g q k f p e = inl (refl, e)
test_refused false x j g q k f p e = inr (refl, cc, cc, cc)
