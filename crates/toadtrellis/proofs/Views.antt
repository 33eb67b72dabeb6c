-- What code answers is one answer: each of the views `found`, `reading`, `told`, `replied`, `five_reading` and `view_held` is one to one, and so a contract that fixes
-- the view fixes the answer. (`told` is, where there is one answer without a refusal, as in the code.)
-- Assumes nothing.
use Prim.Native.Nat.{ℕ}
use mathlib.Core.Path.{◌≡◌, refl, sym, ap, ap₂, ◌∙◌}
use native.Mathlib.Omega.{arith}
use Rattle.std.specs.Prelude.{Result, Ok, Err, eqb}
use Rattle.wire.specs.Cases.{pick}
use Rattle.wire.specs.Refusals.{code, file_number}
use Rattle.wire.specs.Found.{Found, good, fault, Part, Reply, accepted, refused, found, reading, told, replied}
use Rattle.wire.specs.declared.numbers.Cursor.{Cursor}
use Rattle.wire.specs.declared.refusals.Refusal.{Refusal}
use Rattle.wire.specs.declared.refusals.Refusal.TheVariants.{
  BytesEnd,
  BadNumber,
  WrongKind,
  OutOfRange,
  NotLetter,
  NoVertex,
  NotRising,
  NotEdge,
  OnNoPath,
  LeftOver,
  Outside,
  LettersDiffer,
  SmallBuffer,
  ShortOutput,
}
use Rattle.wire.specs.declared.refusals.File.{File}
use Rattle.wire.specs.declared.refusals.File.TheVariants.{Graph, Anchors}
use Rattle.wire.specs.declared.refusals.Fault.{Fault}
use Rattle.wire.specs.declared.refusals.FileFault.{FileFault}
use Rattle.graph_content.proofs.Faulting.{code-some}
use Rattle.anchors.specs.Anchors.{Anchor}
use Rattle.anchors.specs.AnchorReading.{Numbers}
use Rattle.anchors.specs.View.{View}
use Rattle.anchors_rules.specs.OneAnchor.{anchor_of}
use Rattle.anchors_rules.specs.declared.rules.Five.{Five}
use Rattle.anchors_parts.specs.ReadAnchor.{five_reading}
use Rattle.anchors_view.specs.Viewed.{view_held}
use Rattle.anchors_view.specs.declared.view.Viewed.{Viewed}

-- the refusal of a number
abbrev refusal_of : ℕ → Refusal
refusal_of k =
    pick (eqb k 1) BytesEnd
    (pick (eqb k 2) BadNumber
    (pick (eqb k 3) WrongKind
    (pick (eqb k 4) OutOfRange
    (pick (eqb k 5) NotLetter
    (pick (eqb k 6) NoVertex
    (pick (eqb k 7) NotRising
    (pick (eqb k 8) NotEdge
    (pick (eqb k 9) OnNoPath
    (pick (eqb k 10) LeftOver
    (pick (eqb k 11) Outside
    (pick (eqb k 12) LettersDiffer
    (pick (eqb k 13) SmallBuffer ShortOutput))))))))))))

code_back : (a : Refusal) → refusal_of (code a) ≡ a
code_back BytesEnd = refl
code_back BadNumber = refl
code_back WrongKind = refl
code_back OutOfRange = refl
code_back NotLetter = refl
code_back NoVertex = refl
code_back NotRising = refl
code_back NotEdge = refl
code_back OnNoPath = refl
code_back LeftOver = refl
code_back Outside = refl
code_back LettersDiffer = refl
code_back SmallBuffer = refl
code_back ShortOutput = refl

-- a number is that of one refusal
pub code-one : (a b : Refusal) → code a ≡ code b → a ≡ b
code-one a b e = sym (code_back a) ∙ ap refusal_of e ∙ code_back b

-- a number is that of one file
pub file-one : (a b : File) → file_number a ≡ file_number b → a ≡ b
file-one Graph Graph e = refl
file-one Graph Anchors e = absurd (omega (arith, e))
file-one Anchors Graph e = absurd (omega (arith, e))
file-one Anchors Anchors e = refl

fault-one : (f g : Fault) → code f.refusal ≡ code g.refusal → f.place ≡ g.place → f ≡ g
fault-one f g e p = ap₂ (λ (r : Refusal) (q : ℕ). record { refusal = r; place = q }) (code-one f.refusal g.refusal e) p

-- ---- the views

module _ {A : Type 0} where
  abbrev content_of : A → Found A → A
  content_of d (good a) = a
  content_of d (fault k q) = d

  abbrev number_of : Found A → ℕ
  number_of (good a) = 0
  number_of (fault k q) = k

  abbrev place_of : Found A → ℕ
  place_of (good a) = 0
  place_of (fault k q) = q

  pub found-one : (r s : Result A Fault) → found r ≡ found s → r ≡ s
  found-one (Ok a) (Ok b) e = ap Ok (ap (content_of a) e)
  found-one (Ok a) (Err g) e = let n : 0 ≡ code g.refusal = ap number_of e in absurd (code-some g.refusal (sym n))
  found-one (Err f) (Ok b) e = let n : code f.refusal ≡ 0 = ap number_of e in absurd (code-some f.refusal n)
  found-one (Err f) (Err g) e = ap Err (fault-one f g (ap number_of e) (ap place_of e))

  abbrev first_of : Found (Part A) → A → A
  first_of (good p) d = p.content
  first_of (fault k q) d = d

  abbrev code_of : Found (Part A) → ℕ
  code_of (good p) = 0
  code_of (fault k q) = k

  abbrev next_of : Found (Part A) → ℕ
  next_of (good p) = p.next
  next_of (fault k q) = q

  pub reading-one : (r s : Result (A × Cursor) Fault) → reading r ≡ reading s → r ≡ s
  reading-one (Ok a) (Ok b) e = ap₂ (λ (x : A) (j : ℕ). Ok (x, record { at = j })) (ap (λ (p : Found (Part A)). first_of p a.0) e) (ap next_of e)
  reading-one (Ok a) (Err g) e = let n : 0 ≡ code g.refusal = ap code_of e in absurd (code-some g.refusal (sym n))
  reading-one (Err f) (Ok b) e = let n : code f.refusal ≡ 0 = ap code_of e in absurd (code-some f.refusal n)
  reading-one (Err f) (Err g) e = ap Err (fault-one f g (ap code_of e) (ap next_of e))

  -- where all answers without a refusal are one, as with `()`
  pub told-one : ((a b : A) → a ≡ b) → (r s : Result A Refusal) → told r ≡ told s → r ≡ s
  told-one one (Ok a) (Ok b) e = ap Ok (one a b)
  told-one one (Ok a) (Err g) e = absurd (code-some g (sym e))
  told-one one (Err f) (Ok b) e = absurd (code-some f e)
  told-one one (Err f) (Err g) e = ap Err (code-one f g e)

  abbrev accepted_of : A → Reply A → A
  accepted_of d (accepted a) = a
  accepted_of d (refused k file q) = d

  abbrev refusal_in : Reply A → ℕ
  refusal_in (accepted a) = 0
  refusal_in (refused k file q) = k

  abbrev file_in : Reply A → ℕ
  file_in (accepted a) = 0
  file_in (refused k file q) = file

  abbrev place_in : Reply A → ℕ
  place_in (accepted a) = 0
  place_in (refused k file q) = q

  pub replied-one : (r s : Result A FileFault) → replied r ≡ replied s → r ≡ s
  replied-one (Ok a) (Ok b) e = ap Ok (ap (accepted_of a) e)
  replied-one (Ok a) (Err g) e = let n : 0 ≡ code g.fault.refusal = ap refusal_in e in absurd (code-some g.fault.refusal (sym n))
  replied-one (Err f) (Ok b) e = let n : code f.fault.refusal ≡ 0 = ap refusal_in e in absurd (code-some f.fault.refusal n)
  replied-one (Err f) (Err g) e = ap₂ (λ (file : File) (found : Fault). Err (record { file = file; fault = found })) (file-one f.file g.file (ap file_in e))
      (fault-one f.fault g.fault (ap refusal_in e) (ap place_in e))

pub view_held-one : (w x : Viewed) → view_held w ≡ view_held x → w ≡ x
view_held-one w x e =
    ap₂ (λ (file : File) (part : ℕ × ℕ). record { file = file; start = part.0; len = part.1 })
    (file-one w.file x.file (ap (λ (v : View). v.file) e))
    (ap₂ (λ (start len : ℕ). (start, len)) (ap (λ (v : View). v.start) e) (ap (λ (v : View). v.len) e))

pub anchor_of-one : (a b : Five) → anchor_of a ≡ anchor_of b → a ≡ b
anchor_of-one a b e = ap (λ (x : Anchor). record { v = x.v; x = x.x; c = x.c; len = x.len; weight = x.weight }) e

abbrev anchor_in : Anchor → Found Numbers → Anchor
anchor_in d (good r) = r.anchor
anchor_in d (fault k q) = d

abbrev weight_place : Found Numbers → ℕ
weight_place (good r) = r.weight_at
weight_place (fault k q) = q

abbrev five_next : Found Numbers → ℕ
five_next (good r) = r.next
five_next (fault k q) = q

abbrev five_code : Found Numbers → ℕ
five_code (good r) = 0
five_code (fault k q) = k

pub five_reading-one : (r s : Result (Five × Cursor × Cursor) Fault) → five_reading r ≡ five_reading s → r ≡ s
five_reading-one (Ok a) (Ok b) e =
    ap₂ (λ (five : Five) (places : ℕ × ℕ). Ok (five, record { at = places.0 }, record { at = places.1 }))
    (anchor_of-one a.0 b.0 (ap (anchor_in (anchor_of a.0)) e))
    (ap₂ (λ (p q : ℕ). (p, q)) (ap weight_place e) (ap five_next e))
five_reading-one (Ok a) (Err g) e = let n : 0 ≡ code g.refusal = ap five_code e in absurd (code-some g.refusal (sym n))
five_reading-one (Err f) (Ok b) e = let n : code f.refusal ≡ 0 = ap five_code e in absurd (code-some f.refusal n)
five_reading-one (Err f) (Err g) e = ap Err (fault-one f g (ap five_code e) (ap weight_place e))
