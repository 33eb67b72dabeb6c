-- What reading finds, and what an entry replies.
use Rattle.std.specs.Prelude.{ℕ, Result, Ok, Err, eqb}
use Rattle.wire.specs.Cases.{pick}
use Rattle.wire.specs.Refusals.{code, file_number}
use Rattle.wire.specs.declared.numbers.Cursor.{Cursor}
use Rattle.wire.specs.declared.refusals.Refusal.{Refusal}
use Rattle.wire.specs.declared.refusals.Fault.{Fault}
use Rattle.wire.specs.declared.refusals.FileFault.{FileFault}

-- what reading finds: the content, or the number and the place of the first fault
pub data Found (A : Type 0) : Type 0 where
  good : A → Found A
  fault : ℕ → ℕ → Found A

-- a part of a file: its content, and the place after it
pub record Part (A : Type 0) : Type 0 where
  pub content : A
  pub next : ℕ

-- goes on with what was found; "The first fault in this order is the answer."
abbrev pub and_then : {A B : Type 0} → Found A → (A → Found B) → Found B
and_then (good a) go = go a
and_then (fault k place) go = fault k place

-- goes on where the rule gives no refusal number (0), else that number at the place
abbrev pub refuse : {B : Type 0} → ℕ → ℕ → Found B → Found B
refuse k place go = pick (eqb k 0) go (fault k place)

-- "Each answer holds the number, the file (1 graph, 2 anchors) and the place; an acceptance has 0 in all three."
pub data Reply (A : Type 0) : Type 0 where
  accepted : A → Reply A
  refused : ℕ → ℕ → ℕ → Reply A

-- what was found in a file, as a reply
abbrev pub in_file : {A : Type 0} → ℕ → Found A → Reply A
in_file file (good a) = accepted a
in_file file (fault k place) = refused k file place

-- goes on with what was accepted
abbrev pub on_accepted : {A B : Type 0} → Reply A → (A → Reply B) → Reply B
on_accepted (accepted a) go = go a
on_accepted (refused k file place) go = refused k file place

-- of two refusal numbers the first, or where that is 0 the second: "The first fault in this order is the answer."
abbrev pub first : ℕ → ℕ → ℕ
first a b = pick (eqb a 0) b a

-- the refusal number of what was found, 0 for none
abbrev pub refusal_number : {A : Type 0} → Found A → ℕ
refusal_number (good a) = 0
refusal_number (fault k place) = k

-- what was found in the bytes of content, as a writer gives it: "with place 0 for faults of the content"
abbrev pub as_content : {A B : Type 0} → (A → B) → Found A → Found B
as_content f (good a) = good (f a)
as_content f (fault k place) = fault k 0

-- ---- what code answers

-- what code found: the content, or the fault
abbrev pub found : {A : Type 0} → Result A Fault → Found A
found (Ok a) = good a
found (Err f) = fault (code f.refusal) f.place

-- what code read: the content with the place after it, or the fault
abbrev pub reading : {A : Type 0} → Result (A × Cursor) Fault → Found (Part A)
reading (Ok r) = good (record { content = r.0; next = r.1.at })
reading (Err f) = fault (code f.refusal) f.place

-- the refusal number that code gives, 0 for none
abbrev pub told : {A : Type 0} → Result A Refusal → ℕ
told (Ok a) = 0
told (Err r) = code r

-- what code replies: accepted, or the fault's number, file and place
abbrev pub replied : {A : Type 0} → Result A FileFault → Reply A
replied (Ok a) = accepted a
replied (Err f) = refused (code f.fault.refusal) (file_number f.file) f.fault.place
