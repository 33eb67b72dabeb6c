-- What reading an anchor's numbers answers.
use Rattle.std.specs.Prelude.{ℕ, zero, suc, List, Result, Ok, Err}
use Rattle.wire.specs.Found.{Found, good, fault, and_then}
use Rattle.wire.specs.Refusals.{code}
use Rattle.wire.specs.declared.numbers.Cursor.{Cursor}
use Rattle.wire.specs.declared.refusals.Fault.{Fault}
use Rattle.anchors.specs.AnchorReading.{Numbers, numbers_at}
use Rattle.anchors_rules.specs.OneAnchor.{anchor_of}
use Rattle.anchors_rules.specs.declared.rules.Five.{Five}

-- the five numbers that code read, with where the weight starts and the place after it, or the fault
abbrev pub five_reading : Result (Five × Cursor × Cursor) Fault → Found Numbers
five_reading (Ok r) = good (record { anchor = anchor_of r.0; weight_at = r.1.at; next = r.2.at })
five_reading (Err f) = fault (code f.refusal) f.place

-- the anchor after `skipped` others
unfoldable pub numbers_after : ℕ → List ℕ → ℕ → Found Numbers
numbers_after zero s at = numbers_at s at
numbers_after (suc skipped) s at = and_then (numbers_at s at) (λ a. numbers_after skipped s a.next)
