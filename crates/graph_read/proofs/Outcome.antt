-- What a caller of the reader learns from the number of its answer.
-- Assumes nothing.
use Prim.Native.Nat.{ℕ, ◌≤◌}
use mathlib.Core.Path.{◌≡◌, refl, ap, ◌∙◌}
use mathlib.Core.List.{List}
use mathlib.Core.Logic.{◌⊎◌, inl, inr, ⊎_elim}
use mathlib.Core.Bool.{Bool, true, false}
use native.Mathlib.Omega.{arith}
use Rattle.wire.specs.Found.{Found, good, fault, accepted, refused}
use Rattle.wire.specs.Refusals.{small_buffer, graph_file}
use Rattle.graph.specs.Reading.{Parsed, graph_of}
use Rattle.graph.specs.Entries.{Buffers, roomy, read_reply, filled}
use Rattle.graph.proofs.Faulty.{graph-fault}
use Rattle.graph_read.specs.declared.GraphAnswer.{GraphAnswer}
use Rattle.graph_read.specs.Answer.{answer_of, Answered}

-- the file is accepted, and the buffers hold its content
pub record Accepts (file : List ℕ) (b after : Buffers) (r : GraphAnswer) : Type 0 where
  pub parsed : Parsed
  pub found : graph_of file ≡ good parsed
  pub full : roomy b ≡ true
  pub content : after ≡ filled parsed.graph b
  pub answer : r ≡ answer_of (accepted parsed)

-- the call is refused, and nothing was written
pub record Refuses (file : List ℕ) (b after : Buffers) (r : GraphAnswer) : Type 0 where
  pub reply : read_reply file b ≡ refused r.number r.file r.place
  pub some : 1 ≤ r.number
  pub untouched : after ≡ b
  pub answer : r ≡ answer_of (refused r.number r.file r.place)

module _ (file : List ℕ) (b after : Buffers) (r : GraphAnswer) (a : Answered file b after r) where
  refuses : (k f place : ℕ) → read_reply file b ≡ refused k f place → 1 ≤ k → Refuses file b after r
  refuses k f place e h =
      let q : r ≡ answer_of (refused k f place) = a.answer ∙ rw e in
      record { reply = e ∙ rw q; some = rw q h; untouched = a.buffers ∙ rw e; answer = q ∙ rw q }

  by_file : (x : Found Parsed) → graph_of file ≡ x → roomy b ≡ true → Accepts file b after r ⊎ Refuses file b after r
  unfolding read_reply
  by_file (good p) e h =
      let reply : read_reply file b ≡ accepted p = rw (h, e) in
      inl (record { parsed = p; found = e; full = h; content = a.buffers ∙ rw reply; answer = a.answer ∙ rw reply })
  by_file (fault k place) e h = inr (refuses k graph_file place (rw (h, e)) (graph-fault file k place e).some)

  by_room : (t : Bool) → roomy b ≡ t → Accepts file b after r ⊎ Refuses file b after r
  unfolding read_reply
  by_room true h = by_file (graph_of file) refl h
  by_room false h = inr (refuses small_buffer 0 0 (rw h) (omega arith))

  -- number 0: accepted
  pub number-zero : r.number ≡ 0 → Accepts file b after r
  number-zero z = ⊎_elim (λ t. t) (λ t. absurd (omega (arith, t.some))) (by_room (roomy b) refl)

  -- any other number: refused
  pub number-some : (r.number ≡ 0 → ⊥) → Refuses file b after r
  number-some n = ⊎_elim (λ t. absurd (n (ap (λ (q : GraphAnswer). q.number) t.answer))) (λ t. t) (by_room (roomy b) refl)
