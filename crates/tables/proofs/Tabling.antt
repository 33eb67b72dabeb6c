-- From tables in the used places to the entry's promise; and that the promise admits one answer. Assumes nothing.
use Prim.Native.Nat.{ℕ, ◌≤◌}
use mathlib.Core.Path.{◌≡◌, refl, sym, ap, ◌∙◌}
use mathlib.Core.List.{List, ◌++◌}
use mathlib.Core.Bool.{true, false}
use lib.ListN.{length, take, drop}
use Rattle.wire.specs.Lent.{laid}
use Rattle.wire.specs.Found.{Reply, accepted, refused, good}
use Rattle.wire.specs.Sizes.{full_table, full_closed}
use Rattle.wire.specs.Refusals.{small_buffer}
use Rattle.wire.proofs.Laying.{laid-after}
use Rattle.graph.specs.Content.{Graph, vertex_count, path_count}
use Rattle.graph.specs.Reading.{Parsed, graph_of}
use Rattle.cover.specs.TableEntries.{Tables, IsTables, TableBuffers, roomy_tables, tables_reply, filled_tables}
use Rattle.cover.proofs.One.{tables-one}
use Rattle.tables.specs.declared.TablesAnswer.{TablesAnswer}
use Rattle.tables.specs.Answer.{refusal_of, acceptance_of, Tabled, Outcome, Answered}

-- a part at the front, and 0 in the rest up to the full size
pub laid_part : (full n : ℕ) (part old : List ℕ) → length part ≡ n → n ≤ full → laid full (take n (part ++ drop n old)) (part ++ drop n old) ≡ laid full part old
laid_part full n part old l h = laid-after full part (part ++ drop n old) old n l h (ap (λ (k : ℕ). part ++ drop k old) (sym l))

-- the tables are in the buffers, and the counts in the answer
pub tabled : {g : Graph} (b : TableBuffers) (t : Tables) {reach distance closed : List ℕ} {n k : ℕ} → IsTables g t → reach ≡ laid full_table t.reach b.reach → distance ≡ laid full_table t.distance b.distance
    → closed ≡ laid full_closed t.closed b.closed → n ≡ vertex_count g → k ≡ path_count g
    → Tabled g b (record { reach = reach; distance = distance; closed = closed })
    (record { number = 0; file = 0; place = 0; vertices = n; paths = k; reachrounds = t.reach_rounds; distancerounds = t.distance_rounds })
unfolding filled_tables
tabled b t h p q s v w = record {
  tables = t;
  are = h;
  buffers = λ i. record { reach = p i; distance = q i; closed = s i };
  answer = λ i. record { number = 0; file = 0; place = 0; vertices = v i; paths = w i; reachrounds = t.reach_rounds; distancerounds = t.distance_rounds };
}

module _ (file : List ℕ) (b : TableBuffers) where
  -- a buffer below full size
  pub small-answered : (r : TablesAnswer) → roomy_tables b ≡ false → r ≡ refusal_of small_buffer 0 0 → Answered file b b r
  unfolding tables_reply
  small-answered r h e = record { outcome = rw h (record { buffers = refl; answer = e }) }

  -- a refused file
  pub refused-answered : (k f place : ℕ) (r : TablesAnswer) → tables_reply file b ≡ refused k f place → r ≡ refusal_of k f place → Answered file b b r
  refused-answered k f place r h e = record { outcome = rw h (record { buffers = refl; answer = e }) }

  -- an accepted one
  pub accepted-answered : (p : Parsed) (after : TableBuffers) (r : TablesAnswer) → roomy_tables b ≡ true → graph_of file ≡ good p → Tabled p.graph b after r → Answered file b after r
  unfolding tables_reply
  accepted-answered p after r h e t = record { outcome = rw (h, e) t }

  same_outcome : (x : Reply Parsed) (c d : TableBuffers) (r q : TablesAnswer) → Outcome x b c r → Outcome x b d q → (r ≡ q) × (c ≡ d)
  same_outcome (accepted p) c d r q h k =
      let e : h.tables ≡ k.tables = tables-one p.graph h.are k.are in
      (h.answer ∙ ap (acceptance_of p.graph) e ∙ sym k.answer, h.buffers ∙ ap (λ (t : Tables). filled_tables t b) e ∙ sym k.buffers)
  same_outcome (refused n f place) c d r q h k = (h.answer ∙ sym k.answer, h.buffers ∙ sym k.buffers)

  -- THE PROMISE ADMITS ONE ANSWER, and one content of every buffer
  pub one_answer : (c d : TableBuffers) (r q : TablesAnswer) → Answered file b c r → Answered file b d q → (r ≡ q) × (c ≡ d)
  one_answer c d r q h k = same_outcome (tables_reply file b) c d r q h.outcome k.outcome
