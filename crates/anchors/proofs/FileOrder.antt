-- The order in which a call looks at its buffers, the two files and the content.
-- Assumes nothing.
use Prim.Native.Nat.{ℕ}
use mathlib.Core.Path.{◌≡◌, refl, ◌∙◌}
use mathlib.Core.List.{List}
use mathlib.Core.Bool.{Bool, true, false}
use Rattle.wire.specs.Found.{Found, good, fault, accepted, refused, in_file, on_accepted}
use Rattle.wire.specs.Refusals.{small_buffer, graph_file, anchor_file}
use Rattle.graph.specs.Reading.{Parsed, graph_of}
use Rattle.anchors.specs.AnchorReading.{anchors_of}
use Rattle.anchors.specs.AnchorEntries.{Both, both_reply, AnchorsGiven, anchors_given, roomy_anchors, anchor_size_reply, write_anchors_reply}

-- ---- the order of the two files

-- "A call on both files takes the whole graph file first": one that is refused is the answer, whatever the anchor file holds
pub graph-first : (graph file : List ℕ) (k place : ℕ) → graph_of graph ≡ fault k place → both_reply graph file ≡ refused k graph_file place
unfolding both_reply
graph-first graph file k place e = simp e

-- and over one that is accepted the anchor file decides
pub anchors-next : (graph file : List ℕ) (p : Parsed) → graph_of graph ≡ good p
    → both_reply graph file ≡ on_accepted (in_file anchor_file (anchors_of p.graph file)) (λ q. accepted (record { graph = p; anchors = q }))
unfolding both_reply
anchors-next graph file p e = simp e

-- what each file was found to be
pub data Ordered (graph file : List ℕ) : Type 0 where
  graph-refused : (k place : ℕ) → graph_of graph ≡ fault k place → both_reply graph file ≡ refused k graph_file place → Ordered graph file
  anchors-refused : (p : Parsed) (k place : ℕ) → graph_of graph ≡ good p → anchors_of p.graph file ≡ fault k place
      → both_reply graph file ≡ refused k anchor_file place → Ordered graph file
  both-accepted : (p : Both) → graph_of graph ≡ good p.graph → anchors_of p.graph.graph file ≡ good p.anchors
      → both_reply graph file ≡ accepted p → Ordered graph file

-- what was found is one or the other
found : {A : Type 0} {X : Type 0} (x : Found A) → ((a : A) → x ≡ good a → X) → ((k place : ℕ) → x ≡ fault k place → X) → X
found (good a) f g = f a refl
found (fault k place) f g = g k place refl

pub ordered : (graph file : List ℕ) → Ordered graph file
ordered graph file =
    found (graph_of graph)
    (λ p e.
    found (anchors_of p.graph file)
    (λ q f. both-accepted (record { graph = p; anchors = q }) e f (anchors-next graph file p e ∙ rw f))
    (λ k place f. anchors-refused p k place e f (anchors-next graph file p e ∙ rw f)))
    (λ k place e. graph-refused k place e (graph-first graph file k place e))

-- ---- the order of the writer

module _ (c : AnchorsGiven) (graph : List ℕ) (room : ℕ) where
  -- 13 comes first, whatever the graph file and the content are
  pub small-first : roomy_anchors c.buffers ≡ false → write_anchors_reply c graph room ≡ refused small_buffer 0 0
  unfolding write_anchors_reply
  small-first h = simp h

  -- "the graph file's bytes, which are checked right after 13": before the content
  pub graph-before : (k place : ℕ) → roomy_anchors c.buffers ≡ true → graph_of graph ≡ fault k place
      → write_anchors_reply c graph room ≡ refused k graph_file place
  unfolding write_anchors_reply
  graph-before k place h e = simp (h, e)

  -- over an accepted graph file the content, and then the size
  pub content-next : (p : Parsed) → roomy_anchors c.buffers ≡ true → graph_of graph ≡ good p
      → write_anchors_reply c graph room ≡ on_accepted (in_file anchor_file (anchors_given p.graph c)) (anchor_size_reply room)
  unfolding write_anchors_reply
  content-next p h e = simp (h, e)

  -- which of them it was
  pub data WriteOrdered : Type 0 where
    write_small : roomy_anchors c.buffers ≡ false → write_anchors_reply c graph room ≡ refused small_buffer 0 0 → WriteOrdered
    write_graph : (k place : ℕ) → graph_of graph ≡ fault k place → write_anchors_reply c graph room ≡ refused k graph_file place → WriteOrdered
    write_content : (p : Parsed) → roomy_anchors c.buffers ≡ true → graph_of graph ≡ good p
        → write_anchors_reply c graph room ≡ on_accepted (in_file anchor_file (anchors_given p.graph c)) (anchor_size_reply room)
        → WriteOrdered

  pub write_ordered : WriteOrdered
  write_ordered =
      tested (roomy_anchors c.buffers)
      (λ h. found (graph_of graph) (λ p e. write_content p h e (content-next p h e)) (λ k place e. write_graph k place e (graph-before k place h e)))
      (λ h. write_small h (small-first h))
    where
      tested : (b : Bool) → (b ≡ true → WriteOrdered) → (b ≡ false → WriteOrdered) → WriteOrdered
      tested true f g = f refl
      tested false f g = g refl
