-- The reply for content and room, by what was found: one law for each way.
-- Assumes nothing.
use Prim.Native.Nat.{ℕ, ◌≤◌, ◌<◌}
use mathlib.Core.Path.{◌≡◌, refl, ◌∙◌}
use mathlib.Core.List.{List}
use mathlib.Core.Bool.{Bool, true, false}
use lib.ListN.{length}
use borrow.Author.Tests.{le-leb, lt-leb}
use Rattle.wire.specs.Found.{accepted, refused, refusal_number}
use Rattle.wire.specs.Lent.{front}
use Rattle.wire.specs.Refusals.{out_of_range, small_buffer, short_output, graph_file}
use Rattle.wire.specs.Sizes.{most_file_bytes}
use Rattle.graph.specs.Content.{Graph}
use Rattle.graph.specs.Encode.{encode_graph}
use Rattle.graph.specs.Entries.{Given, room_for, roomy, graph_given, size_reply, write_reply, graph_in}
use Rattle.graph_write.specs.declared.WrittenAnswer.{WrittenAnswer}
use Rattle.graph_write.specs.Answer.{refused_with, Written}
use Rattle.graph.proofs.ContentReading.{given-good, given-fault}

-- ---- the buffers

abbrev sizes : Given → Bool
sizes c =
    room_for (length c.buffers.letters) (length c.buffers.lengths) (length c.buffers.edges) (length c.buffers.paths)
    (length c.buffers.counts)

roomy-sizes : (c : Given) → roomy c.buffers ≡ sizes c
unfolding roomy
roomy-sizes c = refl

-- ---- the replies

module _ (c : Given) (room : ℕ) where
  pub reply-small : sizes c ≡ false → write_reply c room ≡ refused small_buffer 0 0
  unfolding write_reply
  reply-small h = simp (roomy-sizes c ∙ h)

  module _ (h : sizes c ≡ true) where
    pub reply-fault : (f : ℕ) → f ≡ refusal_number (graph_given c) → (f ≡ 0 → ⊥) → write_reply c room ≡ refused f graph_file 0
    unfolding write_reply
    reply-fault f e n = simp (roomy-sizes c ∙ h, given-fault c f e n)

    -- content without fault goes on to the size
    sized : refusal_number (graph_given c) ≡ 0 → write_reply c room ≡ size_reply room (graph_in c)
    unfolding write_reply
    sized z = simp (roomy-sizes c ∙ h, given-good c z)

    pub reply-long : refusal_number (graph_given c) ≡ 0 → most_file_bytes < length (encode_graph (graph_in c))
        → write_reply c room ≡ refused out_of_range graph_file most_file_bytes
    unfolding size_reply
    reply-long z l = sized z ∙ simp (lt-leb (length (encode_graph (graph_in c))) most_file_bytes l)

    pub reply-short : refusal_number (graph_given c) ≡ 0 → length (encode_graph (graph_in c)) ≤ most_file_bytes → room < length (encode_graph (graph_in c))
        → write_reply c room ≡ refused short_output 0 0
    unfolding size_reply
    reply-short z l s =
        sized z ∙ simp (le-leb (length (encode_graph (graph_in c))) most_file_bytes l, lt-leb (length (encode_graph (graph_in c))) room s)

    pub reply-good : refusal_number (graph_given c) ≡ 0 → length (encode_graph (graph_in c)) ≤ most_file_bytes → length (encode_graph (graph_in c)) ≤ room
        → write_reply c room ≡ accepted (graph_in c)
    unfolding size_reply
    reply-good z l s =
        sized z ∙ simp (le-leb (length (encode_graph (graph_in c))) most_file_bytes l, le-leb (length (encode_graph (graph_in c))) room s)

-- ---- the contract

pub written_not : (c : Given) (room : ℕ) (out : List ℕ) (r : WrittenAnswer) (k file place : ℕ) → write_reply c room ≡ refused k file place
    → r ≡ refused_with k file place → Written c room out out r
written_not c room out r k file place e p = record { answer = rw e p; out = rw e }

pub written_all : (c : Given) (room : ℕ) (before after : List ℕ) (g : Graph) (r : WrittenAnswer) → write_reply c room ≡ accepted g
    → r ≡ record { number = 0; file = 0; place = 0; bytes = length (encode_graph g) } → after ≡ front (encode_graph g) before → Written c room before after r
written_all c room before after g r e p q = record { answer = rw e p; out = rw e q }
