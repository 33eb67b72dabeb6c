-- The files of document 01's listing, read by the definitions.
-- Assumes nothing.
use Prim.Native.Nat.{ℕ}
use mathlib.Core.Path.{◌≡◌, refl}
use mathlib.Core.List.{List, [], ◌∷◌}
use Rattle.wire.specs.Numbers.{number_at}
use Rattle.wire.specs.Letters.{is_letter, agree}
use Rattle.wire.specs.Found.{Reply, accepted, refused}
use Rattle.graph.specs.Rules.{edge_fault, is_edge, is_step, vertex_fault, is_on, is_on_any, all_on, cover_fault}
use Rattle.graph.specs.Reading.{graph_of, front_in, front_of, rest_of, letters_from, labels_from, edges_from, vertices_from, paths_from}
use Rattle.anchors.specs.Anchors.{AnchorSet}
use Rattle.anchors.specs.AnchorRules.{agree_from, letters_agree, own_fault, key_below}
use Rattle.anchors.specs.AnchorReading.{numbers_at, anchors_from, whole_anchors, anchors_of}
use Rattle.anchors.specs.AnchorEntries.{Both, both_reply}

abbrev pub G1 : List ℕ
G1 = 0x01 ∷ 0x04 ∷ 0x02 ∷ 0x41 ∷ 0x43 ∷ 0x01 ∷ 0x47 ∷ 0x02 ∷ 0x54 ∷ 0x54 ∷ 0x02 ∷ 0x43 ∷ 0x41 ∷ 0x04 ∷ 0x01 ∷ 0x02 ∷ 0x01 ∷ 0x03 ∷ 0x02 ∷ 0x04 ∷ 0x03 ∷ 0x04 ∷ 0x02 ∷ 0x03 ∷ 0x01 ∷ 0x02 ∷ 0x04 ∷ 0x03 ∷ 0x01 ∷ 0x03 ∷ 0x04 ∷ []

abbrev pub A1 : List ℕ
A1 = 0x02 ∷ 0x06 ∷ 0x41 ∷ 0x43 ∷ 0x54 ∷ 0x54 ∷ 0x43 ∷ 0x41 ∷ 0x03 ∷ 0x01 ∷ 0x01 ∷ 0x01 ∷ 0x02 ∷ 0x02 ∷ 0x03 ∷ 0x01 ∷ 0x03 ∷ 0x02 ∷ 0x02 ∷ 0x04 ∷ 0x01 ∷ 0x05 ∷ 0x02 ∷ 0x02 ∷ []

abbrev pub set1 : AnchorSet
set1 = record {
  read = 0x41 ∷ 0x43 ∷ 0x54 ∷ 0x54 ∷ 0x43 ∷ 0x41 ∷ [];
  anchors = record { v = 1; x = 1; c = 1; len = 2; weight = 2 }
      ∷ (record { v = 3; x = 1; c = 3; len = 2; weight = 2 }
      ∷ (record { v = 4; x = 1; c = 5; len = 2; weight = 2 } ∷ []));
}

abbrev set_of : Reply Both → AnchorSet
set_of (accepted p) = p.anchors.set
set_of (refused k f place) = record { read = []; anchors = [] }

pub listing_accepted : set_of (both_reply G1 A1) ≡ set1
unfolding both_reply anchors_of whole_anchors anchors_from numbers_at own_fault letters_agree agree_from agree key_below graph_of front_of front_in rest_of number_at labels_from letters_from is_letter edges_from edge_fault paths_from vertices_from vertex_fault is_step is_edge cover_fault all_on is_on_any is_on
listing_accepted = refl
