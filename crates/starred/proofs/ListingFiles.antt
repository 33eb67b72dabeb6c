-- The files of document 01's listing, as bytes, are the worked case `acttca` over `g1`: what is proved of it is proved of them.
-- Assumes nothing.
use mathlib.Core.Path.{◌≡◌, refl}
use Rattle.wire.specs.Found.{good}
use Rattle.graph.specs.Reading.{graph_of}
use Rattle.graph.proofs.Starred.{G1-file, G1-accepted}
use Rattle.anchors.proofs.AnchorStarred.{G1, set1}
use Rattle.cover.specs.Worked.{g1}
use Rattle.chain.specs.WorkedAnchors.{acttca, acttca_result, Works}
use Rattle.chain.proofs.WorkedChains.{acttca_works}

-- the graph file has the graph `g1`, the anchor file over it (`listing_accepted`) the content `acttca`, and their result is the one listed
pub listing_files : (graph_of G1-file ≡ good (record { graph = g1; labels_at = 2; edges_at = 14; paths_at = 23 }))
    × (G1 ≡ G1-file)
    × (set1 ≡ acttca)
    × Works g1 acttca acttca_result
listing_files = (G1-accepted, refl, refl, acttca_works)
