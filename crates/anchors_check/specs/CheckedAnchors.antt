-- What the checks answer: "If the answer is an enum, a definition gives this paper's number and values for each of its cases."
use Rattle.wire.specs.Found.{Found, good, fault, Reply, accepted, refused}
use Rattle.graph_check.specs.Checked.{sections_of}
use Rattle.graph_check.specs.declared.Sections.{Sections}
use Rattle.anchors.specs.Anchors.{read_length, anchor_count}
use Rattle.anchors.specs.AnchorReading.{ParsedAnchors}
use Rattle.anchors.specs.AnchorEntries.{Both}
use Rattle.anchors_check.specs.declared.AnchorSections.{AnchorSections}

-- r and N of an accepted file, and where the read's letters and the anchors start
abbrev pub anchor_sections_of : ParsedAnchors → AnchorSections
anchor_sections_of p = record {
  r = read_length p.set;
  read = p.read_at;
  n = anchor_count p.set;
  anchors = p.anchors_at;
}

-- the sections of an accepted file, or the fault's number and place
abbrev pub checked_anchors_of : Found ParsedAnchors → Found AnchorSections
checked_anchors_of (good p) = good (anchor_sections_of p)
checked_anchors_of (fault k place) = fault k place

-- the sections of both files, accepted, or the refusal's number, file and place
abbrev pub checked_both_of : Reply Both → Reply (Sections × AnchorSections)
checked_both_of (accepted p) = accepted (sections_of p.graph, anchor_sections_of p.anchors)
checked_both_of (refused k file place) = refused k file place
