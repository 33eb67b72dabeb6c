-- One anchor as the code holds it.
use Rattle.anchors.specs.Anchors.{Anchor}
use Rattle.anchors_rules.specs.declared.rules.Five.{Five}

-- the anchor of five numbers
abbrev pub anchor_of : Five → Anchor
anchor_of a = record { v = a.v; x = a.x; c = a.c; len = a.len; weight = a.weight }
