-- An edge of the code, as the definitions have it.
use Rattle.graph.specs.Content as content
use Rattle.graph_rules.specs.declared.rules.Edge.{Edge}

-- the edge that a struct holds
abbrev pub edge_of : Edge → content.Edge
edge_of e = record { from = e.from; to = e.to }
