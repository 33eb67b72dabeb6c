-- What a path's vertex alone says, beside whether the step to it is an edge.
use Rattle.std.specs.Prelude.{ℕ, ltb}
use Rattle.wire.specs.Cases.{pick}
use Rattle.wire.specs.Refusals.{no_vertex, not_rising}
use Rattle.graph.specs.Rules.{is_vertex}

-- "A path's vertex: 6, 7": the vertex before it is `last`, or 0
abbrev pub rise_fault : ℕ → ℕ → ℕ → ℕ
rise_fault n last v = pick (is_vertex n v) (pick (ltb last v) 0 not_rising) no_vertex
