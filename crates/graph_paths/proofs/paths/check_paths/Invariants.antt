use Prim.Native.Nat.{◌-◌}
use mathlib.Core.Path.{◌≡◌}
use lib.ListN.{length}
use Rattle.graph_paths.specs.PathAnswers.{edges_in}
use Rattle.graph_paths.proofs.Walking.{Walked, Walking}
use Rattle.graph_paths.proofs.paths.check_paths.Given as goal

abbrev pub invariant-loop : goal.invariant-loop
invariant-loop l =
    Walked l.n (edges_in l.n l.m l.file l.edges) l.k l.file l.fn.cursor.at l.flags l.next.at (l.k - l.counter) × (length l.flags ≡ length l.fn.flags)

abbrev pub invariant-loop-2 : goal.invariant-loop-2
invariant-loop-2 l =
    Walking l.n (edges_in l.n l.m l.file l.edges) l.k l.file l.fn.cursor.at (l.k - l.counter-2) l.flags l.next.at (l.count - l.counter) l.last l.step.at l.step.left × (length l.flags ≡ length l.fn.flags)
