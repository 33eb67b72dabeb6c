-- "number 0 exactly when every file rule holds": which files are accepted, with which content.
-- Assumes nothing.
use Prim.Native.Nat.{ℕ, ◌≤◌}
use mathlib.Core.Path.{◌≡◌, sym, ap, ◌∙◌, subst}
use mathlib.Core.List.{List}
use native.Mathlib.Omega.{arith}
use lib.ListN.{length}
use Rattle.wire.specs.Found.{good, fault}
use Rattle.wire.specs.Sizes.{most_file_bytes}
use Rattle.wire.proofs.NumberLaws.{Bytes}
use Rattle.graph.specs.Content.{Graph}
use Rattle.graph.specs.Good.{GoodGraph}
use Rattle.graph.specs.Encode.{encode_graph}
use Rattle.graph.specs.Reading.{Parsed, graph_of}
use Rattle.graph.specs.Placed.{parsed_of}
use Rattle.graph.proofs.Whole.{taken}
use Rattle.graph.proofs.RereadWhole.{graph_again, encode-one-graph}

-- a file that keeps every rule: the bytes of a good graph, and no more than a file may have
pub record GoodFile (s : List ℕ) (g : Graph) : Type 0 where
  pub bytes : s ≡ encode_graph g
  pub short : length s ≤ most_file_bytes
  pub rules : GoodGraph g

-- every accepted file keeps the rules, with the content that was read
pub accepted_keeps : (s : List ℕ) (p : Parsed) → Bytes s → graph_of s ≡ good p → GoodFile s p.graph
accepted_keeps s p b e = let t = taken s p b e in record { bytes = t.bytes; short = t.short; rules = t.rules }

-- every file that keeps the rules is accepted, and its content is read
pub keeps_accepted : (s : List ℕ) (g : Graph) → GoodFile s g → graph_of s ≡ good (parsed_of g)
keeps_accepted s g t =
    ap graph_of t.bytes ∙ graph_again g t.rules (subst (λ (u : List ℕ). length u ≤ most_file_bytes) t.bytes t.short)

-- a file has one content
pub one-content : (s : List ℕ) (g h : Graph) → GoodFile s g → GoodFile s h → g ≡ h
one-content s g h t u = encode-one-graph g h t.rules u.rules (sym t.bytes ∙ u.bytes)

-- a file that is refused keeps not every rule, whatever its content
pub refused_breaks : (s : List ℕ) (k place : ℕ) (g : Graph) → graph_of s ≡ fault k place → GoodFile s g → ⊥
refused_breaks s k place g e t =
    let f = sym (keeps_accepted s g t) ∙ e in
    let z : ◌≡◌ {A = ℕ} 0 1 = cc in
    omega arith
