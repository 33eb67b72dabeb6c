-- An accepted anchor file: its bytes are the encoding of its content, and every file rule holds.
-- Assumes nothing.
use Prim.Native.Nat.{ℕ, ◌+◌, ◌≤◌}
use mathlib.Core.Path.{◌≡◌, ap, ap₂, ◌∙◌}
use mathlib.Core.List.{List, ◌++◌, append-nil}
use native.Mathlib.Omega.{arith}
use lib.ListN.{length}
use lib.Seq.{drop-length}
use Rattle.wire.specs.Found.{good}
use Rattle.wire.specs.Numbers.{encode}
use Rattle.wire.specs.Sizes.{anchor_kind, most_file_bytes}
use Rattle.wire.proofs.NumberLaws.{Bytes, number-value, number-within}
use Rattle.graph.specs.Content.{Graph}
use Rattle.graph.proofs.Accepting.{letters-read, next_tail}
use Rattle.anchors.specs.Anchors.{read_length, anchor_count}
use Rattle.anchors.specs.AnchorRules.{no_anchor}
use Rattle.anchors.specs.AnchorBytes.{encode_each, encode_anchors}
use Rattle.anchors.specs.AnchorReading.{ParsedAnchors, whole_anchors, anchors_of}
use Rattle.anchors.specs.AnchorPlaces.{read_start, anchors_start, parsed_anchors}
use Rattle.anchors.specs.GoodAnchors.{GoodAnchors, KeyBelow}
use Rattle.anchors.proofs.AnchorAccepting.{whole_parts, not-long, anchor_parts, anchors-read}

-- what is known of an accepted file
pub record AnchorsTaken (g : Graph) (s : List ℕ) (q : ParsedAnchors) : Type 0 where
  pub bytes : s ≡ encode_anchors q.set
  pub short : length s ≤ most_file_bytes
  pub rules : GoodAnchors g q.set
  pub places : q ≡ parsed_anchors q.set

-- every rule of the content holds of what was read
pub whole_good : (g : Graph) (s : List ℕ) (q : ParsedAnchors) → whole_anchors g s ≡ good q → GoodAnchors g q.set
whole_good g s q e =
    let p = whole_parts g s q e in
    let w = number-within s p.length_at (read_length q.set) _ p.length_is in
    let l = letters-read (read_length q.set) s q.read_at q.set.read w.1 p.read_is in
    let i = anchors-read g q.set.read (anchor_count q.set) no_anchor s q.anchors_at _ p.anchors_within p.anchors_is in
    record {
      some_read = p.some_read;
      few_read = p.few_read;
      letters = l.letters;
      few_anchors = p.few_anchors;
      each = i.each;
      rise = next_tail KeyBelow no_anchor q.set.anchors i.rise;
    }

pub accepted-good : (g : Graph) (s : List ℕ) (q : ParsedAnchors) → anchors_of g s ≡ good q → GoodAnchors g q.set
accepted-good g s q e = whole_good g s q (not-long g s q e).1

-- its bytes are the encoding, and its parts start where the encoding has them
pub anchors-taken : (g : Graph) (s : List ℕ) (q : ParsedAnchors) → Bytes s → anchors_of g s ≡ good q → AnchorsTaken g s q
unfolding encode_anchors
anchors-taken g s q b e =
    let r : ℕ = read_length q.set in
    let n : ℕ = anchor_count q.set in
    let p = anchor_parts g s q e in
    let k = number-value s 0 anchor_kind _ b p.kind_is in
    let w = number-value s p.length_at r _ b p.length_is in
    let l = letters-read r s q.read_at q.set.read w.within p.read_is in
    let c = number-value s (q.read_at + r) n _ b p.count_is in
    let i = anchors-read g q.set.read n no_anchor s q.anchors_at _ p.anchors_within p.anchors_is in
    let kn = k.next in
    let wn = w.next in
    let cn = c.next in
    let x : q.read_at ≡ read_start q.set = omega arith in
    let y : q.anchors_at ≡ anchors_start q.set = omega arith in
    record {
      bytes = k.suffix
          ∙ ap (λ (t : List ℕ). encode anchor_kind ++ t) (w.suffix
          ∙ ap (λ (t : List ℕ). encode r ++ t) (l.bytes
          ∙ ap (λ (t : List ℕ). q.set.read ++ t) (c.suffix
          ∙ ap (λ (t : List ℕ). encode n ++ t) (i.bytes b
          ∙ ap (λ (t : List ℕ). encode_each q.set.anchors ++ t) (drop-length s)
          ∙ append-nil (encode_each q.set.anchors)))));
      short = (not-long g s q e).0;
      rules = accepted-good g s q e;
      places = ap₂ (λ (a c : ℕ). record { set = q.set; read_at = a; anchors_at = c }) x y;
    }
