use mathlib.Core.Path.{refl, sym}
use mathlib.Core.List.{[], append-nil}
use native.Mathlib.Omega.{arith}
use Rattle.graph_bytes.proofs.Along.{along-none, along_as, along-within, along-done}
use Rattle.decimal_text.proofs.Each.{each_lent, each_more, each_past}
use Rattle.listing_text.specs.Lines.{line_in}
use Rattle.listing_text.proofs.put_lines.Goals as goal

pub loop-number-init : goal.loop-number-init
loop-number-init c = along_as _ (sym (append-nil _)) (along-none _ _ c.requires.chain_in_bounds)

pub slice_bounds-put_line-count : goal.slice_bounds-put_line-count
slice_bounds-put_line-count c = along-within c.loop-number.invariant

pub put_line-at-requires : goal.put_line-at-requires
put_line-at-requires c =
    let a = c.args.anchors.now in
    let l = c.loop-number in
    record {
      held_at = c.requires.numbered l.number-index (omega arith);
      number_in_bounds = each_lent (line_in a.numbers.now a.scores.now) 0 c.args.chain.now [] l.number-index (omega arith) l.invariant;
    }

pub loop-number-preserved : goal.loop-number-preserved
loop-number-preserved c =
    let a = c.args.anchors.now in
    let l = c.loop-number in
    let e = c.put_line-at.ensures in
    each_more (line_in a.numbers.now a.scores.now) 0 c.args.chain.now [] l.number-index (omega arith) l.invariant _ _ e.0 e.1

pub returns : goal.returns
returns c =
    let a = c.args.anchors.now in
    let l = c.loop-number in
    along-done _ [] _ _ _ (each_past (line_in a.numbers.now a.scores.now) c.args.chain.now [] l.number-index (omega arith) l.invariant) refl
