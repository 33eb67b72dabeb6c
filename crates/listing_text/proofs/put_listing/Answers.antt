use mathlib.Core.Path.{refl}
use lib.ListN.{length-drop}
use native.Mathlib.Nat.{le_trans}
use native.Mathlib.Omega.{arith}
use Rattle.wire.proofs.Rest.{rest_part}
use Rattle.graph_bytes.proofs.Along.{along-first, along-room, along-within}
use Rattle.decimal_text.proofs.Ending.{along-last}
use Rattle.listing_lines.specs.Lines.{found_line}
use Rattle.listing_text.specs.Lines.{lines_in}
use Rattle.listing_text.proofs.Rooms.{listing_most}
use Rattle.listing_text.proofs.put_listing.Goals as goal

pub put_found-at-requires : goal.put_found-at-requires
put_found-at-requires c = omega (arith, c.requires.0)

pub slice_bounds-put_lines-count : goal.slice_bounds-put_lines-count
slice_bounds-put_lines-count c =
    let a = c.args in
    let t = c.type_inv in
    let p = c.put_found-at in
    let most = listing_most a.count a.score a.rounds a.numbers.now a.scores.now a.chain.now (omega arith) (omega arith) (omega arith) t.numbers t.scores t.chain c.requires.1 in
    along-within (along-first _ (found_line a.count a.score a.rounds) (lines_in a.numbers.now a.scores.now a.chain.now) a.out.now _ _ refl (le_trans most c.requires.0) p.ensures.0 p.ensures.1)

pub put_lines-at-requires-clause-chain_in_bounds : goal.put_lines-at-requires-clause-chain_in_bounds
put_lines-at-requires-clause-chain_in_bounds c =
    let a = c.args in
    let t = c.type_inv in
    let p = c.put_found-at in
    let most = listing_most a.count a.score a.rounds a.numbers.now a.scores.now a.chain.now (omega arith) (omega arith) (omega arith) t.numbers t.scores t.chain c.requires.1 in
    let along = along-first _ (found_line a.count a.score a.rounds) (lines_in a.numbers.now a.scores.now a.chain.now) a.out.now _ _ refl (le_trans most c.requires.0) p.ensures.0 p.ensures.1 in
    rw (rest_part, length-drop) (omega (arith, along-room along))

pub returns : goal.returns
returns c =
    let a = c.args in
    let t = c.type_inv in
    let p = c.put_found-at in
    let most = listing_most a.count a.score a.rounds a.numbers.now a.scores.now a.chain.now (omega arith) (omega arith) (omega arith) t.numbers t.scores t.chain c.requires.1 in
    let along = along-first _ (found_line a.count a.score a.rounds) (lines_in a.numbers.now a.scores.now a.chain.now) a.out.now _ _ refl (le_trans most c.requires.0) p.ensures.0 p.ensures.1 in
    along-last _ _ _ _ c.put_lines-at.new.out _ _ along c.put_lines-at.ensures.0 c.put_lines-at.ensures.1
