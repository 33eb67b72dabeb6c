use mathlib.Core.Path.{sym}
use lib.ListN.{length-take}
use lib.Seq.{length-take-le}
use native.Mathlib.Omega.{arith}
use Rattle.listing_result.proofs.Same.{shown-fits, shown_numbered, shown-printed}
use Rattle.listing_result.proofs.put_result.Goals as goal

pub slice_bounds-put_listing-end : goal.slice_bounds-put_listing-end
slice_bounds-put_listing-end c =
    let S = c.requires.some_shown.shown in
    sym (length-take-le _ _ (omega (arith, shown-fits _ _ _ _ _ _ _ _ _ S, S.chain_room)))

pub put_listing-requires : goal.put_listing-requires
put_listing-requires c =
    let p = c.requires in
    let S = p.some_shown.shown in
    (p.listing_room_in_bounds, rw length-take (omega (arith, S.chain_room)), shown_numbered _ _ _ _ _ _ _ _ _ S)

pub returns : goal.returns
returns c = let p = c.put_listing.ensures in λ l t S. shown-printed l t _ _ _ _ _ _ _ S _ _ _ p.0 p.1
