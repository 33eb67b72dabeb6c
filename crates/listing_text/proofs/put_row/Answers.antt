use mathlib.Core.Path.{refl, sym}
use mathlib.Core.List.{[], ◌∷◌, append-nil}
use native.Mathlib.Omega.{arith}
use Rattle.graph_bytes.proofs.Along.{along-none, along_as, along-within, along-done}
use Rattle.decimal_text.specs.Decimal.{decimal}
use Rattle.decimal_text.specs.Words.{space}
use Rattle.decimal_text.proofs.Each.{each_lent, each_more, each_past}
use Rattle.listing_text.proofs.put_row.Goals as goal

pub loop-n-init : goal.loop-n-init
loop-n-init c = along_as _ (sym (append-nil _)) (along-none _ _ c.requires)

pub slice_bounds-put_spaced-count : goal.slice_bounds-put_spaced-count
slice_bounds-put_spaced-count c = along-within c.loop-n.invariant

pub put_spaced-at-requires : goal.put_spaced-at-requires
put_spaced-at-requires c = each_lent (λ n. space ∷ decimal n) 0 c.args.numbers.now [] c.loop-n.n-index (omega arith) c.loop-n.invariant

pub loop-n-preserved : goal.loop-n-preserved
loop-n-preserved c =
    let e = c.put_spaced-at.ensures in
    each_more (λ n. space ∷ decimal n) 0 c.args.numbers.now [] c.loop-n.n-index (omega arith) c.loop-n.invariant _ _ e.0 e.1

pub returns : goal.returns
returns c =
    along-done _ [] _ _ _ (each_past (λ n. space ∷ decimal n) c.args.numbers.now [] c.loop-n.n-index (omega arith) c.loop-n.invariant) refl
