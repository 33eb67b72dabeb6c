use lib.ListN.{length}
use lib.Seq.{length-take-le}
use Prim.Native.Nat.{◌*◌, ◌≤◌}
use mathlib.Core.Path.{◌≡◌, sym, ap, ◌∙◌}
use native.Mathlib.Omega.{arith}
use Rattle.wire.specs.Sizes.{full_table, full_closed, most_vertices}
use Rattle.tables_make.specs.Made.{InBuffers, made}
use Rattle.tables_make.proofs.Meaning.{holds-held}
use Rattle.tables.proofs.Tabling.{laid_part, tabled}
use Rattle.tables.proofs.lay_tables.Goals as goal

pub returns : goal.returns
returns c =
    λ g H e.
    let a = c.args in
    let n = c.content.inside.n in
    let few : n ≤ most_vertices = (holds-held c.content.invariant.holds).few_vertices in
    let m = c.make_tables-made in
    let lx : length m.new.reach ≡ 16 * n = m.auto.reach ∙ length-take-le (16 * n) a.reach.now (omega arith) in
    let ly : length m.new.distance ≡ 16 * n = m.auto.distance ∙ length-take-le (16 * n) a.distance.now (omega arith) in
    let lz : length m.new.closed ≡ n = m.auto.closed ∙ length-take-le n a.closed.now (omega arith) in
    tabled (record { reach = a.reach.now; distance = a.distance.now; closed = a.closed.now }) (made m.new.reach m.new.distance m.new.closed m.result) (m.ensures g H)
    (c.zero_rest.ensures ∙ laid_part full_table (16 * n) m.new.reach a.reach.now lx (omega arith))
    (c.zero_rest-2.ensures ∙ laid_part full_table (16 * n) m.new.distance a.distance.now ly (omega arith))
    (c.zero_rest-3.ensures ∙ laid_part full_closed n m.new.closed a.closed.now lz (omega arith))
    (ap (λ (b : InBuffers). b.n) c.content.view_is ∙ sym H.vertices) e
