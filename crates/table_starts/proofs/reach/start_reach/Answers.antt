use Rattle.table_starts.proofs.Starts.{part_path, part_on}
use Rattle.rounds.proofs.Upto.{within}
use Rattle.table_starts.proofs.Starts.{owning_none, owning_more, owning_all, zero-laid}
use lib.ListN.{get_or}
use Prim.Native.Nat.{◌+◌, ◌-◌, ◌*◌, ◌≤◌}
use mathlib.Core.Path.{◌≡◌, refl, ◌∙◌}
use native.Mathlib.Omega.{arith}
use Rattle.table_starts.proofs.reach.start_reach.Goals as goal

pub zero_rest-requires : goal.zero_rest-requires
zero_rest-requires c = (omega arith, omega arith)

pub loop-i-init : goal.loop-i-init
loop-i-init c =
    (omega arith, owning_none _ _ _ _ (c.zero_rest.auto.out ∙ c.requires.n_le_most_vertices.1) (rw c.zero_rest.ensures (zero-laid (16 * c.args.n) c.args.table.now (omega arith))))

pub overflow_add-end : goal.overflow_add-end
overflow_add-end c = omega (
  arith,
  (let told : (get_or c.args.counts.now c.loop-i.i 0) ≤ 1024 = let e : c.loop-i.i + 1 - 1 ≡ c.loop-i.i = omega arith in
      rw e at (c.requires.paths_held.short (c.loop-i.i + 1) (within (omega arith) (omega arith))) in told),
)

pub slice_bounds-own_path-end : goal.slice_bounds-own_path-end
slice_bounds-own_path-end c = omega (
  arith,
  (let told : (get_or c.args.counts.now c.loop-i.i 0) ≤ 1024 = let e : c.loop-i.i + 1 - 1 ≡ c.loop-i.i = omega arith in
      rw e at (c.requires.paths_held.short (c.loop-i.i + 1) (within (omega arith) (omega arith))) in told),
)

pub own_path-requires : goal.own_path-requires
own_path-requires c =
    record { i_lt_table_row = omega arith; on_table = part_on _ c.loop-i.i c.requires.paths_held (omega arith) c.loop-i.invariant.1.long (part_path c.args.paths.now c.args.counts.now c.loop-i.i (get_or c.args.counts.now c.loop-i.i 0) refl); by_index = λ v. c.loop-i.invariant.1.zeros (16 * v + c.loop-i.i) (omega arith) }

pub loop-i-preserved : goal.loop-i-preserved
loop-i-preserved c =
    (omega arith, owning_more c.own_path.new.table _ (omega arith) (part_path c.args.paths.now c.args.counts.now c.loop-i.i (get_or c.args.counts.now c.loop-i.i 0) refl) c.loop-i.invariant.1 c.own_path.ensures)

pub returns : goal.returns
returns c = owning_all {i = c.loop-i.i} (omega arith) c.loop-i.invariant.1
