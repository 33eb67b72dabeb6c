use Prim.Native.Nat.{ℕ}
use mathlib.Core.List.{List}
use Rattle.rounds.specs.Rounds.{Rounds}
use Rattle.rounds.proofs.Upto.{within}
use Rattle.table_rounds.specs.Held.{onward, onward_round, Settling}
use Rattle.closed_rounds.proofs.Closes.{settling-last, closes-none, closes_past, closes-more, closes-all}
use mathlib.Core.Path.{sym, ◌∙◌, subst}
use native.Mathlib.Omega.{arith}
use Rattle.closed_rounds.proofs.closed.close_sixteen.Goals as goal
use Rattle.closed_rounds.proofs.closed.close_sixteen.Goals.{else-v-n, then-v-n}

pub start_sixteen-requires : goal.start_sixteen-requires
start_sixteen-requires c = (omega (arith, c.args.edges.now.held.few_vertices), omega arith, omega arith)

pub settle-requires : goal.settle-requires
settle-requires c =
    let e = c.args.edges.now in
    let l = c.args.walks.now.lengths.now in
    let S = subst (Settling e.n l (onward e.m l e.list)) (sym (rw c.vertices-n.ensures at c.start_sixteen.ensures)) (c.requires.closable.settling c.args.base (omega arith)) in
    record { table_len = c.start_sixteen.auto.table ∙ c.requires.table_len; ends = S.ends; fits = λ k v h. (c.requires.labelled.0, S.fitting k v h) }

pub loop-i-init : goal.loop-i-init
loop-i-init c = (omega arith, closes-none)

pub walk_back-requires : goal.walk_back-requires
walk_back-requires c =
    let e = c.args.edges.now in
    let l = c.args.walks.now.lengths.now in
    record {
      labelled = c.requires.labelled.0;
      table_len = c.settle.auto.table ∙ c.start_sixteen.auto.table ∙ c.requires.table_len;
      fitting = settling-last (c.requires.closable.settling c.args.base (omega arith)) (omega arith) (subst (λ (s : List ℕ). Rounds (onward_round e.n e.m l e.list) s c.settle.result c.settle.new.table) (rw c.vertices-n.ensures at c.start_sixteen.ensures) c.settle.ensures);
      within = within (omega arith) (omega arith);
      i_lt_table_row = omega arith;
    }

pub loop-i-preserved : goal.loop-i-preserved
loop-i-preserved c = (
  omega arith,
  (elim c.if-v-n.branch [
    | then-v-n w ↦ rw w.closed-is (closes-more w.walk_back.result (omega (arith, c.loop-i.invariant.1.long, w.if-v-n.true, c.requires.labelled.1)) w.walk_back.ensures c.loop-i.invariant.1)
    | else-v-n w ↦ rw w.closed-is (closes_past (omega arith) c.loop-i.invariant.1)
  ]),
)

pub returns : goal.returns
returns c =
    let e = c.args.edges.now in
    let l = c.args.walks.now.lengths.now in
    record {
      by_index = c.loop-i.invariant.1.before;
      by_index_2 = closes-all c.settle.result (omega arith) (subst (λ (s : List ℕ). Rounds (onward_round e.n e.m l e.list) s c.settle.result c.settle.new.table) (rw c.vertices-n.ensures at c.start_sixteen.ensures) c.settle.ensures) c.loop-i.invariant.1;
    }
