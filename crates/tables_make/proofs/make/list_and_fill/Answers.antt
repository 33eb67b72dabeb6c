use lib.ListN.{length}
use mathlib.Core.Path.{◌≡◌, sym, ap, ◌∙◌}
use Rattle.tables_make.specs.Made.{InBuffers}
use Rattle.tables_make.proofs.Meaning.{holds-held, linked_on}
use Rattle.tables_make.proofs.make.list_and_fill.Goals as goal

pub list_by_target-requires-clause-held : goal.list_by_target-requires-clause-held
list_by_target-requires-clause-held c =
    let n : length c.args.heads.now ≡ c.content.inside.n = c.requires.heads_len.0 ∙ sym (ap (λ (b : InBuffers). b.n) c.content.view_is) in
    let m : length c.args.nexts.now ≡ c.content.inside.m = c.requires.heads_len.1 ∙ sym (ap (λ (b : InBuffers). b.m) c.content.view_is) in
    rw (n, m) (holds-held c.content.invariant.holds)

pub new-edges-requires : goal.new-edges-requires
new-edges-requires c =
    let n : length c.args.heads.now ≡ c.content.inside.n = c.requires.heads_len.0 ∙ sym (ap (λ (b : InBuffers). b.n) c.content.view_is) in
    let m : length c.args.nexts.now ≡ c.content.inside.m = c.requires.heads_len.1 ∙ sym (ap (λ (b : InBuffers). b.m) c.content.view_is) in
    linked_on c.list_by_target.new.heads c.list_by_target.new.nexts c.list_by_target.auto.heads c.list_by_target.auto.nexts (rw (n, m) (holds-held c.content.invariant.holds)) c.list_by_target.ensures
