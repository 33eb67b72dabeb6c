use Rattle.std.proofs.Common.{◌≡◌, refl, sym, ap, length, length-append, arith}
use Rattle.std.proofs.lemmas.List.{append-nil}
use Rattle.wire.specs.Sizes.{graph_kind}
use Rattle.wire.specs.Numbers.{encode}
use Rattle.graph.specs.Entries.{Given}
use Rattle.graph_bytes.proofs.Along.{along-first, along_as, along_lent, along-more, along-done}
use Rattle.graph_content.proofs.Encoded.{graph-bytes}
use Rattle.graph_content.proofs.Sound.{sound}
use Rattle.graph_file_bytes.proofs.put_graph.Goals as goal

pub put_number-at-requires : goal.put_number-at-requires
put_number-at-requires c =
    omega (arith, c.requires.room, simp length-append at (ap length (graph-bytes c.args.content.now)))

pub put_number-at-requires-2 : goal.put_number-at-requires-2
put_number-at-requires-2 c =
    let g = c.args.content.now in
    let p1 = c.put_number-at.ensures in
    let a1 = along-first _ (encode graph_kind) _ _ _ _ (graph-bytes g) c.requires.room p1.0 p1.1 in
    let n : c.content.inside.n ≡ g.n = ap (λ (h : Given). h.n) c.content.view_is in
    rw n (along_lent _ _ _ _ _ _ a1)

pub put_labels-at-requires-clause-few : goal.put_labels-at-requires-clause-few
put_labels-at-requires-clause-few c =
    (sound c.args.content.now c.requires.faultless).few_vertices

pub put_labels-at-requires-clause-faultless : goal.put_labels-at-requires-clause-faultless
put_labels-at-requires-clause-faultless c =
    (sound c.args.content.now c.requires.faultless).labels

pub put_labels-at-requires-clause-room : goal.put_labels-at-requires-clause-room
put_labels-at-requires-clause-room c =
    let g = c.args.content.now in
    let p1 = c.put_number-at.ensures in
    let a1 = along-first _ (encode graph_kind) _ _ _ _ (graph-bytes g) c.requires.room p1.0 p1.1 in
    let n : c.content.inside.n ≡ g.n = ap (λ (h : Given). h.n) c.content.view_is in
    let p2 = rw n at c.put_number-at-2.ensures in
    let a2 = along-more _ _ _ _ _ c.put_number-at-2.new.out _ c.put_number-at-2.result a1 p2.0 p2.1 in
    along_lent _ _ _ _ _ _ a2

pub put_number-at-requires-3 : goal.put_number-at-requires-3
put_number-at-requires-3 c =
    let g = c.args.content.now in
    let p1 = c.put_number-at.ensures in
    let a1 = along-first _ (encode graph_kind) _ _ _ _ (graph-bytes g) c.requires.room p1.0 p1.1 in
    let n : c.content.inside.n ≡ g.n = ap (λ (h : Given). h.n) c.content.view_is in
    let p2 = rw n at c.put_number-at-2.ensures in
    let a2 = along-more _ _ _ _ _ c.put_number-at-2.new.out _ c.put_number-at-2.result a1 p2.0 p2.1 in
    let p3 = c.put_labels-at.ensures in
    let a3 = along-more _ _ _ _ _ c.put_labels-at.new.out _ c.put_labels-at.result a2 p3.0 p3.1 in
    let m : c.content.inside.m ≡ g.m = ap (λ (h : Given). h.m) c.content.view_is in
    rw m (along_lent _ _ _ _ _ _ a3)

pub edge_numbers-requires : goal.edge_numbers-requires
edge_numbers-requires c =
    (sound c.args.content.now c.requires.faultless).few_edges

pub put_numbers-at-requires : goal.put_numbers-at-requires
put_numbers-at-requires c =
    let g = c.args.content.now in
    let p1 = c.put_number-at.ensures in
    let a1 = along-first _ (encode graph_kind) _ _ _ _ (graph-bytes g) c.requires.room p1.0 p1.1 in
    let n : c.content.inside.n ≡ g.n = ap (λ (h : Given). h.n) c.content.view_is in
    let p2 = rw n at c.put_number-at-2.ensures in
    let a2 = along-more _ _ _ _ _ c.put_number-at-2.new.out _ c.put_number-at-2.result a1 p2.0 p2.1 in
    let p3 = c.put_labels-at.ensures in
    let a3 = along-more _ _ _ _ _ c.put_labels-at.new.out _ c.put_labels-at.result a2 p3.0 p3.1 in
    let m : c.content.inside.m ≡ g.m = ap (λ (h : Given). h.m) c.content.view_is in
    let p4 = rw m at c.put_number-at-3.ensures in
    let a4 = along-more _ _ _ _ _ c.put_number-at-3.new.out _ c.put_number-at-3.result a3 p4.0 p4.1 in
    rw c.edge_numbers.ensures (along_lent _ _ _ _ _ _ a4)

pub put_number-at-requires-4 : goal.put_number-at-requires-4
put_number-at-requires-4 c =
    let g = c.args.content.now in
    let p1 = c.put_number-at.ensures in
    let a1 = along-first _ (encode graph_kind) _ _ _ _ (graph-bytes g) c.requires.room p1.0 p1.1 in
    let n : c.content.inside.n ≡ g.n = ap (λ (h : Given). h.n) c.content.view_is in
    let p2 = rw n at c.put_number-at-2.ensures in
    let a2 = along-more _ _ _ _ _ c.put_number-at-2.new.out _ c.put_number-at-2.result a1 p2.0 p2.1 in
    let p3 = c.put_labels-at.ensures in
    let a3 = along-more _ _ _ _ _ c.put_labels-at.new.out _ c.put_labels-at.result a2 p3.0 p3.1 in
    let m : c.content.inside.m ≡ g.m = ap (λ (h : Given). h.m) c.content.view_is in
    let p4 = rw m at c.put_number-at-3.ensures in
    let a4 = along-more _ _ _ _ _ c.put_number-at-3.new.out _ c.put_number-at-3.result a3 p4.0 p4.1 in
    let p5 = rw c.edge_numbers.ensures at c.put_numbers-at.ensures in
    let a5 = along-more _ _ _ _ _ c.put_numbers-at.new.out _ c.put_numbers-at.result a4 p5.0 p5.1 in
    let k : c.content.inside.k ≡ g.k = ap (λ (h : Given). h.k) c.content.view_is in
    rw k (along_lent _ _ _ _ _ _ a5)

pub put_paths-at-requires-clause-roomed : goal.put_paths-at-requires-clause-roomed
put_paths-at-requires-clause-roomed c =
    let sure = sound c.args.content.now c.requires.faultless in
    (sure.few_paths, sure.roomed)

pub put_paths-at-requires-clause-room : goal.put_paths-at-requires-clause-room
put_paths-at-requires-clause-room c =
    let g = c.args.content.now in
    let p1 = c.put_number-at.ensures in
    let a1 = along-first _ (encode graph_kind) _ _ _ _ (graph-bytes g) c.requires.room p1.0 p1.1 in
    let n : c.content.inside.n ≡ g.n = ap (λ (h : Given). h.n) c.content.view_is in
    let p2 = rw n at c.put_number-at-2.ensures in
    let a2 = along-more _ _ _ _ _ c.put_number-at-2.new.out _ c.put_number-at-2.result a1 p2.0 p2.1 in
    let p3 = c.put_labels-at.ensures in
    let a3 = along-more _ _ _ _ _ c.put_labels-at.new.out _ c.put_labels-at.result a2 p3.0 p3.1 in
    let m : c.content.inside.m ≡ g.m = ap (λ (h : Given). h.m) c.content.view_is in
    let p4 = rw m at c.put_number-at-3.ensures in
    let a4 = along-more _ _ _ _ _ c.put_number-at-3.new.out _ c.put_number-at-3.result a3 p4.0 p4.1 in
    let p5 = rw c.edge_numbers.ensures at c.put_numbers-at.ensures in
    let a5 = along-more _ _ _ _ _ c.put_numbers-at.new.out _ c.put_numbers-at.result a4 p5.0 p5.1 in
    let k : c.content.inside.k ≡ g.k = ap (λ (h : Given). h.k) c.content.view_is in
    let p6 = rw k at c.put_number-at-4.ensures in
    let a6 = along_as _ (sym (append-nil _)) (along-more _ _ _ _ _ c.put_number-at-4.new.out _ c.put_number-at-4.result a5 p6.0 p6.1) in
    along_lent _ _ _ _ _ _ a6

pub returns : goal.returns
returns c =
    let g = c.args.content.now in
    let p1 = c.put_number-at.ensures in
    let a1 = along-first _ (encode graph_kind) _ _ _ _ (graph-bytes g) c.requires.room p1.0 p1.1 in
    let n : c.content.inside.n ≡ g.n = ap (λ (h : Given). h.n) c.content.view_is in
    let p2 = rw n at c.put_number-at-2.ensures in
    let a2 = along-more _ _ _ _ _ c.put_number-at-2.new.out _ c.put_number-at-2.result a1 p2.0 p2.1 in
    let p3 = c.put_labels-at.ensures in
    let a3 = along-more _ _ _ _ _ c.put_labels-at.new.out _ c.put_labels-at.result a2 p3.0 p3.1 in
    let m : c.content.inside.m ≡ g.m = ap (λ (h : Given). h.m) c.content.view_is in
    let p4 = rw m at c.put_number-at-3.ensures in
    let a4 = along-more _ _ _ _ _ c.put_number-at-3.new.out _ c.put_number-at-3.result a3 p4.0 p4.1 in
    let p5 = rw c.edge_numbers.ensures at c.put_numbers-at.ensures in
    let a5 = along-more _ _ _ _ _ c.put_numbers-at.new.out _ c.put_numbers-at.result a4 p5.0 p5.1 in
    let k : c.content.inside.k ≡ g.k = ap (λ (h : Given). h.k) c.content.view_is in
    let p6 = rw k at c.put_number-at-4.ensures in
    let a6 = along_as _ (sym (append-nil _)) (along-more _ _ _ _ _ c.put_number-at-4.new.out _ c.put_number-at-4.result a5 p6.0 p6.1) in
    let p7 = c.put_paths-at.ensures in
    let a7 = along-more _ _ _ _ _ c.put_paths-at.new.out _ c.put_paths-at.result a6 p7.0 p7.1 in
    along-done _ _ _ _ _ a7 refl
