use Rattle.std.proofs.Common.{ℕ, List, ◌*◌, ap, ◌∙◌, length, arith}
use Rattle.wire.specs.Sizes.{graph_kind}
use Rattle.wire.proofs.Encoding.{encode_most}
use Rattle.graph.specs.Encode.{encode_numbers}
use Rattle.graph.specs.Entries.{Given, numbers_in}
use Rattle.graph_content.proofs.Encoded.{numbers_most, length-numbers, graph-length}
use Rattle.graph_content.proofs.Sound.{sound}
use Rattle.graph_file_bytes.proofs.graph_size.Goals as goal

pub overflow_add-labels : goal.overflow_add-labels
overflow_add-labels c =
    let v = c.content.view_is in
    let n = encode_most c.content.inside.n in
    let m = encode_most c.content.inside.m in
    let k = encode_most c.content.inside.k in
    let kind = encode_most graph_kind in
    omega arith

pub labels_size-requires : goal.labels_size-requires
labels_size-requires c =
    (sound c.args.content.now c.requires.faultless).few_vertices

pub overflow_add-labels-2 : goal.overflow_add-labels-2
overflow_add-labels-2 c =
    let v = c.content.view_is in
    let n = encode_most c.content.inside.n in
    let m = encode_most c.content.inside.m in
    let k = encode_most c.content.inside.k in
    let kind = encode_most graph_kind in
    omega arith

pub edge_numbers-requires : goal.edge_numbers-requires
edge_numbers-requires c =
    (sound c.args.content.now c.requires.faultless).few_edges

pub overflow_add-edges : goal.overflow_add-edges
overflow_add-edges c =
    let g = c.args.content.now in
    let sure = sound g c.requires.faultless in
    let v = c.content.view_is in
    let n = encode_most c.content.inside.n in
    let m = encode_most c.content.inside.m in
    let k = encode_most c.content.inside.k in
    let kind = encode_most graph_kind in
    let e = c.numbers_size.ensures ∙ ap (λ (t : List ℕ). length (encode_numbers t)) c.edge_numbers.ensures in
    let most = numbers_most (numbers_in (2 * g.m) 0 g.buffers.edges) in
    let many = length-numbers (2 * g.m) 0 g.buffers.edges in
    omega (arith, sure.few_edges)

pub overflow_add-result : goal.overflow_add-result
overflow_add-result c =
    let g = c.args.content.now in
    let sure = sound g c.requires.faultless in
    let v = c.content.view_is in
    let n = encode_most c.content.inside.n in
    let m = encode_most c.content.inside.m in
    let k = encode_most c.content.inside.k in
    let kind = encode_most graph_kind in
    let e = c.numbers_size.ensures ∙ ap (λ (t : List ℕ). length (encode_numbers t)) c.edge_numbers.ensures in
    let most = numbers_most (numbers_in (2 * g.m) 0 g.buffers.edges) in
    let many = length-numbers (2 * g.m) 0 g.buffers.edges in
    omega (arith, sure.few_edges)

pub overflow_add-result-2 : goal.overflow_add-result-2
overflow_add-result-2 c =
    let g = c.args.content.now in
    let sure = sound g c.requires.faultless in
    let v = c.content.view_is in
    let n = encode_most c.content.inside.n in
    let m = encode_most c.content.inside.m in
    let k = encode_most c.content.inside.k in
    let kind = encode_most graph_kind in
    let e = c.numbers_size.ensures ∙ ap (λ (t : List ℕ). length (encode_numbers t)) c.edge_numbers.ensures in
    let most = numbers_most (numbers_in (2 * g.m) 0 g.buffers.edges) in
    let many = length-numbers (2 * g.m) 0 g.buffers.edges in
    omega (arith, sure.few_edges)

pub paths_size-requires : goal.paths_size-requires
paths_size-requires c =
    let sure = sound c.args.content.now c.requires.faultless in
    (sure.few_paths, sure.roomed)

pub overflow_add-result-3 : goal.overflow_add-result-3
overflow_add-result-3 c =
    let g = c.args.content.now in
    let sure = sound g c.requires.faultless in
    let v = c.content.view_is in
    let n = encode_most c.content.inside.n in
    let m = encode_most c.content.inside.m in
    let k = encode_most c.content.inside.k in
    let kind = encode_most graph_kind in
    let e = c.numbers_size.ensures ∙ ap (λ (t : List ℕ). length (encode_numbers t)) c.edge_numbers.ensures in
    let most = numbers_most (numbers_in (2 * g.m) 0 g.buffers.edges) in
    let many = length-numbers (2 * g.m) 0 g.buffers.edges in
    omega (arith, sure.few_edges)

pub returns : goal.returns
returns c =
    let g = c.args.content.now in
    let e = c.numbers_size.ensures ∙ ap (λ (t : List ℕ). length (encode_numbers t)) c.edge_numbers.ensures in
    let v = c.content.view_is in
    let n = rw (ap (λ (h : Given). h.n) v) at c.group_count-2.ensures in
    let m = rw (ap (λ (h : Given). h.m) v) at c.group_count-3.ensures in
    let k = rw (ap (λ (h : Given). h.k) v) at c.group_count-4.ensures in
    omega (arith, e, n, m, k, graph-length g)
