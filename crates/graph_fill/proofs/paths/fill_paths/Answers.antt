use Rattle.std.proofs.Common.{ℕ, ◌≡◌, ◌∙◌, ◌*◌, length, map, arith, length-take}
use Rattle.std.proofs.lemmas.List.{length-map}
use Rattle.wire.specs.Sizes.{path_room, full_paths, full_counts}
use Rattle.wire.proofs.Laying.{laid-after}
use Rattle.graph.specs.Content.{path_numbers}
use Rattle.graph_fill.specs.Filling.{one_path, paths_in}
use Rattle.graph_fill.proofs.Items.{length-items}
use Rattle.graph_fill.proofs.Fronts.{part-written}
use Rattle.graph_fill.proofs.PathRooms.{paths-none, path-fits, rooms-before, room-fits, paths-more}
use Rattle.graph_fill.proofs.paths.fill_paths.Goals as goal

pub loop-i-init : goal.loop-i-init
loop-i-init c =
    let a = c.args in
    paths-none a.file.now a.start a.paths.now _

pub fill_numbers-cursor-requires : goal.fill_numbers-cursor-requires
fill_numbers-cursor-requires c =
    let l = c.loop-i in
    let a = c.args in
    room-fits _ _ _ l.paths (omega arith) (omega (arith, length-take {A = ℕ}))
    (path-fits a.file.now a.start a.k c.requires.all l.cursor.at l.i _ (omega (arith, length-take {A = ℕ})) l.invariant.place c.take_number-count.ensures.0)

pub loop-i-preserved : goal.loop-i-preserved
loop-i-preserved c =
    let l = c.loop-i in
    let a = c.args in
    let t = c.take_number-count.ensures in
    let p = c.fill_numbers-cursor.ensures in
    paths-more a.file.now a.start a.k c.requires.all a.paths.now _ l.paths l.place-items _ l.cursor.at l.i _ _ _ _ _
    (omega (arith, length-take {A = ℕ}))
    (omega arith)
    (omega arith)
    (omega arith)
    (omega (arith, length-take {A = ℕ}))
    t.0
    t.1
    p.0
    p.1
    l.invariant

pub returns : goal.returns
returns c =
    let l = c.loop-i in
    let a = c.args in
    let s = a.file.now in
    let e : l.i ≡ a.k = omega (arith, length-take {A = ℕ}) in
    let all = (paths_in s a.k a.start).content in
    let long = length-map all length ∙ length-items (one_path s) a.k a.start in (
      c.zero_rest.ensures
          ∙ laid-after full_paths (path_numbers all) l.paths a.paths.now (path_room * a.k) (rooms-before s a.start a.k c.requires.all a.k (omega arith)) (omega arith) (l.invariant.rooms ∙ rw e),
      c.zero_rest-2.ensures
          ∙ laid-after full_counts (map length all) _ a.counts.now a.k long (omega arith)
          (part-written (map length all) a.counts.now l.place-items a.k (omega arith) long (l.invariant.numbers ∙ rw e)),
    )
