use Rattle.std.proofs.Common.{◌≡◌, ◌∙◌, length, take, arith, length-take-le}
use Rattle.graph_fill.specs.Filling.{one_number}
use Rattle.graph_fill.proofs.Items.{length-items}
use Rattle.graph_fill.proofs.Fronts.{rest-zeroed}
use Rattle.graph_fill.proofs.numbers.fill_numbers.Goals as goal

pub returns : goal.returns
returns c =
    let a = c.args in
    let e : length (take a.count a.room.now) ≡ a.count = length-take-le a.count a.room.now (omega arith) in
    let t = rw e at c.take_numbers-next.ensures in
    let l = length-items (one_number a.file.now) a.count a.start.at in
    (t.0, rest-zeroed c.take_numbers-next.new.out a.room.now c.fill.new.self a.count (rw t.1 l) (omega arith) (c.fill.ensures.after (λ y h. h)) ∙ rw t.1)
