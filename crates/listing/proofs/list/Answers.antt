use mathlib.Core.Path.{◌≡◌, sym}
use mathlib.Core.Bool.{true}
use lib.ListN.{length}
use native.Mathlib.Omega.{arith}
use native.Mathlib.Nat.{le_of_eq}
use Rattle.wire.specs.Sizes.{full_anchors, full_scores, full_chain}
use Rattle.wire_lent.proofs.Rooms.{room-long}
use Rattle.listing_result.specs.Showing.{SomeShown}
use Rattle.anchors.specs.AnchorEntries.{roomy_anchors}
use Rattle.chain.specs.ChainEntries.{roomy_chain}
use Rattle.placing.proofs.Reading.{full_anchors_lem}
use Rattle.listing.proofs.Showing.{Taken, full_roomy, refused-listed, zero-taken, some-shown, found-listed}
use Rattle.listing.proofs.list.Goals as goal

pub put_refused-requires : goal.put_refused-requires
put_refused-requires c = omega (arith, c.requires)

pub returns-then-r-ne0 : goal.returns-then-r-ne0
returns-then-r-ne0 c =
    let full : roomy_chain (record { scores = c.zeros-scores.result; chain = c.zeros-chain.result }) ≡ true =
    full_roomy (record { scores = c.zeros-scores.result; chain = c.zeros-chain.result }) (le_of_eq (sym (room-long 2048 c.zeros-scores.ensures))) (le_of_eq (sym (room-long 2048 c.zeros-chain.ensures))) in
    let p = c.put_refused in
    refused-listed _ _ (record { scores = c.zeros-scores.result; chain = c.zeros-chain.result }) (record { scores = c.sweep-r.new.scores; chain = c.sweep-r.new.chain }) c.sweep-r.result full c.sweep-r.ensures c.if-r-ne0.true _ _ _ (record { count = p.ensures.0; bytes = p.ensures.1 })

pub put_result-requires : goal.put_result-requires
put_result-requires c =
    let full : roomy_chain (record { scores = c.zeros-scores.result; chain = c.zeros-chain.result }) ≡ true =
    full_roomy (record { scores = c.zeros-scores.result; chain = c.zeros-chain.result }) (le_of_eq (sym (room-long 2048 c.zeros-scores.ensures))) (le_of_eq (sym (room-long 2048 c.zeros-chain.ensures))) in
    let taken : Taken c.args.graph.now c.args.file.now (record { scores = c.zeros-scores.result; chain = c.zeros-chain.result }) (record { scores = c.sweep-r.new.scores; chain = c.sweep-r.new.chain }) c.sweep-r.result =
    zero-taken _ _ (record { scores = c.zeros-scores.result; chain = c.zeros-chain.result }) (record { scores = c.sweep-r.new.scores; chain = c.sweep-r.new.chain }) c.sweep-r.result full c.sweep-r.ensures (omega arith) in
    let full_numbers : roomy_anchors (record { letters = c.zeros-letters.result; anchors = c.zeros-numbers.result }) ≡ true =
    full_anchors_lem (record { letters = c.zeros-letters.result; anchors = c.zeros-numbers.result }) (le_of_eq (sym (room-long 32768 c.zeros-letters.ensures))) (le_of_eq (sym (room-long 10240 c.zeros-numbers.ensures))) in
    let scores-long : length c.sweep-r.new.scores ≡ full_scores =
    omega (arith, c.sweep-r.auto, room-long 2048 c.zeros-scores.ensures) in
    let chain-long : length c.sweep-r.new.chain ≡ full_chain =
    omega (arith, c.sweep-r.auto, room-long 2048 c.zeros-chain.ensures) in
    let numbers-long : length c.read_anchors.new.anchors ≡ full_anchors =
    omega (arith, c.read_anchors.auto, room-long 10240 c.zeros-numbers.ensures) in
    let shown : let r = c.sweep-r.result in
    SomeShown r.anchors r.score r.rounds r.length c.read_anchors.new.anchors c.sweep-r.new.scores c.sweep-r.new.chain =
    some-shown _ _ (record { scores = c.zeros-scores.result; chain = c.zeros-chain.result }) (record { scores = c.sweep-r.new.scores; chain = c.sweep-r.new.chain }) c.sweep-r.result taken (record { letters = c.zeros-letters.result; anchors = c.zeros-numbers.result }) (record { letters = c.read_anchors.new.letters; anchors = c.read_anchors.new.anchors }) c.read_anchors.result full_numbers c.read_anchors.ensures scores-long chain-long numbers-long in
    record { listing_room_in_bounds = c.requires; some_shown = shown }

pub returns : goal.returns
returns c =
    let full : roomy_chain (record { scores = c.zeros-scores.result; chain = c.zeros-chain.result }) ≡ true =
    full_roomy (record { scores = c.zeros-scores.result; chain = c.zeros-chain.result }) (le_of_eq (sym (room-long 2048 c.zeros-scores.ensures))) (le_of_eq (sym (room-long 2048 c.zeros-chain.ensures))) in
    let taken : Taken c.args.graph.now c.args.file.now (record { scores = c.zeros-scores.result; chain = c.zeros-chain.result }) (record { scores = c.sweep-r.new.scores; chain = c.sweep-r.new.chain }) c.sweep-r.result =
    zero-taken _ _ (record { scores = c.zeros-scores.result; chain = c.zeros-chain.result }) (record { scores = c.sweep-r.new.scores; chain = c.sweep-r.new.chain }) c.sweep-r.result full c.sweep-r.ensures (omega arith) in
    let full_numbers : roomy_anchors (record { letters = c.zeros-letters.result; anchors = c.zeros-numbers.result }) ≡ true =
    full_anchors_lem (record { letters = c.zeros-letters.result; anchors = c.zeros-numbers.result }) (le_of_eq (sym (room-long 32768 c.zeros-letters.ensures))) (le_of_eq (sym (room-long 10240 c.zeros-numbers.ensures))) in
    let scores-long : length c.sweep-r.new.scores ≡ full_scores =
    omega (arith, c.sweep-r.auto, room-long 2048 c.zeros-scores.ensures) in
    let chain-long : length c.sweep-r.new.chain ≡ full_chain =
    omega (arith, c.sweep-r.auto, room-long 2048 c.zeros-chain.ensures) in
    let numbers-long : length c.read_anchors.new.anchors ≡ full_anchors =
    omega (arith, c.read_anchors.auto, room-long 10240 c.zeros-numbers.ensures) in
    found-listed _ _ (record { scores = c.zeros-scores.result; chain = c.zeros-chain.result }) (record { scores = c.sweep-r.new.scores; chain = c.sweep-r.new.chain }) c.sweep-r.result taken (record { letters = c.zeros-letters.result; anchors = c.zeros-numbers.result }) (record { letters = c.read_anchors.new.letters; anchors = c.read_anchors.new.anchors }) c.read_anchors.result full_numbers c.read_anchors.ensures scores-long chain-long numbers-long _ _ _ c.put_result.ensures
