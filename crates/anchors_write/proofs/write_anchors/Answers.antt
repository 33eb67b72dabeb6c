use Rattle.std.proofs.Common.{ℕ, ◌≡◌, List, Bool, sym, ap, ◌∙◌, length, arith}
use Rattle.wire.specs.Refusals.{code}
use Rattle.wire.specs.Found.{fault, refusal_number}
use Rattle.wire.specs.Sizes.{full_lengths}
use Rattle.wire_lent.proofs.Rooms.{room-long}
use Rattle.graph.specs.Reading.{graph_of}
use Rattle.graph.proofs.Faulty.{graph-fault}
use Rattle.graph_content.proofs.Faulting.{code-some}
use Rattle.anchors.specs.AnchorBytes.{encode_anchors}
use Rattle.anchors.specs.AnchorEntries.{set_in, anchors_given, room_for_anchors, roomy_anchors}
use Rattle.anchors.proofs.AnchorRooms.{full_buffers}
use Rattle.anchors.proofs.AnchorWriting.{content-ranged}
use Rattle.anchors_parts.specs.LabelTables.{content_of}
use Rattle.anchors_parts.proofs.LabelLaws.{few-vertices}
use Rattle.anchors_check.proofs.BothLaws.{graph-told}
use Rattle.anchors_content.specs.Given.{given_of}
use Rattle.anchors_bytes.proofs.Sizing.{bytes-length}
use Rattle.anchors_write.proofs.Promised.{faulty, small_written, graph_written, content_written, long_written, short_written, done_written}
use Rattle.anchors_write.proofs.write_anchors.Goals as goal

-- what the room test says
room : (letters anchors : List ℕ) {b d : Bool} → b ≡ room_for_anchors (length letters) (length anchors) → b ≡ d
    → roomy_anchors (record { letters = letters; anchors = anchors }) ≡ d
unfolding roomy_anchors
room letters anchors e f = sym e ∙ f

pub returns-then-not-roomy : goal.returns-then-not-roomy
returns-then-not-roomy c =
    let a = c.args in
    let g = given_of a.r a.n a.letters.now a.anchors.now in
    small_written g _ _ _ (room a.letters.now a.anchors.now c.roomy.ensures c.if-not-roomy.true) c.refusal.ensures

pub overflow_cast-found : goal.overflow_cast-found
overflow_cast-found c =
    let a = c.args in
    let bad : graph_of a.graph.now ≡ fault (code c.in-Err.found.refusal) c.in-Err.found.place = faulty _ c.in-Err.ensures in
    omega (arith, (graph-fault _ _ _ bad).near)

pub returns-in-Err : goal.returns-in-Err
returns-in-Err c =
    let a = c.args in
    let g = given_of a.r a.n a.letters.now a.anchors.now in
    let full = room a.letters.now a.anchors.now c.roomy.ensures c.if-not-roomy.false in
    let bad : graph_of a.graph.now ≡ fault (code c.in-Err.found.refusal) c.in-Err.found.place = faulty _ c.in-Err.ensures in
    graph_written g _ _ _ _ _ full bad c.fault.ensures

pub of-labels-requires-clause-labels_at : goal.of-labels-requires-clause-labels_at
of-labels-requires-clause-labels_at c =
    (graph-told c.args.graph.now c.in-Ok.ensures).labels

pub of-labels-requires-clause-room : goal.of-labels-requires-clause-room
of-labels-requires-clause-room c =
    let k = few-vertices _ _ _ (graph-told c.args.graph.now c.in-Ok.ensures).labels in
    (omega (arith, k, room-long full_lengths c.zeros-starts.ensures), omega (arith, k, room-long full_lengths c.zeros-lengths.ensures))

pub returns-in-Err-content_fault : goal.returns-in-Err-content_fault
returns-in-Err-content_fault c =
    let a = c.args in
    let g = given_of a.r a.n a.letters.now a.anchors.now in
    let full = room a.letters.now a.anchors.now c.roomy.ensures c.if-not-roomy.false in
    let fine = (graph-told a.graph.now c.in-Ok.ensures).labels in
    let f = rw c.of-labels.ensures at c.in-Err-content_fault.ensures in
    content_written g _ _ _ full fine.accepted _ f (code-some c.in-Err-content_fault.refusal) c.fault-in-Err-content_fault.ensures

pub anchors_size-bytes-requires : goal.anchors_size-bytes-requires
anchors_size-bytes-requires c =
    let a = c.args in
    let g = given_of a.r a.n a.letters.now a.anchors.now in
    let clean : refusal_number (anchors_given (content_of a.graph.now) g) ≡ 0 = sym (rw c.of-labels.ensures at c.in_default.ensures) in
    let ranged = content-ranged (content_of a.graph.now) g clean in
    let full = room a.letters.now a.anchors.now c.roomy.ensures c.if-not-roomy.false in
    (ranged.1, (full_buffers g.buffers full).1)

pub returns-then-bytes-gt-MOST_FILE_BYTES : goal.returns-then-bytes-gt-MOST_FILE_BYTES
returns-then-bytes-gt-MOST_FILE_BYTES c =
    let a = c.args in
    let g = given_of a.r a.n a.letters.now a.anchors.now in
    let full = room a.letters.now a.anchors.now c.roomy.ensures c.if-not-roomy.false in
    let fine = (graph-told a.graph.now c.in-Ok.ensures).labels in
    let clean : refusal_number (anchors_given (content_of a.graph.now) g) ≡ 0 = sym (rw c.of-labels.ensures at c.in_default.ensures) in
    let ranged = content-ranged (content_of a.graph.now) g clean in
    let sizes = full_buffers g.buffers full in
    let measured : c.anchors_size-bytes.result ≡ length (encode_anchors (set_in g)) =
    c.anchors_size-bytes.ensures ∙ sym (bytes-length g (omega (arith, ranged, sizes)) (omega (arith, ranged, sizes))) in
    long_written g _ _ _ full fine.accepted clean (omega (arith, measured)) c.fault-then-bytes-gt-MOST_FILE_BYTES.ensures

pub returns-then-out-bytes : goal.returns-then-out-bytes
returns-then-out-bytes c =
    let a = c.args in
    let g = given_of a.r a.n a.letters.now a.anchors.now in
    let full = room a.letters.now a.anchors.now c.roomy.ensures c.if-not-roomy.false in
    let fine = (graph-told a.graph.now c.in-Ok.ensures).labels in
    let clean : refusal_number (anchors_given (content_of a.graph.now) g) ≡ 0 = sym (rw c.of-labels.ensures at c.in_default.ensures) in
    let ranged = content-ranged (content_of a.graph.now) g clean in
    let sizes = full_buffers g.buffers full in
    let measured : c.anchors_size-bytes.result ≡ length (encode_anchors (set_in g)) =
    c.anchors_size-bytes.ensures ∙ sym (bytes-length g (omega (arith, ranged, sizes)) (omega (arith, ranged, sizes))) in
    short_written g _ _ _ full fine.accepted clean (omega (arith, measured)) (omega (arith, measured)) c.refusal-then-out-bytes.ensures

pub put_anchors-written-requires-clause-few : goal.put_anchors-written-requires-clause-few
put_anchors-written-requires-clause-few c =
    let a = c.args in
    let g = given_of a.r a.n a.letters.now a.anchors.now in
    let clean : refusal_number (anchors_given (content_of a.graph.now) g) ≡ 0 = sym (rw c.of-labels.ensures at c.in_default.ensures) in
    let ranged = content-ranged (content_of a.graph.now) g clean in
    (ranged.0, ranged.1)

pub put_anchors-written-requires-clause-room : goal.put_anchors-written-requires-clause-room
put_anchors-written-requires-clause-room c =
    let a = c.args in
    let g = given_of a.r a.n a.letters.now a.anchors.now in
    let full = room a.letters.now a.anchors.now c.roomy.ensures c.if-not-roomy.false in
    let clean : refusal_number (anchors_given (content_of a.graph.now) g) ≡ 0 = sym (rw c.of-labels.ensures at c.in_default.ensures) in
    let ranged = content-ranged (content_of a.graph.now) g clean in
    let sizes = full_buffers g.buffers full in
    let measured : c.anchors_size-bytes.result ≡ length (encode_anchors (set_in g)) =
    c.anchors_size-bytes.ensures ∙ sym (bytes-length g (omega (arith, ranged, sizes)) (omega (arith, ranged, sizes))) in
    omega (arith, measured)

pub overflow_cast-result : goal.overflow_cast-result
overflow_cast-result c =
    let a = c.args in
    let g = given_of a.r a.n a.letters.now a.anchors.now in
    let full = room a.letters.now a.anchors.now c.roomy.ensures c.if-not-roomy.false in
    let clean : refusal_number (anchors_given (content_of a.graph.now) g) ≡ 0 = sym (rw c.of-labels.ensures at c.in_default.ensures) in
    let ranged = content-ranged (content_of a.graph.now) g clean in
    let sizes = full_buffers g.buffers full in
    let measured : c.anchors_size-bytes.result ≡ length (encode_anchors (set_in g)) =
    c.anchors_size-bytes.ensures ∙ sym (bytes-length g (omega (arith, ranged, sizes)) (omega (arith, ranged, sizes))) in
    omega (arith, c.put_anchors-written.ensures.0, measured)

pub returns : goal.returns
returns c =
    let a = c.args in
    let g = given_of a.r a.n a.letters.now a.anchors.now in
    let full = room a.letters.now a.anchors.now c.roomy.ensures c.if-not-roomy.false in
    let fine = (graph-told a.graph.now c.in-Ok.ensures).labels in
    let clean : refusal_number (anchors_given (content_of a.graph.now) g) ≡ 0 = sym (rw c.of-labels.ensures at c.in_default.ensures) in
    let ranged = content-ranged (content_of a.graph.now) g clean in
    let sizes = full_buffers g.buffers full in
    let measured : c.anchors_size-bytes.result ≡ length (encode_anchors (set_in g)) =
    c.anchors_size-bytes.ensures ∙ sym (bytes-length g (omega (arith, ranged, sizes)) (omega (arith, ranged, sizes))) in
    done_written g _ _ _ full fine.accepted clean (omega (arith, measured)) _ (omega (arith, measured)) c.put_anchors-written.ensures.1
    (ap (λ (n : ℕ). record { number = 0; file = 0; place = 0; bytes = n }) c.put_anchors-written.ensures.0)
