use Rattle.std.proofs.Common.{◌≡◌, ℕ, ◌≤◌, length, drop, ◌++◌, arith, length-append, length-drop, length-take-le}
use Rattle.caseinput.specs.Reading.{number_of}
use Rattle.caseinput.proofs.ReadingLaws.{file_kept}
use Rattle.caseinput.proofs.input.read_file.Goals as goal

pub returns-clause-kept : goal.returns-clause-kept
returns-clause-kept g c = λ xs e.
    let counted = c.in_ok-n.ensures xs e in
    let read = c.in_ok-read_padded.ensures (drop 4 xs) counted.1 in
    let left = c.in_ok-skip.ensures (drop (length c.read_padded.new.space) (drop 4 xs)) read.1 in
    let n : c.in_ok-n.field-0 ≡ number_of xs = counted.0 in
    let size : c.min-kept.result ≡ length c.read_padded.new.space = omega (arith, length-take-le {A = ℕ}) in
    let most : c.min-kept.result ≤ c.in_ok-n.field-0 = omega arith in
    let whole : length (c.read_padded.new.space ++ drop c.min-kept.result c.args.space.now) ≡ length c.args.space.now =
    omega (arith, length-append c.read_padded.new.space (drop c.min-kept.result c.args.space.now), length-drop c.min-kept.result c.args.space.now) in
    let kept = file_kept _ xs _ _ c.in_ok-n.field-0 c.min-kept.result n size most read.0 left.1 in
    (omega (arith, n, whole), kept.0, kept.1)
