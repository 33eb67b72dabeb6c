use Rattle.caseinput.proofs.ReadingLaws.{number_read}
use Rattle.caseinput.proofs.input.read_number.Goals as goal

pub returns : goal.returns
returns g c = λ xs e. rw c.from_le_bytes.ensures (number_read _ _ xs c.read_padded.auto.space (c.in_ok-read_padded.ensures xs e))
