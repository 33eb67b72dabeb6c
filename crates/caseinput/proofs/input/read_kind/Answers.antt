use Rattle.caseinput.proofs.ReadingLaws.{byte_read}
use Rattle.caseinput.proofs.input.read_kind.Goals as goal

pub returns : goal.returns
returns g c = λ xs e. byte_read _ _ xs c.read_padded.auto.space (c.in_ok-read_padded.ensures xs e)
