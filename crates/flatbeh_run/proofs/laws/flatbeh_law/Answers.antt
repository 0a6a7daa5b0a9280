use Rattle.flatbeh_run.proofs.Reading.{is_read}
use Rattle.flatbeh_run.proofs.laws.flatbeh_law.Goals as goal

pub returns : goal.returns
returns c = is_read c.read_again.ensures
