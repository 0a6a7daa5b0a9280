use Rattle.loon_buffer.proofs.Keeping.{none_yet, one_more, still_timed}
use Rattle.loon_buffer.proofs.Listed.{table_is_enough}
use Rattle.loon_buffer.proofs.laws.exchanges_law.Goals as goal

pub returns : goal.returns
returns c = record { none = none_yet; one_more = one_more; timed = still_timed; table = table_is_enough }
