use Rattle.vlsi_base.specs.declared.fault.ReadError.TheVariants as errors
use Rattle.ap_io.proofs.Walking.{limit_there}
use Rattle.ap_io.proofs.reader.limit_on.Goals as goal

pub returns-else-is_empty : goal.returns-else-is_empty
returns-else-is_empty c = limit_there c.args.line c.args.rest.now c.is_empty.result (errors.Limit c.args.limit) c.is_empty.ensures c.if-is_empty.false
