use Rattle.vbe_io.specs.Text.{IsVbeRefusal}
use Rattle.tool_drive.specs.Refusals.{of_file}
use Rattle.proof_run.proofs.proof.machine_in.Goals as goal

pub returns-in-Err-clause-refused : goal.returns-in-Err-clause-refused
returns-in-Err-clause-refused c = of_file c.args.file.now (IsVbeRefusal c.args.source.now) c.in-Err.error c.in-Err.ensures.refused c.refused.result c.refused.ensures
