use Rattle.flow_run.proofs.OneStatus as whole
use Rattle.flow_run.proofs.decided.one_status.Goals as goal

pub returns : goal.returns
returns c = whole.one_status c.reading_law.ensures c.files_have_one_refusal.ensures
