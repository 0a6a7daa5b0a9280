use Rattle.pat_text.proofs.Laws.{one_fault}
use Rattle.pat_text.proofs.law.one_refusal.Goals as goal

pub returns : goal.returns
returns c = one_fault
