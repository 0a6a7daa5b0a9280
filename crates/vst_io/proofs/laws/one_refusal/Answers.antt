use Rattle.vst_io.proofs.OneRefused.{one_refusal}
use Rattle.vst_io.proofs.laws.one_refusal.Goals as goal

pub returns : goal.returns
returns c = one_refusal
