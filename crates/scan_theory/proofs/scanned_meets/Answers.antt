use Rattle.scan_theory.proofs.Meets.{scanned_meets}
use Rattle.scan_theory.proofs.scanned_meets.Goals as goal

pub returns : goal.returns
returns c = scanned_meets
