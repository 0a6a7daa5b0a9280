use Rattle.scan_theory.proofs.Scanning.{scanned_scans}
use Rattle.scan_theory.proofs.scanned_scans.Goals as goal

pub returns : goal.returns
returns c = scanned_scans
