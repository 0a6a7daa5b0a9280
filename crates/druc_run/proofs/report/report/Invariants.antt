use Rattle.std.proofs.Common.{◌≡◌, take}
use Rattle.druc_run.specs.Report.{breaches_text}
use Rattle.druc_run.proofs.report.report.Given as goal

abbrev pub invariant-loop-breach : goal.invariant-loop-breach
invariant-loop-breach l = l.text ≡ breaches_text (take l.breach-index l.breaches)
