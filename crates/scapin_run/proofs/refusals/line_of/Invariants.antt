use Rattle.std.proofs.Common.{◌≡◌}
use Rattle.scapin_run.specs.Scapin.{line_of}
use Rattle.scapin_run.proofs.Placing.{left_at}
use Rattle.scapin_run.proofs.refusals.line_of.Given as goal

abbrev pub invariant-loop-place : goal.invariant-loop-place
invariant-loop-place l = left_at l.path.names.items l.path.lines.items l.path.last l.text l.place l.left ≡ line_of l.path l.text l.before
