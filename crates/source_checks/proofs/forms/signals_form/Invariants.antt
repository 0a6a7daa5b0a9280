use Rattle.std.proofs.Common.{◌≡◌, drop}
use Rattle.source_checks.specs.Lines.{first_line}
use Rattle.source_checks.specs.Unsupported.{signal_forms}
use Rattle.source_checks.proofs.forms.signals_form.Given as goal

abbrev pub invariant-loop-group : goal.invariant-loop-group
invariant-loop-group l = first_line ((signal_forms) (drop l.group-index l.groups)) ≡ first_line ((signal_forms) l.groups)
