use Rattle.std.proofs.Common.{◌≡◌, drop}
use Rattle.source_checks.specs.Lines.{first_line}
use Rattle.source_checks.specs.Unsupported.{port_forms}
use Rattle.source_checks.proofs.forms.ports_form.Given as goal

abbrev pub invariant-loop-group : goal.invariant-loop-group
invariant-loop-group l = first_line ((port_forms) (drop l.group-index l.groups)) ≡ first_line ((port_forms) l.groups)
