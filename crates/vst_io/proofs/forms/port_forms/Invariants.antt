use Rattle.std.proofs.Common.{◌≡◌, drop}
use Rattle.std.specs.List.{flat_map}
use Rattle.source_checks.specs.Lines.{first_line}
use Rattle.vst_io.specs.Faults.{port_form}
use Rattle.vst_io.proofs.forms.port_forms.Given as goal

abbrev pub invariant-loop-group : goal.invariant-loop-group
invariant-loop-group l = first_line (flat_map (port_form l.own) (drop l.group-index l.groups)) ≡ first_line (flat_map (port_form l.own) l.groups)
