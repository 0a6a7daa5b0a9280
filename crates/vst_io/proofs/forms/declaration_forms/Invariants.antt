use Rattle.std.proofs.Common.{◌≡◌, drop}
use Rattle.std.specs.List.{flat_map}
use Rattle.source_checks.specs.Lines.{first_line}
use Rattle.vst_io.specs.Faults.{declaration_forms}
use Rattle.vst_io.proofs.forms.declaration_forms.Given as goal

abbrev pub invariant-loop-declaration : goal.invariant-loop-declaration
invariant-loop-declaration l = first_line (flat_map declaration_forms (drop l.declaration-index l.declarations)) ≡ first_line (flat_map declaration_forms l.declarations)
