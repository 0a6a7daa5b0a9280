use Rattle.std.proofs.Common.{◌≡◌, drop}
use Rattle.std.specs.List.{flat_map}
use Rattle.source_checks.specs.Lines.{first_line}
use Rattle.vst_io.specs.Faults.{declaration_widths}
use Rattle.vst_io.proofs.forms.declaration_widths.Given as goal

abbrev pub invariant-loop-declaration : goal.invariant-loop-declaration
invariant-loop-declaration l = first_line (flat_map declaration_widths (drop l.declaration-index l.declarations)) ≡ first_line (flat_map declaration_widths l.declarations)
