use Rattle.std.proofs.Common.{◌≡◌, drop}
use Rattle.std.specs.List.{flat_map}
use Rattle.source_checks.specs.Lines.{first_line}
use Rattle.vst_io.specs.Faults.{component_faults}
use Rattle.vst_io.proofs.components.components_fault.Given as goal

abbrev pub invariant-loop-declaration : goal.invariant-loop-declaration
invariant-loop-declaration l = first_line (flat_map (component_faults l.known.table) (drop l.declaration-index l.declarations)) ≡ first_line (flat_map (component_faults l.known.table) l.declarations)
