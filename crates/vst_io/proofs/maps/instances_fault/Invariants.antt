use Rattle.std.proofs.Common.{◌≡◌, drop}
use Rattle.std.specs.List.{flat_map}
use Rattle.source_checks.specs.Lines.{first_line}
use Rattle.vst_io.specs.Faults.{instance_faults}
use Rattle.vst_io.proofs.maps.instances_fault.Given as goal

abbrev pub invariant-loop-instance : goal.invariant-loop-instance
invariant-loop-instance l = first_line (flat_map (instance_faults l.known.table l.known.file) (drop l.instance-index l.instances)) ≡ first_line (flat_map (instance_faults l.known.table l.known.file) l.instances)
