use Rattle.std.proofs.Common.{◌≡◌, ◌++◌, [], take, drop}
use Rattle.std.specs.List.{flat_map}
use Rattle.source_checks.specs.Lines.{first_line}
use Rattle.net_core.specs.Checks.{pins_named}
use Rattle.vst_io.specs.Nets.{nets, pin_names}
use Rattle.vst_io.specs.Faults.{association_faults, end_faults}
use Rattle.vst_io.proofs.Places.{Holds}
use Rattle.vst_io.proofs.maps.map_fault.Given as goal

abbrev pub invariant-loop-association : goal.invariant-loop-association
invariant-loop-association l =
    (first_line (association_faults l.component (nets l.known.file) (pins_named l.known.table l.instance.component) (flat_map (pin_names l.component) (take l.association-index l.association-items)) (drop l.association-index l.association-items)
    ++ end_faults l.component (pins_named l.known.table l.instance.component) l.instance)
    ≡ first_line (association_faults l.component (nets l.known.file) (pins_named l.known.table l.instance.component) [] l.association-items
    ++ end_faults l.component (pins_named l.known.table l.instance.component) l.instance))
    × Holds l.mapped (flat_map (pin_names l.component) (take l.association-index l.association-items))
