use Rattle.std.proofs.Common.{◌≡◌, [], map, take}
use Rattle.vst_io.specs.Nets.{instance_of}
use Rattle.vst_io.specs.Faults.{first_label_again}
use Rattle.vst_io.specs.Drafts.{with_instances}
use Rattle.vst_io.proofs.Adding.{again_from}
use Rattle.vst_io.proofs.build.add_instances.Given as goal

abbrev pub invariant-loop-instance : goal.invariant-loop-instance
invariant-loop-instance l =
    (l.builder ≡ with_instances l.initial.builder (map (instance_of l.known.table) (take l.instance-index l.instance-items)))
    × (again_from l.instance-items [] l.instance-index ≡ first_label_again [] l.instance-items)
