use Rattle.std.proofs.Common.{◌≡◌, ◌++◌, drop}
use Rattle.std.specs.List.{flat_map}
use Rattle.vst_io.specs.Nets.{nets, links_of}
use Rattle.vst_io.proofs.linking.push_instance.Given as goal

abbrev pub invariant-loop-association : goal.invariant-loop-association
invariant-loop-association l =
    l.links.items ++ flat_map (links_of l.pins (nets l.known.file) l.instance.label) (drop l.association-index l.association-items)
    ≡ l.initial.links.items ++ flat_map (links_of l.pins (nets l.known.file) l.instance.label) l.association-items
