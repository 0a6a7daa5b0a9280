use Rattle.std.proofs.Common.{◌≡◌, ◌++◌, map, drop}
use Rattle.std.specs.List.{zip}
use Rattle.net_core.specs.Netlist.{pin_of}
use Rattle.vst_io.specs.Nets.{names}
use Rattle.vst_io.proofs.linking.push_links.Given as goal

abbrev pub invariant-loop-k : goal.invariant-loop-k
invariant-loop-k l =
    l.links.items ++ zip (map (pin_of l.label) (names l.association.pin.text (drop l.k l.bits.items))) (names l.association.net.name (drop l.k l.net_bits.items))
    ≡ l.initial.links.items ++ zip (map (pin_of l.label) (names l.association.pin.text l.bits.items)) (names l.association.net.name l.net_bits.items)
