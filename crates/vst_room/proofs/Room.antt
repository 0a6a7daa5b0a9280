-- A netlist that is read has few instances, ports and pins.
use Rattle.std.proofs.Common.{◌≡◌, ◌+◌, ◌≤◌, List, map, length, None, sym, ap, subst, ◌∙◌, arith, length-append}
use Rattle.std.specs.List.{flat_map}
use Rattle.std.proofs.lemmas.List.{length-map}
use Rattle.vlsi_base.specs.declared.name.Name.{Name}
use Rattle.vlsi_base.specs.declared.name.Port.{Port}
use Rattle.vlsi_base.specs.Member.{In}
use Rattle.cell_model.proofs.Members.{All-In}
use Rattle.net_core.specs.Netlist.{Instance, AreInOrder, port, pins_of, terminals}
use Rattle.vst_io.specs.Nets.{instance_of}
use Rattle.vst_io.proofs.First.{faultless}
use Rattle.vst_room.specs.Room.{HasFewInstances, HasFewPorts, HasFewPins}
use Rattle.vst_room.proofs.Tokens.{mapped, bytes_for_pins}
use Rattle.vst_room.proofs.Mapped.{pins_few}
use Rattle.vst_room.proofs.Ports.{ports_few}

pub few_instances : HasFewInstances
few_instances bytes table n is =
    let f = is.file in
    let bytes_many = bytes_for_pins bytes f is.written.structure in
    let short = is.written.few in
    let many : length n.instances ≡ length f.instances = ap (λ (is : List Instance). length is) is.netlist.instances ∙ length-map f.instances (instance_of table) in
    omega (arith, bytes_many, short, many)

pub few_ports : HasFewPorts
few_ports bytes table n is met = ports_few table n is.netlist.sound met is.few_ports

pub few_pins : HasFewPins
few_pins bytes table n is met scalars =
    let f = is.file in
    let of = is.netlist in
    let maps = (faultless table f is.no_fault).maps in
    let bytes_many = bytes_for_pins bytes f is.written.structure in
    let short = is.written.few in
    let holds : (i : Instance) → In i n.instances → AreInOrder i.pins × ((pin : Name) → In pin i.pins → pin.bit ≡ None) =
    λ i h. (All-In (λ (j : Instance). AreInOrder j.pins) n.instances of.sound.pins i h, λ pin g. scalars i pin h g) in
    let pins : length (flat_map pins_of (map (instance_of table) f.instances)) ≤ mapped f.instances = pins_few table f maps (λ i h. holds i (subst (λ (is : List Instance). In i is) (sym of.instances) h)) in
    let same_pins : length (flat_map pins_of n.instances) ≡ length (flat_map pins_of (map (instance_of table) f.instances)) = ap (λ (is : List Instance). length (flat_map pins_of is)) of.instances in
    let ports = ports_few table n of.sound met is.few_ports in
    let own = length-map n.ports (λ (p : Port). port p.name) in
    let both : length (terminals n) ≡ length (map (λ (p : Port). port p.name) n.ports) + length (flat_map pins_of n.instances) = length-append (map (λ (p : Port). port p.name) n.ports) (flat_map pins_of n.instances) in
    omega (arith, bytes_many, short, pins, same_pins, ports, own, both)
