use Rattle.std.proofs.Common.{◌∙◌, ◌-◌, refl, length, take, drop}
use Rattle.boog_map.proofs.Planned.{first_ports, gates_fit, slice_is}
use Rattle.boog_map.proofs.Planning.{held_drivers, spots_are, drivers_are}
use Rattle.boog_map.proofs.mapping.planned.Goals as goal

pub put_gates-requires : goal.put_gates-requires
put_gates-requires c =
    let m = c.args.machine.now in
    let g = c.args.graph.now in
    let gs = c.args.gates.now in
    let held = c.held_count-held.result in
    let some = take (length gs - held) (drop held gs) in
    let is_some = slice_is m gs held c.held_count-held.ensures in
    let names = c.as_slice.ensures ∙ c.vars.ensures.value in
    let ports = first_ports m g c.requires.graph held c.loads-loads.result.now c.held_count-held.ensures c.loads-loads.ensures c.vars.ensures.checked c.as_slice.result.now
    (take (held - length c.loads-loads.result.now) c.as_slice.result.now) c.in_ok-input_ports.field-0.items names refl c.in_ok-input_ports.ensures in
    let count = held_drivers m g c.requires.graph c.args.parts.now gs c.new.result.items c.put_registers.new.self.spots.items c.put_registers.new.self.spots.items
    c.in_ok-input_ports.field-0.items c.put_registers.new.self.drivers.items c.put_registers.new.self.drivers.items c.loads-loads.result.now some c.new.ensures.items ports
    c.loads-loads.ensures is_some c.in_ok-put_registers.ensures.spots c.in_ok-put_registers.ensures.drivers in
    gates_fit m g c.requires.graph c.requires.few c.put_registers.new.self.drivers.items gs some count c.requires.long is_some

pub returns : goal.returns
returns c =
    let m = c.args.machine.now in
    let g = c.args.graph.now in
    let gs = c.args.gates.now in
    let held = c.held_count-held.result in
    let some = take (length gs - held) (drop held gs) in
    let is_some = slice_is m gs held c.held_count-held.ensures in
    let names = c.as_slice.ensures ∙ c.vars.ensures.value in
    let ports = first_ports m g c.requires.graph held c.loads-loads.result.now c.held_count-held.ensures c.loads-loads.ensures c.vars.ensures.checked c.as_slice.result.now
    (take (held - length c.loads-loads.result.now) c.as_slice.result.now) c.in_ok-input_ports.field-0.items names refl c.in_ok-input_ports.ensures in
    record {
      spots = spots_are m g c.requires.graph c.args.parts.now gs c.new.result.items c.put_registers.new.self.spots.items c.put_gates.new.self.spots.items
          c.in_ok-input_ports.field-0.items c.put_registers.new.self.drivers.items c.put_gates.new.self.drivers.items c.loads-loads.result.now some c.new.ensures.items ports
          c.loads-loads.ensures is_some c.in_ok-put_registers.ensures.spots c.in_ok-put_registers.ensures.drivers c.in_ok-put_gates.ensures.spots;
      drivers = drivers_are m g c.requires.graph c.args.parts.now gs c.new.result.items c.put_registers.new.self.spots.items c.put_gates.new.self.spots.items
          c.in_ok-input_ports.field-0.items c.put_registers.new.self.drivers.items c.put_gates.new.self.drivers.items c.loads-loads.result.now some c.new.ensures.items ports
          c.loads-loads.ensures is_some c.in_ok-put_registers.ensures.spots c.in_ok-put_registers.ensures.drivers c.in_ok-put_gates.ensures.drivers;
    }
