-- A netlist that is mapped of what was read can be written, and it is small.
use Rattle.std.proofs.Common.{◌+◌, ◌*◌, ◌≤◌, List, length, ap, arith}
use Rattle.vlsi_base.specs.declared.name.Port.{Port}
use Rattle.machine_core.specs.Machine.{Machine}
use Rattle.machine_core.specs.Size.{machine_size}
use Rattle.machine_core.specs.Checked.{IsChecked}
use Rattle.source_checks.specs.Checks.{most_ports}
use Rattle.cell_model.specs.Library.{Library}
use Rattle.net_core.specs.Netlist.{Netlist}
use Rattle.boog_map.proofs.Supplied.{two_longer}
use Rattle.boog_map.proofs.MachinePorts.{ports_sorted, ports_apart}
use Rattle.vbe_writable.specs.Laws.{MachineIsNamed, MachineIsShort, CatalIsNamed, MachineCanBeWritten, CellCanBeWritten}
use Rattle.boog_run.specs.Boog.{IsNetlistFor}
use Rattle.boog_run.specs.Laws.{SourceCanBeDeclared, NetlistIsWritable, NetlistIsSmall}
use Rattle.tool_drive.specs.declared.size.TheConstants.{MOST_SIZE}
use Rattle.boog_run.proofs.Naming.{writable}
use Rattle.boog_run.proofs.Sizes.{few_ports, few_cells}

pub can_be_declared : MachineIsNamed → MachineCanBeWritten → MachineIsShort → SourceCanBeDeclared
can_be_declared machines written short source m machine = record {
  name = (machines source m machine).0;
  ports = written source m machine;
  short_name = (short source m machine).0;
  short_ports = (short source m machine).1;
  few_ports = few_ports source m machine;
}

pub can_be_written : CatalIsNamed → CellCanBeWritten → NetlistIsWritable
can_be_written lists pins_written list cells l m n library declared small netlist =
    writable lists pins_written list cells l library m n netlist small declared.name declared.ports

-- each register weighs 5
few_registers : (m : Machine) → 5 * length m.registers ≤ machine_size m
few_registers m = omega arith

few_instances : (l : Library) (m : Machine) (n : Netlist) → machine_size m ≤ MOST_SIZE → IsNetlistFor l m n → length n.instances ≤ 2 * MOST_SIZE
few_instances l m n small netlist =
    let few = few_cells n m netlist.graph netlist.subject netlist.most in
    let held = few_registers m in
    omega (arith, few, held, small)

few_netlist_ports : (l : Library) (m : Machine) (n : Netlist) → IsChecked m → length m.ports ≤ most_ports → IsNetlistFor l m n → length n.ports ≤ most_ports + 2
few_netlist_ports l m n checked few netlist =
    let size = ap (λ (ps : List Port). length ps) netlist.right.ports in
    let two = two_longer m.ports (ports_sorted m checked) (ports_apart m checked) in
    omega (arith, few, size, two)

pub is_small : NetlistIsSmall
is_small l m n checked declared small netlist = (few_instances l m n small netlist, few_netlist_ports l m n checked declared.few_ports netlist)
