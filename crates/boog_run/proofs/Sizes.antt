-- A machine that is read and small enough can be numbered and mapped, and how many cells it then has.
use Rattle.std.proofs.Common.{ℕ, ◌+◌, ◌*◌, ◌≤◌, Bool, not, List, length, refl, arith}
use Rattle.std.specs.Prelude.{sum_by}
use Rattle.std.proofs.lemmas.List.Sorted.{length_permutation}
use Rattle.std.proofs.lemmas.List.Filters.{length-filter_both}
use Rattle.machine_core.specs.Machine.{Machine}
use Rattle.machine_core.specs.Size.{machine_size}
use Rattle.source_checks.specs.Symbols.{symbols}
use Rattle.source_checks.specs.Elaboration.{port_bits}
use Rattle.source_checks.specs.Checks.{most_ports}
use Rattle.vbe_io.specs.Text.{IsVbe}
use Rattle.cell_model.specs.Library.{Library}
use Rattle.graph_theory.specs.Graph.{Graph}
use Rattle.subject_graph.specs.Subject.{IsNumberable, IsSubjectGraph}
use Rattle.net_core.specs.Netlist.{Netlist}
use Rattle.net_right.specs.Condition.{MeetsConditionIn}
use Rattle.boog_map.specs.Netlist.{HasRoomForCells, Covers, HasOneCellAtMost, HasFewInputs}
use Rattle.boog_map.specs.Mapped.{IsMapped}
use Rattle.boog_map.proofs.Rooms.{few_inputs, few_nodes}
use Rattle.boog_run.specs.Boog.{IsNetlistFor}
use Rattle.tool_drive.specs.declared.size.TheConstants.{MOST_SIZE}

pub few_ports : (bytes : List ℕ) (m : Machine) → IsVbe bytes m → length m.ports ≤ most_ports
few_ports bytes m is =
    let same = length_permutation m.ports (port_bits (symbols is.design)) is.machine.ports in
    let few = is.passes.few_ports in
    omega (arith, same, few)

pub numberable : (m : Machine) → length m.ports ≤ most_ports → machine_size m ≤ MOST_SIZE → IsNumberable m
numberable m ports small = let a = few_inputs m in omega (arith, a, ports, small)

pub has_room : (m : Machine) → length m.ports ≤ most_ports → machine_size m ≤ MOST_SIZE → HasRoomForCells m
has_room m ports small = omega (arith, ports, small)

-- a cell at most for each register and for each node that is reached
pub few_cells : (n : Netlist) (m : Machine) (g : Graph) → IsSubjectGraph m g → HasOneCellAtMost n m g → length n.instances ≤ length m.registers + (machine_size m + 2)
few_cells n m g sub most =
    let count = most.count in
    let long = most.many in
    let nodes = few_nodes m g sub in
    let all = length-filter_both (λ (b : Bool). b) (λ (b : Bool). not b) (λ b. refl) most.reached in
    omega (arith, count, long, nodes, all)

-- and beside an output and two supplies of each, two pins at most for each of these
pub few_pins : (n : Netlist) (m : Machine) (g : Graph) → IsSubjectGraph m g → HasFewInputs n m g
    → sum_by (λ i. length i.pins) n.instances ≤ 3 * length n.instances + 2 * (length m.registers + (machine_size m + 2))
few_pins n m g sub few = let nodes = few_nodes m g sub in omega (arith, few, nodes)

pub netlist_for : (l : Library) (m : Machine) (n : Netlist) (g : Graph) → IsSubjectGraph m g → Covers l m → MeetsConditionIn l n → IsMapped n l m g → IsNetlistFor l m n
netlist_for l m n g subject covered condition is = record {
  sound = is.sound;
  covered = covered;
  right = is.right;
  pins = is.pins;
  condition = condition;
  order = is.order;
  lean = is.lean;
  graph = g;
  subject = subject;
  most = is.most;
  few = is.few;
  tight = is.tight;
}
