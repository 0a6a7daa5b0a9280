-- The stages of mapping.
use Rattle.std.specs.Prelude.{◌≡◌, ℕ, List, ◌++◌, map, length, drop, Option}
use Rattle.vlsi_base.specs.declared.name.Terminal.{Terminal}
use Rattle.vlsi_base.specs.Names.{vdd, vss}
use Rattle.machine_core.specs.Machine.{Machine, inputs}
use Rattle.cell_model.specs.Library.{Library}
use Rattle.cell_pins.specs.Pins.{with_supply}
use Rattle.net_core.specs.Netlist.{Netlist as InMemory, IsNetlist, port}
use Rattle.net_right.specs.Right.{IsRightNetlist, HasPinsOfCells}
use Rattle.graph_theory.specs.Graph.{Graph, held_count}
use Rattle.cell_match.specs.declared.gate.Gate.{Gate}
use Rattle.boog_map.specs.declared.choice.Parts.{Parts}
use Rattle.boog_map.specs.declared.place.Plan.{Plan}
use Rattle.boog_map.specs.declared.place.Spot.{Spot}
use Rattle.boog_map.specs.declared.build.Sketch.{Sketch}
use Rattle.boog_map.specs.Draft.{register_spots, gate_spots, gate_drivers, output_terminal, tied_ports, AreDrivers}
use Rattle.boog_map.specs.Netlist.{StandsInOrder, HasOneCellAtMost, HasFewInputs, IsLeanFor, IsTightFor}

-- what outputs show and registers load
abbrev pub root_numbers : Graph → List ℕ
root_numbers g = g.outputs ++ g.loads

-- the gates of the nodes behind inputs and registers
abbrev pub node_gates : Machine → List (Option Gate) → List (Option Gate)
node_gates m gates = drop (held_count m) gates

-- the instances of registers and of gates
abbrev pub spots_of : Machine → Graph → List (Option Gate) → List Spot
spots_of m g gates = register_spots (length (inputs m)) 0 g.loads ++ gate_spots (held_count m) 0 (node_gates m gates)

-- the terminals that show inputs, registers and nodes
abbrev pub drivers_of : Machine → Graph → Parts → List (Option Gate) → List Terminal
drivers_of m g ps gates =
    map port (inputs m)
    ++ (map (output_terminal ps) (register_spots (length (inputs m)) 0 g.loads) ++ gate_drivers ps (held_count m) 0 (node_gates m gates))

pub record IsPlan (m : Machine) (g : Graph) (ps : Parts) (gates : List (Option Gate)) (plan : Plan) : Type 0 where
  pub spots : plan.spots.items ≡ spots_of m g gates
  pub drivers : plan.drivers.items ≡ drivers_of m g ps gates

pub record IsSketch (m : Machine) (g : Graph) (ps : Parts) (gates : List (Option Gate)) (k : Sketch) : Type 0 where
  pub parts : k.parts ≡ ps
  pub spots : k.spots.items ≡ spots_of m g gates
  pub drivers : AreDrivers m.clock (drivers_of m g ps gates) k.drivers
  pub ports : k.ports.items ≡ tied_ports m.clock g.outputs 0 0 (with_supply vss (with_supply vdd m.ports))

-- what is known of the netlist
pub record IsMapped (n : InMemory) (l : Library) (m : Machine) (g : Graph) : Type 0 where
  pub right : IsRightNetlist n l m
  pub pins : HasPinsOfCells n l
  pub order : StandsInOrder n l m
  pub most : HasOneCellAtMost n m g
  pub few : HasFewInputs n m g
  pub lean : IsLeanFor n m
  pub tight : IsTightFor n l
  pub sound : IsNetlist n
