-- The room that a plan has, and the parts of a machine that it is lent.
use Rattle.std.proofs.Common.{◌≡◌, ℕ, ◌+◌, ◌-◌, ◌^◌, ◌<◌, List, length, map, take, drop, Option, ◌∙◌, ap, arith}
use Rattle.std.proofs.lemmas.List.{length-drop}
use Rattle.vlsi_base.specs.declared.name.Name.{Name}
use Rattle.vlsi_base.specs.declared.name.Terminal.{Terminal}
use Rattle.machine_core.specs.Machine.{Machine, inputs}
use Rattle.machine_core.specs.Checked.{IsChecked}
use Rattle.net_core.specs.Netlist.{port}
use Rattle.graph_theory.specs.Graph.{Graph, held_count}
use Rattle.subject_graph.specs.Subject.{IsSubjectGraph}
use Rattle.cell_match.specs.declared.gate.Gate.{Gate}
use Rattle.boog_map.specs.Netlist.{HasRoomForCells}
use Rattle.boog_map.specs.Mapped.{node_gates}
use Rattle.boog_map.proofs.Dropped.{dropped_count}
use Rattle.boog_map.proofs.Lists.{take_all}
use Rattle.boog_map.proofs.Planning.{inputs_first}
use Rattle.boog_map.proofs.Rooms.{numbers_fit}

module _ (m : Machine) (g : Graph) (sub : IsSubjectGraph m g) (held : ℕ) (loads : List ℕ) (is_held : held ≡ held_count m) (is_loads : loads ≡ g.loads) where
  pub inputs_left : held - length loads ≡ length (inputs m)
  inputs_left = let e = ap length is_loads in let f = sub.roots.each in omega (arith, e, f, is_held)

  pub first_ports : IsChecked m → (names front : List Name) (ports : List Terminal) → names ≡ m.vars → front ≡ take (held - length loads) names
      → ports ≡ map port front → ports ≡ map port (inputs m)
  first_ports checked names front ports is is_front is_ports =
      is_ports ∙ ap (map port) (is_front ∙ inputs_first m names (held - length loads) checked is inputs_left)

pub gates_fit : (m : Machine) (g : Graph) → IsSubjectGraph m g → HasRoomForCells m → (drivers : List Terminal) (gs some : List (Option Gate)) → length drivers ≡ held_count m
    → length gs ≡ held_count m + length g.nodes → some ≡ node_gates m gs → length drivers + length some < 2 ^ 32
gates_fit m g sub room drivers gs some count long is =
    let fit = numbers_fit m g sub room in
    let a = ap length is in
    let b = dropped_count (held_count m) (length g.nodes) gs long in
    omega (arith, fit, a, b, count)

-- the gates behind those of inputs and registers
pub slice_is : (m : Machine) (gs : List (Option Gate)) (held : ℕ) → held ≡ held_count m → take (length gs - held) (drop held gs) ≡ node_gates m gs
slice_is m gs held is =
    take_all (drop held gs) (length gs - held) (let long = length-drop held gs in omega (arith, long)) ∙ ap (λ (n : ℕ). drop n gs) is
