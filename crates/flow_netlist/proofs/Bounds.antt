-- A mapped netlist with buffers and drives has few instances, pins and ports.
use Rattle.std.proofs.Common.{ℕ, ◌+◌, ◌≤◌, false, List, map, filter, length, codes, ◌∙◌, ap, arith, length-append}
use Rattle.vlsi_base.specs.declared.name.Name.{Name}
use Rattle.vlsi_base.specs.declared.name.Port.{Port}
use Rattle.machine_core.specs.Machine.{Machine}
use Rattle.machine_core.specs.Size.{machine_size}
use Rattle.machine_core.specs.Checked.{IsChecked}
use Rattle.source_checks.specs.Checks.{most_ports}
use Rattle.cell_model.specs.Library.{Library}
use Rattle.cell_checks.specs.Checked.{IsChecked as HasPassed}
use Rattle.net_core.specs.Places.{Stands}
use Rattle.net_core.specs.Netlist.{Instance, Netlist}
use Rattle.net_theory.proofs.Basics.{length-map}
use Rattle.ocp_place.specs.Nets.{is_signal}
use Rattle.route_draw.specs.Law.{HasFewPins}
use Rattle.text_names.specs.Free.{free_texts}
use Rattle.loon_fanout.specs.Limited.{IsOfCells, HasFewGates}
use Rattle.loon_drive.specs.Driven.{IsDrivenFrom}
use Rattle.loon_drive.specs.Laws.{DrivenIsGrown, DrivenIsChosen, BuffersHaveFewPins}
use Rattle.boog_run.specs.Boog.{IsNetlistFor}
use Rattle.tool_drive.specs.declared.size.TheConstants.{MOST_SIZE}
use Rattle.flow_netlist.proofs.Counts.{paired_then_two}
use Rattle.flow_netlist.proofs.Pins.{signals_few}
use Rattle.flow_netlist.proofs.Mapped.{few_instances, few_pins, few_ports, of_cell, few_sinks}

module _ (l : Library) (m : Machine) (n k : Netlist) (fanout delay : ℕ) (passed : HasPassed false l) (checked : IsChecked m) (mapped : IsNetlistFor l m n)
    (made : IsDrivenFrom n l fanout k delay) (small : machine_size m ≤ MOST_SIZE) where
  -- the pins of a register or gate that are no supplies are two less at most than those that it had
  of_old : DrivenIsChosen → (place : ℕ) (j i : Instance) → Stands k.instances place j → Stands n.instances place i → length (filter is_signal j.pins) + 2 ≤ length i.pins
  of_old chosen place j i now was =
      let ch = chosen n l fanout k delay place i j made was now in
      let c = of_cell l m n mapped passed checked i (place, was) in
      let few = signals_few c.cell in
      let same = ap (λ (x : Instance). length (filter is_signal x.pins)) ch.same ∙ ap (λ (ns : List Name). length (filter is_signal ns)) c.pins in
      let long = ap (λ (ns : List Name). length ns) c.pins in
      omega (arith, few, same, long)

  -- and a buffer two
  of_buffer : IsOfCells k l → BuffersHaveFewPins → (place : ℕ) (j : Instance) → Stands k.instances place j → length n.instances ≤ place → length (filter is_signal j.pins) ≤ 2
  of_buffer cells four place j at high =
      let all = four n l fanout k delay place j passed made high at in
      let c = cells.found j (place, at) in
      let few = signals_few c.0 in
      let long = ap (λ (ns : List Name). length ns) c.3 in
      let same = ap (λ (ns : List Name). length (filter is_signal ns)) c.3 in
      omega (arith, all, few, long, same)

  -- there are as many instances, and buffers
  no_fewer : DrivenIsGrown → length n.instances ≤ length k.instances
  no_fewer grown =
      let g = grown n l fanout k delay made in
      let old = map (λ (i : Instance). i.name) n.instances in
      let names = ap (λ (ts : List (List ℕ)). length ts) g.names in
      let sum = length-append old (free_texts (codes "b") old g.buffers) in
      let a = length-map (λ (i : Instance). i.name) k.instances in
      let b = length-map (λ (i : Instance). i.name) n.instances in
      omega (arith, names, sum, a, b)

  pub has_few_pins : DrivenIsGrown → DrivenIsChosen → BuffersHaveFewPins → IsOfCells k l → HasFewGates n l k → HasFewPins k
  has_few_pins grown chosen four cells few =
      let old = few_instances l m n mapped small in
      let sinks = few_sinks l m n mapped passed checked small in
      let had = few_pins l m n mapped small in
      let pins =
      paired_then_two (λ (i : Instance). length (filter is_signal i.pins)) (λ (i : Instance). length i.pins) k.instances n.instances (no_fewer grown) (of_old chosen) (of_buffer cells four) in
      record { instances = omega (arith, old, sinks, few); pins = omega (arith, old, sinks, few, had, pins) }

  pub has_few_ports : DrivenIsGrown → length m.ports ≤ most_ports → length k.ports ≤ most_ports + 2
  has_few_ports grown few =
      let same = ap (λ (ps : List Port). length ps) (grown n l fanout k delay made).ports in
      let old = few_ports l m n mapped few in
      omega (arith, same, old)
