-- What buffers and drives ask of a netlist that is mapped, and what is known of its instances.
use Rattle.std.proofs.Common.{◌≡◌, inr, ℕ, ◌+◌, ◌*◌, ◌≤◌, false, List, map, filter, length, Option, Some, sym, ◌∙◌, ap, subst, arith, length-append}
use Rattle.std.specs.Prelude.{sum_by}
use Rattle.std.specs.List.{flat_map}
use Rattle.vlsi_base.specs.declared.name.Name.{Name}
use Rattle.vlsi_base.specs.declared.name.Port.{Port}
use Rattle.vlsi_base.specs.Names.{vdd, vss}
use Rattle.vlsi_base.specs.Member.{In, here}
use Rattle.machine_core.specs.Machine.{Machine}
use Rattle.machine_core.specs.Size.{machine_size}
use Rattle.machine_core.specs.Checked.{IsChecked}
use Rattle.source_checks.specs.Checks.{most_ports}
use Rattle.vlsi_base.specs.declared.kind.Kind.TheVariants as kind
use Rattle.cell_model.specs.Cell.{Cell}
use Rattle.cell_model.specs.Library.{Library, cell_of, IsUsable}
use Rattle.cell_model.specs.Usable.{IsFormed}
use Rattle.cell_model.proofs.Members.{All-In, In-map}
use Rattle.cell_checks.specs.Checked.{IsChecked as HasPassed}
use Rattle.cell_pins.specs.Pins.{supply}
use Rattle.cell_pins.specs.Table.{IsTableOf}
use Rattle.cell_pins.proofs.Sound.{member_at}
use Rattle.net_core.specs.declared.pins.ModelPins.{ModelPins}
use Rattle.net_core.specs.Places.{IsThere}
use Rattle.net_core.specs.Netlist.{Instance, Netlist, port, pin_of, pins_of}
use Rattle.net_core.specs.Checks.{IsPinTable}
use Rattle.net_theory.proofs.Basics.{length-map}
use Rattle.net_meaning.specs.Netlist.{Member, AbstractNetlist as Seen}
use Rattle.net_right.proofs.Lists.{in_place}
use Rattle.net_right.proofs.Models.{named_cell}
use Rattle.net_right.proofs.Places.{port_there}
use Rattle.net_right.proofs.Ports.{with_both, vdd_there, vss_there}
use Rattle.net_right.proofs.Seen.{right_cell}
use Rattle.net_meaning.specs.Order.{IsInNetlistOrder}
use Rattle.delay_sta.specs.Timed.{CanBeTimed}
use Rattle.loon_loads.specs.Sinks.{is_sink_of}
use Rattle.loon_fanout.specs.Sinks.{instance_sinks, all_sinks}
use Rattle.loon_wiring.specs.Repeaters.{NoneRepeats}
use Rattle.loon_fanout.specs.Limited.{IsOfCells, HasRoomForGates}
use Rattle.loon_fanout.specs.Laws.{IsTied}
use Rattle.loon_drive.specs.Laws.{HasNoBufferNames}
use Rattle.boog_run.specs.Boog.{IsNetlistFor}
use Rattle.tool_drive.specs.declared.size.TheConstants.{MOST_SIZE}
use Rattle.boog_run.proofs.Naming.{same_names}
use Rattle.boog_run.proofs.Sizes.{few_cells, few_pins as pins_by_graph}
use Rattle.flow_netlist.proofs.Names.{names_by, no_buffer_name}
use Rattle.flow_netlist.proofs.Counts.{flat_sum, flat_less}
use Rattle.flow_netlist.proofs.Pins.{pin_names, both_few, sinks_and_three}

-- an instance has a usable cell of the library, and its pins
pub record IsOfCell (l : Library) (i : Instance) : Type 0 where
  pub cell : Cell
  pub found : cell_of l i.model ≡ Some cell
  pub formed : IsFormed cell
  pub usable : IsUsable cell
  pub pins : i.pins ≡ pin_names cell

-- each register weighs 5
few_registers : (m : Machine) → 5 * length m.registers ≤ machine_size m
few_registers m = omega arith

module _ (l : Library) (m : Machine) (n : Netlist) (mapped : IsNetlistFor l m n) where
  -- ---- its instances, by their names

  abbrev pub known : Seen
  known = mapped.right.sourced.netlist

  pub in_order : IsInNetlistOrder known l m 0
  in_order = mapped.order known mapped.right.seen

  pub names_are : map (λ (i : Instance). i.name) n.instances ≡ names_by (length m.registers) in_order.gates 0
  names_are = same_names n.instances ∙ sym (ap (λ (k : Seen). map (λ (i : Member). i.name) k.instances) mapped.right.seen.is) ∙ in_order.names

  pub no_buffer_names : HasNoBufferNames n
  no_buffer_names i j at =
      no_buffer_name (length m.registers) in_order.gates i.name j
      (subst (λ (names : List (List ℕ)). In i.name names) names_are (In-map (λ (x : Instance). x.name) i n.instances (member_at n.instances at.0 i at.1)))

  -- ---- how many there are

  -- at most 3276 registers, and 16386 gates
  pub few_instances : machine_size m ≤ MOST_SIZE → length n.instances ≤ 19662
  few_instances small =
      let few = few_cells n m mapped.graph mapped.subject mapped.most in
      let held = few_registers m in
      omega (arith, few, held, small)

  -- beside an output and two supplies of each, they have at most 39324 pins
  pub few_pins : machine_size m ≤ MOST_SIZE → sum_by (λ (i : Instance). length i.pins) n.instances ≤ 3 * length n.instances + 39324
  few_pins small =
      let few = pins_by_graph n m mapped.graph mapped.subject mapped.few in
      let held = few_registers m in
      omega (arith, few, held, small)

  pub few_ports : length m.ports ≤ most_ports → length n.ports ≤ most_ports + 2
  few_ports few = let size = ap (λ (ps : List Port). length ps) mapped.right.ports in let both = both_few m.ports in omega (arith, few, size, both)

  -- ---- what buffers and drives ask of it

  pub of_cells : IsChecked m → IsOfCells n l
  of_cells checked = record {
    found = λ i at. let c = right_cell n l m checked mapped.right i at in (c.0, c.1, c.2, mapped.pins i c.0 at c.1);
    on_vdd = port_there n (supply vdd) (subst (λ (ps : List Port). IsThere ps (supply vdd)) (sym mapped.right.ports) (in_place (supply vdd) (with_both m.ports) (vdd_there m.ports)));
    on_vss = port_there n (supply vss) (subst (λ (ps : List Port). IsThere ps (supply vss)) (sym mapped.right.ports) (in_place (supply vss) (with_both m.ports) (vss_there m.ports)));
  }

  pub is_tied : (table : List ModelPins) → IsTableOf l false table → IsPinTable table → IsTied n
  is_tied table is_table sound = λ i name at is. (mapped.condition false table is_table sound).tied i name at is

  pub can_be_timed : IsChecked m → (table : List ModelPins) → IsTableOf l false table → IsPinTable table → CanBeTimed l n
  can_be_timed checked table is_table sound =
      let meets = mapped.condition false table is_table sound in
      record { all = false; table = table; listed = is_table; fits = meets.fits; passes = meets.passes; usable = λ i at. right_cell n l m checked mapped.right i at }

  -- what maps a machine has an inverter
  pub repeats : NoneRepeats l.cells → ⊥
  repeats none = let c = mapped.covered kind.Inv here in none c.cell c.listed (inr (c.usable, c.kind))

  pub has_room : length m.ports ≤ most_ports → machine_size m ≤ MOST_SIZE → HasRoomForGates n
  has_room ports small =
      let pins = flat_sum pins_of (λ (i : Instance). length i.pins) n.instances (λ i. length-map (pin_of i.name) i.pins) in
      let few = few_pins small in
      let instances = few_instances small in
      let all = few_ports ports in
      let names = length-map (λ (p : Port). port p.name) n.ports in
      let sum = length-append (map (λ (p : Port). port p.name) n.ports) (flat_map pins_of n.instances) in
      omega (arith, pins, few, instances, all, names, sum)

  module _ (passed : HasPassed false l) (checked : IsChecked m) where
    pub of_cell : (i : Instance) → IsThere n.instances i → IsOfCell l i
    of_cell i at =
        let c = (of_cells checked).found i at in
        let listed = named_cell l.cells i.model c.0 c.1 in
        record { cell = c.0; found = c.1; formed = All-In IsFormed l.cells passed.formed c.0 listed.0; usable = c.2; pins = c.3 }

    -- the sinks of an instance are three less than its pins at most
    few_of_one : (i : Instance) → IsThere n.instances i → length (instance_sinks l i) + 3 ≤ length i.pins
    few_of_one i at =
        let c = of_cell i at in
        let few = sinks_and_three c.cell c.formed c.usable in
        let same =
        ap (λ (o : Option Cell). length (filter (is_sink_of o) i.pins)) c.found
        ∙ ap (λ (ns : List Name). length (filter (is_sink_of (Some c.cell)) ns)) c.pins in
        let pins = ap (λ (ns : List Name). length ns) c.pins in
        let long = length-map (pin_of i.name) (filter (is_sink_of (cell_of l i.model)) i.pins) in
        omega (arith, few, same, pins, long)

    pub few_sinks : machine_size m ≤ MOST_SIZE → length (all_sinks l n.instances) ≤ 39324
    few_sinks small =
        let less = flat_less (instance_sinks l) (λ (i : Instance). length i.pins) n.instances few_of_one in
        let pins = few_pins small in
        omega (arith, less, pins)
