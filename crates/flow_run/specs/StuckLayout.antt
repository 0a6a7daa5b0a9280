-- When the bytes of a file show that a net of a machine's netlist got stuck.
use Rattle.std.specs.Prelude.{◌≡◌, ℕ, List, [], Some}
use Rattle.vlsi_base.specs.declared.name.Terminal.{Terminal}
use Rattle.vlsi_base.specs.Names.{scalar}
use Rattle.machine_core.specs.Machine.{Machine}
use Rattle.sym_geom.specs.declared.item.Instance.{Instance}
use Rattle.ap_io.specs.declared.figure.Figure.{Figure}
use Rattle.ap_io.specs.ApText.{IsApLines}
use Rattle.cell_model.specs.Library.{Library}
use Rattle.net_meaning.specs.Netlist.{AbstractNetlist}
use Rattle.net_meaning.specs.Well.{IsWell}
use Rattle.net_meaning.specs.Agreement.{Agrees}
use Rattle.net_meaning.specs.Order.{IsInNetlistOrder}
use Rattle.net_meaning.specs.Breaches.{Breaches}
use Rattle.net_tight.specs.Tight.{IsTight}
use Rattle.loon_fanout.specs.Nets.{HasNoBuffer}
use Rattle.net_drawing.specs.Shown.{KeepsNetlist}
use Rattle.ocp_rows.specs.Placement.{Placement, IsPlaced}
use Rattle.ocp_place.specs.Nets.{net_number}
use Rattle.grid_core.specs.Routes.{NetRoutes}
use Rattle.maze_drawing.specs.Wiring.{Wiring}
use Rattle.maze_drawing.specs.Law.{maze_items, part_items}
use Rattle.nero_nets.specs.Routed.{IsStuckBefore}
use Rattle.nero_nets.specs.Marks.{TellsNets}
use Rattle.flow_netlist.specs.Netlist.{IsDrivenAs}
use Rattle.flow_run.specs.Origin.{Origin}
use Rattle.flow_run.specs.States.{AgreesWith}
use Rattle.flow_run.specs.Lean.{IsLeanBy}
use Rattle.flow_run.specs.Route.{InRows}
use Rattle.flow_run.specs.GridLayout.{IsOverRows}

-- The bytes are the ap file of a figure that has the machine's name. By the marks at the points of its terminals, and by the names of its
-- supplies' pins, it tells a netlist of the library's cells that is right for the machine, lean, tight and driven as that of a right
-- layout is. The netlist is placed in rows as it is asked for, and its nets were routed by half perimeter, then by number, each by least paths beside those before it, up to
-- this net, from whose tree no free path leads to this terminal; the later nets have no wire. The lines are those of the placement and of
-- these routes, and then the marks: no two classes are joined, and no symbolic rule is broken.
pub record IsStuckLayout (bytes : List ℕ) (o : Origin) (m : Machine) (l : Library) (fanout : ℕ) (a : InRows) (net : ℕ) (terminal : Terminal) : Type 0 where
  pub figure : Figure
  pub netlist : AbstractNetlist
  pub placement : Placement
  pub file : IsApLines bytes figure
  pub named : figure.name ≡ Some (scalar m.name)
  pub told : TellsNets figure.items netlist l placement
  pub well : IsWell netlist l m
  pub agrees : Agrees netlist l m
  pub by_states : AgreesWith o netlist l m
  pub many_buffers : ℕ
  pub order : IsInNetlistOrder netlist l m many_buffers
  pub lean : IsLeanBy netlist l m fanout
  pub tight : HasNoBuffer netlist → IsTight netlist l
  pub delay : ℕ
  pub driven : IsDrivenAs netlist l m delay
  pub instances : List Instance
  pub routes : NetRoutes
  pub wiring : Wiring
  pub over : IsOverRows netlist l placement a instances routes wiring
  pub stuck : IsStuckBefore netlist l (net_number netlist l) placement instances a.metals routes net terminal
  pub lines : figure.items ≡ part_items netlist l (net_number netlist l) placement instances wiring
  pub is_placed : IsPlaced figure.bounds (maze_items netlist l placement instances wiring) netlist l placement
  pub keeps : KeepsNetlist figure.items l netlist
  pub lawful : Breaches figure.items l []
