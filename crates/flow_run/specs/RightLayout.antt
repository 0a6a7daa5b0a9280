-- When the bytes of a file are a right layout of a machine.
use Rattle.std.specs.Prelude.{◌≡◌, ℕ, Bool, List, [], Some, length, map}
use Rattle.machine_core.specs.Machine.{Machine, outputs}
use Rattle.machine_core.specs.Cycles.{RunOf, AreVectors}
use Rattle.ap_io.specs.declared.figure.Figure.{Figure}
use Rattle.cell_model.specs.Library.{Library}
use Rattle.net_meaning.specs.Netlist.{AbstractNetlist, Extracts}
use Rattle.vlsi_base.specs.Names.{scalar}
use Rattle.net_meaning.specs.Well.{IsWell}
use Rattle.net_meaning.specs.Behaviour.{Contents, NetTrace, net_outs}
use Rattle.net_meaning.specs.Agreement.{Agrees, IsMatched}
use Rattle.net_meaning.specs.Breaches.{Breaches}
use Rattle.net_tight.specs.Tight.{IsTight}
use Rattle.loon_fanout.specs.Nets.{HasNoBuffer}
use Rattle.ocp_rows.specs.Placement.{Placement, IsPlaced}
use Rattle.machine_roots.specs.Roots.{IsGreatestDcount}
use Rattle.flow_run.specs.Origin.{Origin}
use Rattle.flow_run.specs.Route.{Route}
use Rattle.flow_run.specs.GridLayout.{IsLaidBy, IsLayoutText}
use Rattle.flow_run.specs.States.{AgreesWith}
use Rattle.flow_run.specs.Lean.{IsLeanBy}
use Rattle.flow_netlist.specs.Netlist.{IsDrivenAs}
use Rattle.flow_run.specs.Report.{report_of}

-- The bytes are the ap file of a figure that has the machine's name. Joined wherever shapes of one metal meet, the figure
-- is a netlist of the library's cells that is well formed for the machine, behaves as the machine does, and breaks no
-- symbolic rule. Of a state machine it does what this does, from the codes of its states and behind vectors that reset. Its ports,
-- instances, supplies and box are those of a placement: for tracks one row in the order of the netlist; without them rows over which
-- the nets are routed, one after another and each by least paths. It has few gates, few pins read each net,
-- it has no buffer at all where it would do without them; where no buffer is there, no cell of the library could stand for two of its
-- gates; and no exchange of one instance's cell makes its longest path shorter. The report is that of machine, netlist and placement, and
-- has the most nodes of a diagram of the machine's roots and the time of that path.
pub record IsRightLayout (bytes : List ℕ) (o : Origin) (m : Machine) (l : Library) (fanout : ℕ) (route : Route) (report : List ℕ) : Type 0 where
  pub figure : Figure
  pub netlist : AbstractNetlist
  pub placement : Placement
  pub file : IsLayoutText route bytes figure
  pub named : figure.name ≡ Some (scalar m.name)
  pub extracts : Extracts figure.items l netlist
  pub well : IsWell netlist l m
  pub agrees : Agrees netlist l m
  pub by_states : AgreesWith o netlist l m
  pub lawful : Breaches figure.items l []
  pub is_placed : IsPlaced figure.bounds figure.items netlist l placement
  pub many_buffers : ℕ
  pub in_order : IsLaidBy route figure netlist l m placement many_buffers
  pub lean : IsLeanBy netlist l m fanout
  pub tight : HasNoBuffer netlist → IsTight netlist l
  pub delay : ℕ
  pub driven : IsDrivenAs netlist l m delay
  pub nodes : ℕ
  pub counted : IsGreatestDcount m nodes
  pub reported : report ≡ report_of o m nodes delay netlist l placement 0

-- From matched contents and under every list of vectors, the netlist of a right layout runs, and gives the outputs of the
-- machine.
abbrev pub RightLayoutsRun : Type 0
RightLayoutsRun =
    (bytes : List ℕ) (o : Origin) (m : Machine) (l : Library) (fanout : ℕ) (route : Route) (report : List ℕ)
    (right : IsRightLayout bytes o m l fanout route report)
    (s : List Bool) (t : Contents) (v : List (List Bool))
    → length s ≡ length m.registers → IsMatched s t → AreVectors m v
    → (ws : List (List Bool)) × NetTrace right.netlist l m t v ws × RunOf m s v (map (net_outs right.netlist (outputs m)) ws)
