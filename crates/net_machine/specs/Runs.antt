-- The runs of a netlist, and those of its machine.
use Rattle.std.specs.Prelude.{Bool, List, map}
use Rattle.machine_core.specs.Machine.{Machine, outputs}
use Rattle.machine_core.specs.Cycles.{RunOf}
use Rattle.cell_model.specs.Library.{Library}
use Rattle.net_core.specs.declared.pins.ModelPins.{ModelPins}
use Rattle.net_core.specs.Netlist.{Netlist as InMemory}
use Rattle.net_meaning.specs.Netlist.{AbstractNetlist}
use Rattle.net_meaning.specs.Behaviour.{Contents, NetTrace, net_outs}
use Rattle.net_right.specs.View.{IsSeenAs}
use Rattle.net_machine.specs.Step.{KeepsStep, IsMachineOfNetlist}

-- From whatever contents, a run of the netlist gives the outputs of its machine from what the instances hold.
abbrev pub RunsAsItsMachine : Type 0
RunsAsItsMachine =
    (n : InMemory) (l : Library) (table : List ModelPins) (m : Machine) (k : AbstractNetlist) (is : IsMachineOfNetlist n l table m) (seen : IsSeenAs n k)
    (t : Contents) (v ws : List (List Bool)) → NetTrace k l m t v ws → RunOf m (KeepsStep.held (is.step k seen) t) v (map (net_outs k (outputs m)) ws)
