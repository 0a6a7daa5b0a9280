use Rattle.std.proofs.Common.{◌≡◌, ◌++◌, drop}
use Rattle.std.specs.List.{flat_map}
use Rattle.delay_sta.specs.Loads.{capacitances}
use Rattle.delay_sta.proofs.Finding.{instance_capacitances}
use Rattle.delay_sta.proofs.loads.capacitances.Given as goal

abbrev pub invariant-loop-node : goal.invariant-loop-node
invariant-loop-node l = l.capacitances.items ++ flat_map (instance_capacitances l.library) (drop l.node-index l.netlist.instances) ≡ capacitances l.netlist l.library
