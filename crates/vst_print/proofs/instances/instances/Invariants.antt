use Rattle.std.proofs.Common.{map, length, drop}
use Rattle.net_core.specs.Frame.{instance_of}
use Rattle.vst_print.proofs.Joined.{Instances}
use Rattle.vst_print.proofs.instances.instances.Given as goal

abbrev pub invariant-loop-node : goal.invariant-loop-node
invariant-loop-node l = Instances l.fn.out l.nets (map (instance_of l.models) l.nodes) (drop (length l.netlist.ports) l.netlist.classes) l.node-index l.rest l.out
