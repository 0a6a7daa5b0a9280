use Rattle.std.proofs.Common.{◌≡◌, ◌++◌, take, map}
use Rattle.net_core.specs.Frame.{instance_of}
use Rattle.scan_build.specs.Sketched.{instance_by}
use Rattle.scapin.proofs.insert.push_nodes.Given as goal

abbrev pub invariant-loop-node : goal.invariant-loop-node
invariant-loop-node l = map instance_by l.entries.items ≡ map instance_by l.initial.entries.items ++ map (instance_of l.models) (take l.node-index l.nodes)
