use Rattle.std.proofs.Common.{take}
use Rattle.std.specs.List.{All}
use Rattle.net_core.specs.Frame.{instance_of}
use Rattle.net_right.specs.Writable.{CanBeAnInstance}
use Rattle.vst_print.proofs.test.can_be_instances.Given as goal

abbrev pub invariant-loop-node : goal.invariant-loop-node
invariant-loop-node l = All (λ d. CanBeAnInstance (instance_of l.models d)) (take l.node-index l.nodes)
