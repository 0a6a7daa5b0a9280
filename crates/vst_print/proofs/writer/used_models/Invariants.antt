use Rattle.std.proofs.Common.{◌≡◌, take, map}
use Rattle.net_core.specs.Frame.{instance_of}
use Rattle.vst_print.specs.Written.{used_models}
use Rattle.vst_print.proofs.writer.used_models.Given as goal

abbrev pub invariant-loop-node : goal.invariant-loop-node
invariant-loop-node l = l.used ≡ used_models (map (instance_of l.models) (take l.node-index l.nodes))
